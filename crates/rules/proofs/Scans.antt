-- Scans that are left at the first that passes a test.
use Rattle.std.proofs.Common.{◌≡◌, ℕ, ◌<◌, ◌≤◌, Bool, true, false, List, [], ◌∷◌, Some, None, sym, arith}
use Rattle.std.proofs.lemmas.Bool.{cond-true, cond-false}
use Rattle.order.specs.Bits.{LowestOf}
use Rattle.theory.specs.Lists.{over, first_by}
use Rattle.theory.proofs.Firsts.{over_none, first_over}

module _ {A : Type 0} (f : A → Bool) where
  -- one alone
  pub one_passes : (q : A) → true ≡ f q → first_by f (q ∷ []) ≡ Some q
  one_passes q e = cond-true (f q) _ _ (sym e)

  pub one_fails : (q : A) → false ≡ f q → first_by f (q ∷ []) ≡ None
  one_fails q e = cond-false (f q) _ _ (sym e)

  -- the lowest number that passes, where the scan is of numbers below n
  module _ (g : ℕ → A) (n : ℕ) where
    -- there is none
    pub none_lowest : n ≤ 32 → LowestOf (λ b. f (g b)) None → first_by f (over n (λ b. g b ∷ [])) ≡ None
    none_lowest few h = over_none f n _ (λ b l. cond-false (f (g b)) _ _ (h b (omega arith)))

    -- it is b
    pub lowest_first : (b : ℕ) → b < n → LowestOf (λ b. f (g b)) (Some b) → first_by f (over n (λ b. g b ∷ [])) ≡ Some (g b)
    lowest_first b l h = first_over f n _ b (g b) l (λ x m. cond-false (f (g x)) _ _ (h.1 x m)) (cond-true (f (g b)) _ _ h.0)

  -- a scan over two numbers below n, by x and then by y: to its end
  module _ (n : ℕ) (g : ℕ → ℕ → List A) where
    pub all_fail : ((x y : ℕ) → x < n → y < n → first_by f (g x y) ≡ None) → first_by f (over n (λ x. over n (g x))) ≡ None
    all_fail h = over_none f n _ (λ x l. over_none f n (g x) (λ y m. h x y l m))

    -- and left at x and y
    pub first_passes : (x y : ℕ) (q : A) → x < n → y < n → ((k t : ℕ) → k < x → t < n → first_by f (g k t) ≡ None) → ((t : ℕ) → t < y → first_by f (g x t) ≡ None)
        → first_by f (g x y) ≡ Some q → first_by f (over n (λ x. over n (g x))) ≡ Some q
    first_passes x y q l m before below e = first_over f n _ x q l (λ k b. over_none f n (g k) (λ t u. before k t b u)) (first_over f n (g x) y q m below e)
