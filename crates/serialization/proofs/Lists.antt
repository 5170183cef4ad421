-- What iterators over a list answer, and over the numbers below a bound.
use Rattle.std.proofs.Common.{◌≡◌, ℕ, zero, suc, ◌+◌, ◌<◌, Bool, true, false, cond, ◌||◌, eqb, List, [], ◌∷◌, map, length, get_or, Some, None, Option, sym, refl, ap, ◌∙◌, ap₂, subst, arith}
use Rattle.std.specs.Prelude.{MatchBool, MatchOption, Decides, unwrap_or}
use Rattle.std.specs.List.{range_with_len, list_any, count_by, AllWithin, HoldsAt}
use Rattle.std.proofs.lemmas.List.FromFn.{length-range_with_len, get_or-range_with_len, map-range_with_len_more}
use Rattle.std.proofs.lemmas.List.Recursion.{is_count_by, found_at, found_nowhere, or_push}
use Rattle.std.proofs.lemmas.Iterator.{index_from_first}
use Rattle.std.proofs.lemmas.Bool.{eq-eqb, ne_eqb, cond-true, cond-false}
use Rattle.theory.specs.Lists.{any, first_by, place, count}

-- std's words for what iterators answer, and the theory's
pub count_is : (a : ℕ) (σ : List ℕ) → count_by (λ x. eqb x a) σ ≡ count σ a
count_is a σ = sym (is_count_by (λ τ. count τ a) (λ x. eqb x a) refl (λ _ _. refl) σ)

pub any_is : (f : ℕ → Bool) (xs : List ℕ) → list_any f xs ≡ any (map f xs)
any_is f [] = refl
any_is f (x ∷ xs) = ap (λ b. f x || b) (any_is f xs)

-- where a first stands is what `position` answers, or the length
pub place_by : (σ : List ℕ) (a : ℕ) (r : Option ℕ)
    → MatchOption r (AllWithin (λ x. x ≡ a → ⊥) σ 0 (length σ)) (λ i. (i < length σ) × HoldsAt (λ x. x ≡ a) σ i × AllWithin (λ x. x ≡ a → ⊥) σ 0 i)
    → place σ a ≡ unwrap_or r (length σ)
place_by σ a r found =
    index_from_first (λ τ. place τ a) (λ x. x ≡ a) (λ x. x ≡ a → ⊥) refl
    (λ x τ e. cond-true (eqb x a) 0 (1 + place τ a) (eq-eqb x a e))
    (λ x τ d. omega (arith, cond-false (eqb x a) 0 (1 + place τ a) (ne_eqb x a d)))
    σ r found

-- the numbers below n, by place
long : (n k : ℕ) → k < n → k < length (range_with_len 0 n)
long n k h = omega (arith, length-range_with_len 0 n)

nth : (n k : ℕ) → k < n → get_or (range_with_len 0 n) k 0 ≡ k
nth n k h = omega (arith, get_or-range_with_len 0 n k 0 h)

-- what `all` over the numbers below n decides
pub all_below : (Yes No : ℕ → Type 0) (n : ℕ) (r : Bool) → ((x : ℕ) → Yes x → No x → ⊥)
    → MatchBool r (AllWithin Yes (range_with_len 0 n) 0 (length (range_with_len 0 n))) ((k : ℕ) × (k < length (range_with_len 0 n)) × HoldsAt No (range_with_len 0 n) k)
    → Decides r ((x : ℕ) → x < n → Yes x)
all_below Yes No n true apart all = (λ _ x h. subst Yes (nth n x h) (all x 0 (omega arith) (long n x h)), λ _. refl)
all_below Yes No n false apart some =
    let h : some.0 < n = omega (arith, length-range_with_len 0 n) in
    (λ e. cc, λ all. absurd (apart some.0 (all some.0 h) (subst No (nth n some.0 h) (some.2 0))))

-- one more number, tested
pub any_more : (f : ℕ → Bool) (i : ℕ) → any (map f (range_with_len 0 (i + 1))) ≡ (any (map f (range_with_len 0 i)) || f i)
any_more f i = ap any (map-range_with_len_more f 0 i i (omega arith)) ∙ or_push any (λ b. b) refl (λ _ _. refl) (map f (range_with_len 0 i)) (f i)

-- the lowest number that passes
module _ (f : ℕ → Bool) (n : ℕ) where
  pub first_at : (j : ℕ) → j < n → ((x : ℕ) → x < j → f x ≡ false) → f j ≡ true → first_by f (range_with_len 0 n) ≡ Some j
  first_at j h m e =
      found_at (first_by f) f Some None refl (λ _ _. refl) (range_with_len 0 n) j 0 (long n j h)
      (λ k l. ap f (nth n k (omega arith)) ∙ m k l) (ap f (nth n j h) ∙ e) ∙ ap Some (nth n j h)

  pub first_nowhere : ((x : ℕ) → x < n → f x ≡ false) → first_by f (range_with_len 0 n) ≡ None
  first_nowhere m = found_nowhere (first_by f) f Some None refl (λ _ _. refl) (range_with_len 0 n) 0 (λ k l. let h : k < n = omega (arith, length-range_with_len 0 n) in ap f (nth n k h) ∙ m k h)

-- tests that agree below n
module _ (f g : ℕ → Bool) where
  maps_from : (i k : ℕ) → ((x : ℕ) → x < i + k → f x ≡ g x) → map f (range_with_len i k) ≡ map g (range_with_len i k)
  maps_from i zero h = refl
  maps_from i (suc k) h = ap₂ (λ y ys. y ∷ ys) (h i (omega arith)) (maps_from (i + 1) k (λ x l. h x (omega arith)))

  pub any_same : (n : ℕ) → ((x : ℕ) → x < n → f x ≡ g x) → any (map f (range_with_len 0 n)) ≡ any (map g (range_with_len 0 n))
  any_same n h = ap any (maps_from 0 n (λ x l. h x (omega arith)))

  firsts_from : (i k : ℕ) → ((x : ℕ) → x < i + k → f x ≡ g x) → first_by f (range_with_len i k) ≡ first_by g (range_with_len i k)
  firsts_from i zero h = refl
  firsts_from i (suc k) h = ap₂ (λ b o. cond b (Some i) o) (h i (omega arith)) (firsts_from (i + 1) k (λ x l. h x (omega arith)))

  -- and have the same lowest number
  pub first_same : (n : ℕ) → ((x : ℕ) → x < n → f x ≡ g x) → first_by f (range_with_len 0 n) ≡ first_by g (range_with_len 0 n)
  first_same n h = firsts_from 0 n (λ x l. h x (omega arith))
