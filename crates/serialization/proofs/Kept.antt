-- What the tests of an order's places say.
use Rattle.std.proofs.Common.{◌≡◌, ℕ, ◌<◌, Bool, true, false, not, ◌&&◌, ◌||◌, T, ltb, List, [], ◌∷◌, length, get_or, refl, sym, subst, ltb→lt, lt→ltb, T_not, ◌∙◌, arith}
use Rattle.std.specs.Prelude.{Decides}
use Rattle.std.specs.List.{range_with_len, list_all, list_any}
use lib.Dec.{not_T}
use Rattle.std.proofs.lemmas.List.FromFn.{length-range_with_len, get_or-range_with_len}
use Rattle.std.proofs.lemmas.List.Sums.{AllPass-from_list_all, list_all-from_AllPass}
use Rattle.execution.specs.declared.operation.Operation.{Operation}
use Rattle.execution.specs.Operations.{load_at, source, touches}
use Rattle.theory.specs.Order.{Rows, before}
use Rattle.theory.proofs.Tests.{three, both, if_then, then_if}
use Rattle.theory.proofs.Operations.{touch_parts}
use Rattle.serialization.specs.Serials.{Keeps, NoneBetween, kept_by, free_of}

truth : (b : Bool) → T b → b ≡ true
truth true t = refl
truth false t = absurd t

-- a test that all numbers below n pass
module _ (f : ℕ → Bool) (n : ℕ) where
  pub each_passes : list_all f (range_with_len 0 n) ≡ true → (x : ℕ) → x < n → T (f x)
  each_passes e x h =
      let nth : get_or (range_with_len 0 n) x 0 ≡ x = omega (arith, get_or-range_with_len 0 n x 0 h) in
      subst (λ z. T (f z)) nth (subst T (sym (AllPass-from_list_all f (range_with_len 0 n) e x 0 (omega (arith, length-range_with_len 0 n)))) tt)

  pub all_pass : ((x : ℕ) → x < n → T (f x)) → list_all f (range_with_len 0 n) ≡ true
  all_pass h = list_all-from_AllPass f (range_with_len 0 n) (λ k d l.
      let m : k < n = omega (arith, length-range_with_len 0 n) in
      let nth : get_or (range_with_len 0 n) k d ≡ k = omega (arith, get_or-range_with_len 0 n k d m) in
      truth _ (subst (λ z. T (f z)) (sym nth) (h k m)))

-- all fail a test where none passes it
all_fail : (f : ℕ → Bool) (xs : List ℕ) → list_all (λ x. not (f x)) xs ≡ not (list_any f xs)
all_fail f [] = refl
all_fail f (x ∷ xs) = elim (f x) as (λ b. (not b && list_all (λ y. not (f y)) xs) ≡ not (b || list_any f xs)) [ true ↦ refl | false ↦ all_fail f xs ]

-- a test that no number below n passes
module _ (f : ℕ → Bool) (n : ℕ) where
  pub each_fails : not (list_any f (range_with_len 0 n)) ≡ true → (x : ℕ) → x < n → T (f x) → ⊥
  each_fails e x h = T_not (f x) (each_passes (λ y. not (f y)) n (all_fail f (range_with_len 0 n) ∙ e) x h)

  pub none_passes : ((x : ℕ) → x < n → T (f x) → ⊥) → not (list_any f (range_with_len 0 n)) ≡ true
  none_passes h = sym (all_fail f (range_with_len 0 n)) ∙ all_pass (λ y. not (f y)) n (λ x l. not_T (f x) (h x l))

module _ (n : ℕ) (R : Rows) (at : List ℕ) where
  abbrev in_place : ℕ → ℕ → Bool
  in_place a b = not (before R a b) || ltb (get_or at a 0) (get_or at b 0)

  pub keeps_is : Decides (list_all (kept_by n R at) (range_with_len 0 n)) (Keeps n R at)
  keeps_is = (
    λ e a b h k t. ltb→lt _ _ (if_then (before R a b) _ (each_passes (in_place a) n (truth _ (each_passes (kept_by n R at) n e a h)) b k) t),
    λ kept. all_pass (kept_by n R at) n (λ a h. subst T (sym (all_pass (in_place a) n (λ b k. then_if (before R a b) _ (λ t. lt→ltb _ _ (kept a b h k t))))) tt),
  )

module _ (E : List Operation) (at : List ℕ) where
  abbrev between : ℕ → ℕ → Bool
  between l t = touches E t l && ltb (get_or at (source E l) 0) (get_or at t 0) && ltb (get_or at t 0) (get_or at l 0)

  pub free_is : Decides (list_all (free_of E at) (range_with_len 0 (length E))) (NoneBetween E at)
  free_is = (
    λ e l t h k c p q. each_fails (between l) (length E) (truth _ (each_passes (free_of E at) (length E) e l h)) t k (both _ _ (both _ _ c (lt→ltb _ _ p)) (lt→ltb _ _ q)),
    λ free. all_pass (free_of E at) (length E) (λ l h. subst T (sym (none_passes (between l) (length E) (λ t k b. let p = three _ _ _ b in free l t h k p.0 (ltb→lt _ _ p.1) (ltb→lt _ _ p.2)))) tt),
  )

  -- what is no load saw nothing
  pub no_load_free : (l : ℕ) → load_at E l ≡ false → true ≡ free_of E at l
  no_load_free l none = sym (none_passes (between l) (length E) (λ t k b. subst T none (touch_parts E t l (three _ _ _ b).0).load))
