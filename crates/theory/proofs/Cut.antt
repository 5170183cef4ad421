-- The first n rows of more: what holds of them, read off all.
use Rattle.std.proofs.Common.{◌≡◌, ℕ, ◌+◌, ◌/◌, ◌%◌, ◌^◌, ◌<◌, ◌≤◌, true, false, cond, ◌||◌, T, eqb, length, get_or, take, sym, ap, ◌∙◌, subst, ap₂, inl, inr, arith}
use lib.Bits.{bit_or}
use lib.Count.{ones}
use Rattle.std.proofs.lemmas.List.{ext_get_or, length-take-le, get_or-take}
use Rattle.std.proofs.lemmas.List.Sums.{sum_by_more}
use Rattle.std.proofs.lemmas.Bool.{cases_Bool}
use Rattle.std.specs.List.{range_with_len}
use Rattle.theory.specs.Order.{Rows, before, recorded, cyclic, pairs}
use Rattle.theory.proofs.Ranges.{all_below, below_all, any_none, none_any}
use Rattle.theory.proofs.Recording.{length_recorded, recorded_row}

-- rows that are as recording leaves them
pub as_recorded : (a b : ℕ) (R Q : Rows) → length Q ≡ length R
    → ((x : ℕ) → x < length R → get_or Q x 0 ≡ cond (eqb x a || before R x a) (bit_or (get_or R x 0) (bit_or (get_or R b 0) (2 ^ b))) (get_or R x 0))
    → Q ≡ recorded a b R
as_recorded a b R Q e h = ext_get_or 0 Q (recorded a b R) (e ∙ sym (length_recorded a b R)) (λ x l. h x (omega arith) ∙ sym (recorded_row a b R x (omega arith)))

-- recording commutes with the cut
pub cut_recorded : (n a b : ℕ) (R : Rows) → n ≤ length R → b < n → take n (recorded a b R) ≡ recorded a b (take n R)
cut_recorded n a b R h l =
    let e = length_recorded a b R in
    let q = length-take-le n (recorded a b R) (omega arith) in
    let r = length-take-le n R h in
    as_recorded a b (take n R) (take n (recorded a b R)) (q ∙ sym r)
    (λ x k. let k' : x < n = omega arith in
    get_or-take n (recorded a b R) x 0 k' ∙ recorded_row a b R x (omega arith)
    ∙ ap₂ (λ u v. cond (eqb x a || eqb (u / 2 ^ a % 2) 1) (bit_or u (bit_or v (2 ^ b))) u) (sym (get_or-take n R x 0 k')) (sym (get_or-take n R b 0 l)))

pub cut_before : (n a b : ℕ) (R : Rows) → a < n → before (take n R) a b ≡ before R a b
cut_before n a b R h = ap (λ r. eqb (r / 2 ^ b % 2) 1) (get_or-take n R a 0 h)

-- one row more, counted
pub pairs_more : (R : Rows) (i : ℕ) → i < length R → pairs (take (i + 1) R) ≡ pairs (take i R) + ones (get_or R i 0)
unfolding pairs
pairs_more R i h = sum_by_more ones R i 0 h

-- whether one of the first n is before itself
pub cut_cycle : (n : ℕ) (R : Rows) → n ≤ length R → (x : ℕ) → x < n → before R x x ≡ true → true ≡ cyclic (take n R)
cut_cycle n R h x l e =
    let k = length-take-le n R h in
    elim (cases_Bool (cyclic (take n R))) [
      | inl t ↦ sym t
      | inr f ↦ let none = none_any (λ x. before (take n R) x x) (range_with_len 0 (length (take n R))) (λ t. subst T f t) in
          absurd (below_all (λ x. T (before (take n R) x x) → ⊥) (length (take n R)) none x (omega arith) (subst T (sym (cut_before n x x R l ∙ e)) tt))
    ]

pub cut_no_cycle : (n : ℕ) (R : Rows) → n ≤ length R → ((x : ℕ) → x < n → before R x x ≡ false) → false ≡ cyclic (take n R)
cut_no_cycle n R h none =
    let k = length-take-le n R h in
    elim (cases_Bool (cyclic (take n R))) [
      | inr f ↦ sym f
      | inl t ↦ absurd (any_none (λ x. before (take n R) x x) (range_with_len 0 (length (take n R))) (all_below (λ x. T (before (take n R) x x) → ⊥) (length (take n R)) (λ x l s. subst T (cut_before n x x R (omega arith) ∙ none x (omega arith)) s)) (subst T (sym t) tt))
    ]
