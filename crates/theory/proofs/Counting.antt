-- What recording a pair does to the counts of an order.
use Rattle.std.proofs.Common.{◌≡◌, ℕ, ◌*◌, ◌^◌, ◌<◌, ◌≤◌, cond, not, ◌&&◌, T, ltb, List, length, get_or, count_by, ap, ◌∙◌, inl, inr, zero-le, le_refl, arith, ltb→lt, lt→ltb, T_not}
use lib.Dec.{not_T}
use lib.Count.{ones, ones-le}
use Rattle.std.proofs.lemmas.Bool.{cases_eq, cases_order}
use Rattle.execution.specs.declared.operation.Operation.{Operation}
use Rattle.execution.specs.Operations.{rivals}
use Rattle.std.specs.List.{range_with_len}
use Rattle.theory.specs.Order.{Rows, before, recorded, Settled, pairs, missing, undecided_pair, undecided}
use Rattle.theory.proofs.Tests.{four, both, not_mono, cond_either, cond_no, cond_mono, cond_strict}
use Rattle.theory.proofs.Totals.{sum, from, map_same, map_get_or, sum_by_is, from_mono, from_strict, from_below, from_past, from_falling, triangle}
use Rattle.theory.proofs.Marks.{mark, ones_mono, ones_strict, marks_below}
use Rattle.theory.proofs.Operations.{rival_parts, rivals_turn}
use Rattle.theory.proofs.Recording.{Transitive, marked, mark_before, unmarked, length_recorded, recorded_narrow, recorded_keeps, recorded_has, recorded_transitive}

-- n rows of n bits
pub record Square (n : ℕ) (R : Rows) : Type 0 where
  pub rows : length R ≡ n
  pub within : (x y : ℕ) → T (before R x y) → y < n

pub recorded_square : (n a b : ℕ) (R : Rows) → Square n R → b < n → Square n (recorded a b R)
recorded_square n a b R s h = record {
  rows = length_recorded a b R ∙ s.rows;
  within = λ x y t. elim (recorded_narrow a b R x y t) [ inl u ↦ s.within x y u | inr w ↦ elim w.1 [ inl e ↦ omega arith | inr u ↦ s.within b y u ] ];
}

pub settled_square : (n : ℕ) (R : Rows) → Settled n R → Square n R
settled_square n R s = record { rows = s.rows; within = s.within }

pub square_settled : (n : ℕ) (R : Rows) → Square n R → Transitive R → Settled n R
square_settled n R s t = record { rows = s.rows; within = s.within; joins = t }

pub settled_recorded : (n a b : ℕ) (R : Rows) → Settled n R → b < n → Settled n (recorded a b R)
settled_recorded n a b R s h = square_settled n (recorded a b R) (recorded_square n a b R (settled_square n R s) h) (recorded_transitive a b R s.joins)

pub low : (n : ℕ) (R : Rows) → Square n R → (x : ℕ) → get_or R x 0 < 2 ^ n
low n R s x = marks_below n (get_or R x 0) (λ y h. unmarked R x y (not_T (before R x y) (λ k. let l = s.within x y k in omega arith)))

pub pairs_total : (n : ℕ) (R : Rows) → Square n R → pairs R ≡ from 0 n (λ x. ones (get_or R x 0))
unfolding pairs
pairs_total n R s = sum_by_is ones R ∙ ap sum (map_get_or ones R) ∙ ap (λ k. from 0 k (λ x. ones (get_or R x 0))) s.rows

pairs_most : (n : ℕ) (R : Rows) → Square n R → pairs R ≤ n * n
pairs_most n R s = rw (pairs_total n R s) (from_below (λ x. ones (get_or R x 0)) n 0 n (λ x. ones-le n (get_or R x 0) (low n R s x)))

-- an order within another, by a pair less
module _ (n : ℕ) (R Q : Rows) (r : Square n R) (q : Square n Q) (sub : (x y : ℕ) → T (before R x y) → T (before Q x y)) where
  pub more_marks : (x y : ℕ) → mark (get_or R x 0) y ≤ mark (get_or Q x 0) y
  more_marks x y =
      elim (cases_eq (mark (get_or R x 0) y) 1) [
        | inl e ↦ let m = marked Q x y (sub x y (mark_before R x y e)) in omega arith
        | inr d ↦ omega arith
      ]

  pub pairs_mono : pairs R ≤ pairs Q
  pairs_mono =
      rw (pairs_total n R r, pairs_total n Q q)
      (from_mono (λ x. ones (get_or R x 0)) (λ x. ones (get_or Q x 0)) 0 n (λ x _ _. ones_mono n (get_or R x 0) (get_or Q x 0) (low n R r x) (low n Q q x) (more_marks x)))

  pairs_grow : (a b : ℕ) → a < n → b < n → T (not (before R a b)) → T (before Q a b) → pairs R < pairs Q
  pairs_grow a b a_in b-in f t =
      rw (pairs_total n R r, pairs_total n Q q)
      (from_strict (λ x. ones (get_or R x 0)) (λ x. ones (get_or Q x 0)) 0 n
      (λ x _ _. ones_mono n (get_or R x 0) (get_or Q x 0) (low n R r x) (low n Q q x) (more_marks x)) a (omega arith) (omega arith)
      (ones_strict n (get_or R a 0) (get_or Q a 0) (low n R r a) (low n Q q a) (more_marks a) b b-in (omega (arith, unmarked R a b f, marked Q a b t))))

-- 1 for a pair that is undecided, lower number first
abbrev open_pair : List Operation → Rows → ℕ → ℕ → ℕ
open_pair E R s t = cond (undecided_pair E R s t) 1 0

undecided_total : (E : List Operation) (R : Rows) → undecided E R ≡ from 0 (length E) (λ s. from 0 (length E) (open_pair E R s))
undecided_total E R =
    let row : ℕ → ℕ = λ s. count_by (undecided_pair E R s) (range_with_len 0 (length E)) in
    sum_by_is row (range_with_len 0 (length E)) ∙ ap sum (map_same row (λ s. from 0 (length E) (open_pair E R s)) (λ s. sum_by_is (open_pair E R s) (range_with_len 0 (length E))) (range_with_len 0 (length E)))

-- a pair that an order leaves undecided
pub record Open (E : List Operation) (R : Rows) (s t : ℕ) : Type 0 where
  pub rival : T (rivals E s t)
  pub one_way : T (not (before R s t))
  pub other_way : T (not (before R t s))

pub open_turn : (E : List Operation) (R : Rows) (s t : ℕ) → Open E R s t → Open E R t s
open_turn E R s t o = record { rival = rivals_turn E s t o.rival; one_way = o.other_way; other_way = o.one_way }

open_parts : (E : List Operation) (R : Rows) (s t : ℕ) → T (undecided_pair E R s t) → Open E R s t × (s < t)
open_parts E R s t h =
    let p = four (rivals E s t) (ltb s t) (not (before R s t)) (not (before R t s)) h in
    (record { rival = p.0; one_way = p.2; other_way = p.3 }, ltb→lt s t p.1)

parts_open : (E : List Operation) (R : Rows) (s t : ℕ) → Open E R s t → s < t → T (undecided_pair E R s t)
parts_open E R s t o l =
    both (rivals E s t && ltb s t && not (before R s t)) (not (before R t s))
    (both (rivals E s t && ltb s t) (not (before R s t)) (both (rivals E s t) (ltb s t) o.rival (lt→ltb s t l)) o.one_way)
    o.other_way

module _ (E : List Operation) (a b : ℕ) (R : Rows) (square : Square (length E) R) (a_in : a < length E) (b-in : b < length E) where
  abbrev Q : Rows
  Q = recorded a b R

  added : T (before Q a b)
  added = let e = square.rows in recorded_has a b R (omega arith)

  pub missing_falls : T (not (before R a b)) → missing E Q < missing E R
  unfolding missing
  missing_falls h =
      let s : Square (length E) Q = recorded_square (length E) a b R square b-in in
      omega (arith, pairs_grow (length E) R Q square s (recorded_keeps a b R) a b a_in b-in h added, pairs_most (length E) Q s)

  open_kept : (s t : ℕ) → open_pair E Q s t ≤ open_pair E R s t
  open_kept s t =
      cond_mono (undecided_pair E Q s t) (undecided_pair E R s t) λ h.
      let p = open_parts E Q s t h in
      parts_open E R s t (record {
        rival = p.0.rival;
        one_way = not_mono (before R s t) (before Q s t) (recorded_keeps a b R s t) p.0.one_way;
        other_way = not_mono (before R t s) (before Q t s) (recorded_keeps a b R t s) p.0.other_way;
      })
      p.1

  rows_kept : (s : ℕ) → from 0 (length E) (open_pair E Q s) ≤ from 0 (length E) (open_pair E R s)
  rows_kept s = from_mono (open_pair E Q s) (open_pair E R s) 0 (length E) (λ t _ _. open_kept s t)

  pub undecided_stays : undecided E Q ≤ undecided E R
  undecided_stays =
      rw (undecided_total E Q, undecided_total E R)
      (from_mono (λ s. from 0 (length E) (open_pair E Q s)) (λ s. from 0 (length E) (open_pair E R s)) 0 (length E) (λ s _ _. rows_kept s))

  falls_at : (s t : ℕ) → s < length E → t < length E → Open E R s t → s < t → (Open E Q s t → ⊥) → undecided E Q < undecided E R
  falls_at s t s-in t-in o l shut =
      rw (undecided_total E Q, undecided_total E R)
      (from_strict (λ s. from 0 (length E) (open_pair E Q s)) (λ s. from 0 (length E) (open_pair E R s)) 0 (length E) (λ s _ _. rows_kept s) s (omega arith) (omega arith)
      (from_strict (open_pair E Q s) (open_pair E R s) 0 (length E) (λ t _ _. open_kept s t) t (omega arith) (omega arith)
      (cond_strict (undecided_pair E Q s t) (undecided_pair E R s t) (λ h. shut (open_parts E Q s t h).0) (parts_open E R s t o l))))

  pub undecided_falls : Open E R a b → undecided E Q < undecided E R
  undecided_falls o =
      elim (cases_order a b) [
        | inl e ↦ absurd ((rival_parts E a b o.rival).differ e)
        | inr (inl l) ↦ falls_at a b a_in b-in o l (λ q. T_not (before Q a b) q.one_way added)
        | inr (inr l) ↦ falls_at b a b-in a_in (open_turn E R a b o) l (λ q. T_not (before Q a b) q.other_way added)
      ]

-- of n numbers there are no more pairs than the triangle
pub undecided_most : (E : List Operation) (R : Rows) → undecided E R ≤ triangle (length E)
undecided_most E R =
    rw (undecided_total E R)
    (from_falling (λ s. from 0 (length E) (open_pair E R s)) 0 (length E) (λ s _ s-in. from_past (open_pair E R s) s 0 (length E)
    (λ t. cond_either (λ v. v ≤ 1) (undecided_pair E R s t) 1 0 (λ _. le_refl 1) (λ _. zero-le))
    (λ t l. cond_no (undecided_pair E R s t) 1 0 (λ h. let p = (open_parts E R s t h).1 in omega arith)) (omega arith) (omega arith)))
