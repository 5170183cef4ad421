-- The bits of a row, and how many are set.
use Rattle.std.proofs.Common.{◌≡◌, ℕ, zero, suc, ◌/◌, ◌%◌, ◌^◌, ◌<◌, ◌≤◌, max, sym, ap, ◌∙◌, le_refl, one-mul, pow-suc, one-add, arith, shr-shr}
use native.Mathlib.Nat.{zero-div}
use lib.Arith.{lt-one}
use lib.Bits.{bit_or, or_shr, or_step}
use lib.Count.{ones, ones_step}
use lib.Pow.{shl-shr}
use Rattle.std.specs.List.{range_with_len}
use Rattle.theory.proofs.Totals.{sum, from, map_same, map_shift, from_mono, from_strict}

abbrev pub mark : ℕ → ℕ → ℕ
mark r y = r / 2 ^ y % 2

pub mark_half : (r y : ℕ) → mark r (suc y) ≡ mark (r / 2) y
mark_half r y = ap (λ n. n % 2) (ap (λ n. r / 2 ^ n) (sym (one-add y)) ∙ sym (shr-shr r 1 y))

pub mark_or : (r q y : ℕ) → mark (bit_or r q) y ≡ max (mark r y) (mark q y)
mark_or r q y = rw or_shr (omega (arith, or_step (r / 2 ^ y) (q / 2 ^ y)))

pub mark_power : (y : ℕ) → mark (2 ^ y) y ≡ 1
mark_power y = let e : 2 ^ y / 2 ^ y ≡ 1 = rw one-mul at (shl-shr 1 y) in rw e

pub mark_zero : (y : ℕ) → mark 0 y ≡ 0
mark_zero y = rw zero-div

ones_marks : (k r : ℕ) → r < 2 ^ k → ones r ≡ from 0 k (mark r)
unfolding ones
ones_marks zero r h = ap ones (lt-one h)
ones_marks (suc k) r h =
    let lower : r / 2 < 2 ^ k = let p = pow-suc 2 k in omega arith in
    let rest : from 1 k (mark r) ≡ ones (r / 2) = ap sum (map_shift (mark r) 0 k ∙ map_same (λ y. mark r (suc y)) (mark (r / 2)) (mark_half r) (range_with_len 0 k)) ∙ sym (ones_marks k (r / 2) lower) in
    omega (arith, ones_step r)

module _ (k r q : ℕ) (low : r < 2 ^ k) (high : q < 2 ^ k) (more : (y : ℕ) → mark r y ≤ mark q y) where
  pub ones_mono : ones r ≤ ones q
  ones_mono = rw (ones_marks k r low, ones_marks k q high) (from_mono (mark r) (mark q) 0 k (λ y _ _. more y))

  pub ones_strict : (y : ℕ) → y < k → mark r y < mark q y → ones r < ones q
  ones_strict y h l = rw (ones_marks k r low, ones_marks k q high) (from_strict (mark r) (mark q) 0 k (λ x _ _. more x) y (omega arith) (omega arith) l)

no_marks : (d r : ℕ) → r ≤ d → ((y : ℕ) → mark r y ≡ 0) → r ≡ 0
no_marks zero r h z = omega arith
no_marks (suc d) r h z =
    let here = z 0 in
    let rest = no_marks d (r / 2) (omega arith) (λ y. sym (mark_half r y) ∙ z (suc y)) in
    omega arith

-- a number with no bit from k on
pub marks_below : (k r : ℕ) → ((y : ℕ) → k ≤ y → mark r y ≡ 0) → r < 2 ^ k
marks_below zero r z = omega (arith, no_marks r r (le_refl r) (λ y. z y (omega arith)))
marks_below (suc k) r z =
    let rest = marks_below k (r / 2) (λ y h. sym (mark_half r y) ∙ z (suc y) (omega arith)) in
    rw pow-suc (omega arith)
