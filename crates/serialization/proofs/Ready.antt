-- Which operation is placed next, and what is placed after it.
use Rattle.std.proofs.Common.{◌≡◌, ℕ, zero, suc, ◌+◌, ◌-◌, ◌*◌, ◌%◌, ◌^◌, ◌<◌, ◌≤◌, Bool, true, false, not, ◌&&◌, ◌||◌, T, eqb, ltb, cond, List, [], ◌∷◌, ◌++◌, map, filter, fold, length, get_or, length-append, take, Some, None, Option, MatchOption, sym, refl, ap, ◌∙◌, subst, ap₂, inl, inr, arith}
use lib.Bits.{bit_or}
use lib.Count.{ones, ones-le}
use Rattle.std.specs.Bool.{then_some}
use Rattle.std.specs.List.{range_with_len}
use Rattle.std.proofs.Math.Bool.{or-false, and-true, and-false, or_assoc}
use Rattle.std.proofs.lemmas.Nat.{or_lt, one_shl, pow_below, pow_pos}
use Rattle.std.proofs.lemmas.Nat.Bits.{bit_at-pow_same, bit_at-pow_other}
use Rattle.std.proofs.lemmas.List.Recursion.{or_push}
use Rattle.std.proofs.lemmas.Bool.{cases_eq, cases_lt, eq-eqb, ne_eqb, lt-ltb, le-ltb}
use Rattle.execution.specs.declared.operation.Operation.{Operation}
use Rattle.theory.specs.Lists.{any, first_by, member}
use Rattle.theory.specs.Order.{Rows, before}
use Rattle.theory.specs.Case.{ready, placing, greedy}
use Rattle.theory.proofs.Cut.{cut_before}
use Rattle.theory.proofs.Tests.{and_parts}
use Rattle.theory.proofs.Firsts.{first_some}
use Rattle.theory.proofs.Ranges.{all_below}
use Rattle.theory.proofs.Marks.{mark, mark_or, mark_power, ones_strict}
use Rattle.order.specs.Bits.{bit, Lowest}
use Rattle.order.proofs.Bitwise.{bit-or, bit_not, bit_none}
use Rattle.serialization.specs.Arrangements.{waits, free}
use Rattle.serialization.proofs.Lists.{first_at, first_nowhere, any_same, first_same}

-- 2 ^ b has bit b alone
bit_power : (b y : ℕ) → bit (2 ^ b) y ≡ eqb b y
bit_power b y =
    elim (cases_eq b y) [
      | inl e ↦ ap (λ v. bit (2 ^ b) v) (sym e) ∙ ap (λ v. eqb v 1) (bit_at-pow_same b) ∙ sym (eq-eqb b y e)
      | inr d ↦ ap (λ v. eqb v 1) (bit_at-pow_other b y (λ e. d (sym e))) ∙ sym (ne_eqb b y d)
    ]

not_or : (x y : Bool) → not (x || y) ≡ (not x && not y)
not_or true y = refl
not_or false y = refl

-- the rows that pass a test, joined
module _ (R : Rows) where
  abbrev pub join_rows : ℕ → List ℕ → ℕ
  join_rows w xs = fold (λ v x. bit_or v (get_or R x 0)) w xs

  module _ (f : ℕ → Bool) (a : ℕ) where
    joined : (xs : List ℕ) (w : ℕ) → bit (join_rows w (filter f xs)) a ≡ (bit w a || any (map (λ x. before R x a && f x) xs))
    joined [] w = sym (or-false (bit w a))
    joined (x ∷ xs) w =
        let rest = any (map (λ y. before R y a && f y) xs) in
        elim (f x) as (λ b. bit (join_rows w (cond b (x ∷ filter f xs) (filter f xs))) a ≡ (bit w a || ((before R x a && b) || rest))) [
          | true ↦ joined xs (bit_or w (get_or R x 0)) ∙ ap (λ v. v || rest) (bit-or w (get_or R x 0) a) ∙ simp (and-true, or_assoc)
          | false ↦ joined xs w ∙ simp (and-false)
        ]

  -- those that have to wait
  pub held_is : (placed n a : ℕ) → bit (join_rows 0 (filter (λ x. not (bit placed x)) (range_with_len 0 n))) a ≡ waits R placed n a
  held_is placed n a = joined (λ x. not (bit placed x)) a (range_with_len 0 n) 0 ∙ ap (λ v. v || waits R placed n a) (bit_none a)

-- the lowest bit that is neither placed nor waiting
module _ (R : Rows) (placed waiting n : ℕ) (few : n ≤ 32) (small : placed < 2 ^ 32) (short : waiting < 2 ^ 32) (wait : (a : ℕ) → bit waiting a ≡ waits R placed n a) where
  abbrev left : ℕ
  left = 4294967295 - bit_or placed waiting

  left_is : (a : ℕ) → a < 32 → bit left a ≡ free R placed n a
  left_is a h =
      bit_not 32 (bit_or placed waiting) a (or_lt 32 placed waiting small short) h
      ∙ ap not (bit-or placed waiting a ∙ ap (λ v. bit placed a || v) (wait a)) ∙ not_or (bit placed a) (waits R placed n a)

  -- the lowest, if it is one of the first n
  pub next_is : (o r : Option ℕ) → Lowest left o → MatchOption o (r ≡ None) (λ i. r ≡ then_some (ltb i n) i) → r ≡ first_by (free R placed n) (range_with_len 0 n)
  next_is None r low e = e ∙ sym (first_nowhere (free R placed n) n (λ x l. sym (left_is x (omega arith)) ∙ low x))
  next_is (Some i) r low e =
      e ∙ elim (cases_lt i n) [
        | inr past ↦ ap (λ b. then_some b i) (le-ltb i n past) ∙ sym (first_nowhere (free R placed n) n (λ x l. sym (left_is x (omega arith)) ∙ low.1 x (omega arith)))
        | inl here ↦ ap (λ b. then_some b i) (lt-ltb i n here) ∙ sym (first_at (free R placed n) n i here (λ x l. sym (left_is x (omega arith)) ∙ low.1 x l) (sym (left_is i (omega arith)) ∙ low.0))
      ]

-- a mask that has what is in a list
abbrev pub Masks : ℕ → List ℕ → Type 0
Masks placed p = (x : ℕ) → bit placed x ≡ member x p

module _ (E : List Operation) (R : Rows) (placed : ℕ) (p : List ℕ) (mask : Masks placed p) where
  ready_is : (a : ℕ) → free R placed (length E) a ≡ ready E (take (length E) R) p a
  ready_is a =
      ap₂ (λ u v. not u && not v) (mask a)
      (any_same (λ x. before R x a && not (bit placed x)) (λ x. before (take (length E) R) x a && not (member x p)) (length E)
      (λ x l. ap₂ (λ u v. u && not v) (sym (cut_before (length E) x a R l)) (mask x)))

  first_ready : (n : ℕ) → n ≡ length E → (o : Option ℕ) → o ≡ first_by (free R placed n) (range_with_len 0 n) → first_by (ready E (take (length E) R) p) (range_with_len 0 (length E)) ≡ o
  first_ready n e o f = sym (f ∙ ap (λ m. first_by (free R placed m) (range_with_len 0 m)) e ∙ first_same _ _ (length E) (λ a _. ready_is a))

mask_push : (placed a : ℕ) (p : List ℕ) → a < 32 → Masks placed p → Masks (bit_or placed ((1 * 2 ^ a) % 2 ^ 32)) (p ++ a ∷ [])
mask_push placed a p h mask x =
    bit-or placed ((1 * 2 ^ a) % 2 ^ 32) x ∙ ap₂ (λ u v. u || v) (mask x) (ap (λ v. bit v x) (one_shl a 32 h) ∙ bit_power a x)
    ∙ sym (or_push (member x) (λ y. eqb y x) refl (λ _ _. refl) p a)

-- the next is placed, and then the rest; or the placing ends
module _ (E : List Operation) (R : Rows) (p : List ℕ) where
  placing_more : (k a : ℕ) → first_by (ready E R p) (range_with_len 0 (length E)) ≡ Some a → placing E (suc k) R p ≡ placing E k R (p ++ a ∷ [])
  placing_more k a e = ap (λ o. elim o [ Some b ↦ placing E k R (p ++ b ∷ []) | None ↦ p ]) e

  placing_ends : (k : ℕ) → first_by (ready E R p) (range_with_len 0 (length E)) ≡ None → placing E k R p ≡ p
  placing_ends zero e = refl
  placing_ends (suc k) e = ap (λ o. elim o [ Some b ↦ placing E k R (p ++ b ∷ []) | None ↦ p ]) e

-- what holds at each turn: the mask has what is placed, of the first operations only, and placing on from here gives the whole
module _ (E : List Operation) (R : Rows) where
  abbrev cut : Rows
  cut = take (length E) R

  abbrev pub State : ℕ → List ℕ → Type 0
  State placed p = (length p ≤ ones placed) × (placed < 2 ^ length E) × Masks placed p × (placing E (length E - length p) cut p ≡ greedy E cut)

  -- at first nothing is placed
  pub state_none : (p : List ℕ) → p ≡ [] → State 0 p
  state_none p e = subst (State 0) (sym e) (omega arith, pow_pos (length E), λ x. bit_none x, ap (λ k. placing E k cut []) (omega arith))

  module _ (placed : ℕ) (p : List ℕ) (state : State placed p) (n : ℕ) (e : n ≡ length E) where
    -- one more is placed, which was not
    module _ (a : ℕ) (small : a < n) (few : n ≤ 32) (f : Some a ≡ first_by (free R placed n) (range_with_len 0 n)) where
      abbrev more : ℕ
      more = bit_or placed ((1 * 2 ^ a) % 2 ^ 32)

      is_more : more ≡ bit_or placed (2 ^ a)
      is_more = ap (bit_or placed) (one_shl a 32 (omega arith))

      fresh : bit placed a ≡ true → ⊥
      fresh t = subst (λ b. T (not b)) t (and_parts (not (bit placed a)) (not (waits R placed n a)) (first_some (free R placed n) (λ x. x < n) (range_with_len 0 n) a (all_below (λ x. x < n) n (λ x l. l)) (sym f)).0).0

      unmarked : mark placed a < mark (bit_or placed (2 ^ a)) a
      unmarked =
          elim (cases_eq (mark placed a) 1) [
            | inl i ↦ absurd (fresh (eq-eqb (mark placed a) 1 i))
            | inr d ↦ omega (arith, d, mark_or placed (2 ^ a) a, mark_power a)
          ]

      below : bit_or placed (2 ^ a) < 2 ^ length E
      below = or_lt (length E) placed (2 ^ a) state.1 (pow_below a (length E) (omega arith))

      more_ones : length p < ones (bit_or placed (2 ^ a))
      more_ones = omega (arith, state.0, ones_strict (length E) placed (bit_or placed (2 ^ a)) state.1 below (λ y. omega (arith, mark_or placed (2 ^ a) y)) a (omega arith) unmarked)

      pub space : length p < n
      space = omega (arith, more_ones, ones-le (length E) (bit_or placed (2 ^ a)) below)

      pub state_more : (q : List ℕ) → q ≡ p ++ a ∷ [] → State more q
      state_more q j =
          let long : length q ≡ length p + 1 = omega (arith, ap (λ xs. length xs) j, length-append p (a ∷ [])) in
          let one : length E - length p ≡ suc (length E - length q) = omega (arith, space) in (
            subst (λ w. length q ≤ ones w) (sym is_more) (omega (arith, more_ones)),
            subst (λ w. w < 2 ^ length E) (sym is_more) below,
            subst (Masks more) (sym j) (mask_push placed a p (omega arith) state.2),
            ap (placing E (length E - length q) cut) j ∙ sym (placing_more E cut p (length E - length q) a (first_ready E R placed p state.2 n e (Some a) f))
                ∙ ap (λ k. placing E k cut p) (sym one) ∙ state.3,
          )

    pub state_stuck : None ≡ first_by (free R placed n) (range_with_len 0 n) → p ≡ greedy E cut
    state_stuck f = sym (placing_ends E cut p (length E - length p) (first_ready E R placed p state.2 n e None f)) ∙ state.3
