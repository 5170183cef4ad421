-- Recording each direct pair in turn gives the opening order.
use Rattle.std.proofs.Common.{◌≡◌, ℕ, ◌+◌, ◌<◌, ◌≤◌, Bool, true, false, T, List, length, get_or, take, replicate, sym, ap, ◌∙◌, subst, inl, inr, arith}
use Rattle.std.proofs.lemmas.List.{take-replicate}
use Rattle.std.proofs.lemmas.Bool.{cases_eq}
use Rattle.execution.specs.declared.operation.Operation.{Operation}
use Rattle.execution.specs.Formed.{WellFormed}
use Rattle.theory.specs.Order.{Rows, before, recorded, Settled, Says}
use Rattle.theory.specs.Serial.{direct, given, joined, Opening}
use Rattle.theory.proofs.Marks.{mark, mark_zero}
use Rattle.theory.proofs.Recording.{marked, recorded_keeps, recorded_has}
use Rattle.theory.proofs.Operations.{same_order}
use Rattle.theory.proofs.Closures.{Built, built_more, direct_here}
use Rattle.opening.proofs.Kept.{zeros}

pub none_before : (n : ℕ) → n ≤ 32 → (x y : ℕ) → T (before (take n (replicate 32 0)) x y) → ⊥
none_before n h x y t =
    let empty : Rows = take n (replicate 32 0) in
    let e : get_or empty x 0 ≡ 0 = ap (λ (R : Rows). get_or R x 0) (take-replicate n 32 0 h) ∙ zeros n x in
    let m : mark 0 y ≡ 1 = subst (λ r. mark r y ≡ 1) e (marked empty x y t) in
    omega (arith, mark_zero y)

module _ (L : ℕ → ℕ → Bool) (E : List Operation) where
  -- all direct pairs with their first below a stand
  abbrev pub Above : ℕ → Rows → Type 0
  Above a R = (x y : ℕ) → x < a → y < length E → T (direct L E x y) → T (before R x y)

  -- all direct pairs of a with their second below b stand
  abbrev pub Along : ℕ → ℕ → Rows → Type 0
  Along a b R = (y : ℕ) → y < b → T (direct L E a y) → T (before R a y)

  pub step_yes : (a b : ℕ) (R Q : Rows) → Q ≡ recorded a b R → a < length E → true ≡ direct L E a b → Built L E R → Above a R → Along a b R → Built L E Q × Above a Q × Along a (b + 1) Q
  step_yes a b R Q e i t h f k =
      let m = h.rows in
      subst (λ Z. Built L E Z × Above a Z × Along a (b + 1) Z) (sym e) (
        built_more L E R a b h (subst T t tt),
        (λ x y p q d. recorded_keeps a b R x y (f x y p q d)),
        (λ y p d. elim (cases_eq y b) [
          | inl e ↦ subst (λ z. T (before (recorded a b R) a z)) (sym e) (recorded_has a b R (omega arith))
          | inr n ↦ recorded_keeps a b R a y (k y (omega arith) d)
        ]),
      )

  pub step_no : (a b : ℕ) (R : Rows) → false ≡ direct L E a b → Along a b R → Along a (b + 1) R
  step_no a b R not-it k y p d = elim (cases_eq y b) [ inl e ↦ absurd (subst T (sym not-it) (subst (λ z. T (direct L E a z)) e d)) | inr n ↦ k y (omega arith) d ]

  pub row_done : (a b : ℕ) (R : Rows) → length E ≤ b → Above a R → Along a b R → Above (a + 1) R
  row_done a b R h f k x y p q d =
      elim (cases_eq x a) [
        | inl e ↦ subst (λ z. T (before R z y)) (sym e) (k y (omega arith) (subst (λ z. T (direct L E z y)) e d))
        | inr n ↦ f x y (omega arith) q d
      ]

  module _ (W : WellFormed E) (here : (a b : ℕ) → T (L a b) → (a < length E) × (b < length E)) where
    within : {x y : ℕ} → Opening L E x y → y < length E
    within (given {a} {b} t) = (direct_here L E W here a b t).1
    within (joined p q) = within q

    pub says_settled : (R : Rows) → Says E R (Opening L E) → Settled (length E) R
    says_settled R s = record { rows = s.0; within = λ x y t. within ((s.1 x y).0 t); joins = λ x y z p q. (s.1 x z).1 (joined ((s.1 x y).0 p) ((s.1 y z).0 q)) }

-- orders that agree pair by pair have one opening order
pub says_same : (L K : ℕ → ℕ → Bool) (E : List Operation) (R : Rows) → ((a b : ℕ) → L a b ≡ K a b) → Says E R (Opening L E) → Says E R (Opening K E)
says_same L K E R same s = subst (λ (M : ℕ → ℕ → Bool). Says E R (Opening M E)) (same_order same) s
