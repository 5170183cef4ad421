-- What a scan over loads and stores finds is the first claim of a list.
use Rattle.std.proofs.Common.{◌≡◌, ℕ, ◌<◌, Bool, true, false, T, List, [], ◌∷◌, length, Some, None, Option, MatchOption, IsSomeAnd, sym, ap, ◌∙◌, subst, inl, inr, refl, arith}
use Rattle.std.proofs.lemmas.Bool.{cases_Bool, and_left, and_right}
use Rattle.execution.specs.declared.execution.Execution.{Execution}
use Rattle.execution.specs.declared.operation.Operation.{Operation}
use Rattle.execution.specs.Operations.{load_at, store_at, source, touches}
use Rattle.execution.specs.Calls.{ops}
use Rattle.order.specs.declared.order.Order.{Order}
use Rattle.order.specs.Rows.{rows_of}
use Rattle.theory.specs.Lists.{over, first_by}
use Rattle.theory.specs.Order.{Rows}
use Rattle.theory.specs.Case.{Call, lacks, claim_a, claim_b}
use Rattle.theory.proofs.Operations.{load_here, source_here}
use Rattle.rules.specs.declared.claim.Claim.{Claim}
use Rattle.rules.specs.Claims.{call_of, called}
use Rattle.rules.specs.Scans.{Asked, FirstPair}
use Rattle.rules.proofs.Executions.{formed}
use Rattle.rules.proofs.Scans.{one_passes, one_fails, all_fail, first_passes}

-- there is a claim for each load and store, and f tests whether the order lacks it
module _ (e : Execution) (o : Order) (claim : ℕ → ℕ → Call) where
  abbrev E : List Operation
  E = ops e

  abbrev f : Call → Bool
  f = lacks E (rows_of e o)

  abbrev listed : List Call
  listed = over (length E) (λ l. over (length E) (λ s. claim l s ∷ []))

  asked : (l s : ℕ) → load_at E l ≡ true → s < length E → Asked E l (source E l) s
  asked l s t m = let h = subst T (sym t) tt in (t, refl, source_here E (formed e) l h, load_here E l h, m)

  -- what is no load has no claim, and P says what the scan's test may answer: what f says
  module _ (P : ℕ → ℕ → ℕ → Bool → Type 0) (other : (l s : ℕ) → load_at E l ≡ false → f (claim l s) ≡ false) (told : (l s : ℕ) (b : Bool) → Asked E l (source E l) s → P l (source E l) s b → b ≡ f (claim l s)) where
    fails : (l s : ℕ) → s < length E → (Asked E l (source E l) s → P l (source E l) s false) → first_by f (claim l s ∷ []) ≡ None
    fails l s m h = one_fails f (claim l s) (elim (cases_Bool (load_at E l)) [ inl t ↦ (let a = asked l s t m in told l s false a (h a)) | inr n ↦ sym (other l s n) ])

    found : (r : Option (ℕ × ℕ)) → FirstPair E P r → MatchOption r (first_by f listed ≡ None) (λ x. first_by f listed ≡ Some (claim x.0 x.1))
    found None h = all_fail f (length E) _ (λ l s _ m. fails l s m (h.first l s))
    found (Some (l, s)) h =
        let a = h.first.0 in
        first_passes f (length E) _ l s (claim l s) a.3 a.4 (λ k t b m. fails k t m (h.first.2 k t b)) (λ t b. fails l t (omega (arith, a.4)) (λ _. h.first.3 t b)) (one_passes f (claim l s) (told l s true a h.first.1))

  -- Q says which claim is made of a load and a store
  pub first_claim : (P : ℕ → ℕ → ℕ → Bool → Type 0) (Q : ℕ × ℕ → Claim → Type 0) (r : Option (ℕ × ℕ)) (m : Option Claim)
      → FirstPair E P r → MatchOption r (m ≡ None) (λ x. IsSomeAnd m (Q x))
      → ((l s : ℕ) → load_at E l ≡ false → f (claim l s) ≡ false)
      → ((l s : ℕ) (b : Bool) → Asked E l (source E l) s → P l (source E l) s b → b ≡ f (claim l s))
      → ((x : ℕ × ℕ) (c : Claim) → Q x c → call_of c ≡ claim x.0 x.1)
      → called m ≡ first_by f listed
  first_claim P Q None m h e other told right = ap called e ∙ sym (found P other told None h)
  first_claim P Q (Some x) None h e other told right = absurd e
  first_claim P Q (Some x) (Some c) h e other told right = ap Some (right x c e) ∙ sym (found P other told (Some x) h)

-- what is no load has no claim by rule a, nor by rule b
module _ (E : List Operation) (R : Rows) (l s : ℕ) (none : load_at E l ≡ false) where
  no_touch : touches E s l ≡ false
  no_touch = and_left _ _ (and_right (store_at E s) _ none)

  pub no_claim_a : lacks E R (claim_a l s) ≡ false
  no_claim_a = and_left _ _ (and_left _ _ (and_left _ _ no_touch))

  pub no_claim_b : lacks E R (claim_b l s) ≡ false
  no_claim_b = and_left _ _ (and_left _ _ no_touch)
