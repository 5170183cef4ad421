-- What a reading promises, from what the bytes say.
use Rattle.std.proofs.Common.{◌≡◌, ℕ, T, List, Ok, Err, Result, sym, refl, ap, ◌∙◌, subst}
use Rattle.field.specs.declared.fault.Fault.{Fault}
use Rattle.execution.specs.declared.operation.Operation.{Operation}
use Rattle.execution.specs.declared.execution.Execution.{Execution}
use Rattle.execution.specs.Formed.{formed?}
use Rattle.execution.specs.Writing.{writing}
use Rattle.execution.specs.Reading.{record_in}
use Rattle.execution.specs.Calls.{ops, Taken, SameExecution}
use Rattle.execution.proofs.Returned.{record_back}

module _ (s : List ℕ) where
  written_back : (E : List Operation) → T (formed? E) → s ≡ writing E → record_in s ≡ Ok E
  written_back E f w = ap record_in w ∙ record_back E f

  pub refused_taken : (x : Execution) (e : Fault) → record_in s ≡ Err e → Taken (record_in s) x (Err e) x
  refused_taken x e h = subst (λ r. Taken r x (Err e) x) (sym h) (refl, refl)

  pub refused_same : (x : Execution) (e : Fault) → record_in s ≡ Err e → SameExecution s (Err e) x
  refused_same x e h E f w = let o : Ok E ≡ Err e = sym (written_back E f w) ∙ h in absurd cc

  pub accepted_taken : (x y : Execution) → record_in s ≡ Ok (ops y) → Taken (record_in s) x (Ok tt) y
  accepted_taken x y h = subst (λ r. Taken r x (Ok tt) y) (sym h) (refl, refl)

  pub accepted_same : (F : List Operation) → record_in s ≡ Ok F → (E : List Operation) → T (formed? E) → s ≡ writing E → ◌≡◌ {A = Result (Unit {0}) Fault} (Ok tt) (Ok tt) × (F ≡ E)
  accepted_same F h E f w = let o : Ok F ≡ Ok E = sym h ∙ written_back E f w in (refl, cc)
