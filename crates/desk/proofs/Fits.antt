-- What a claim can count on holds of every case that was reached.
use Rattle.std.proofs.Common.{ℕ, Bool, List, [], ◌∷◌, length}
use mathlib.Core.HLevel.{Unit-prop, ×_prop}
use mathlib.Core.Logic.{∥∥₁_elim}
use native.Mathlib.Bridge.{le_prop}
use Rattle.execution.specs.declared.operation.Operation.{Operation}
use Rattle.theory.specs.Order.{Rows}
use Rattle.theory.specs.Case.{Choice, Model}
use Rattle.theory.specs.Promises.{Reached, FewChoices}
use Rattle.theory.proofs.Kept.{choices_fit}
use Rattle.desk.specs.Judged.{Named, Fit}

named_prop : (n : ℕ) (cs : List Choice) → Prim.IsProp (Named n cs)
named_prop n [] = Unit-prop
named_prop n (c ∷ cs) = ×_prop (×_prop le_prop le_prop) (named_prop n cs)

-- a case with few choices has what a claim can count on
pub few_fit : (E : List Operation) (O : Rows) (M : Model) → FewChoices E O M → Fit E M
few_fit E O M f = record { within = f.within; room = f.room }

-- also where all that is known is that there are calls by which it was reached
pub fit : (L : ℕ → ℕ → Bool) (E : List Operation) (O : Rows) (M : Model) → ∥ Reached L E O M ∥₁ → Fit E M
fit L E O M r = record {
  within = ∥∥₁_elim r (named_prop (length E) M.choices) (λ x. (choices_fit L E O M x).within);
  room = λ s t h. ∥∥₁_elim r le_prop (λ x. (choices_fit L E O M x).room s t h);
}
