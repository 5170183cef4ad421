-- A case as the theory has it, read off what it was given and what lies on its desk.
use Rattle.std.specs.Prelude.{ℕ, Bool, List, [], map, reverse, length, take}
use Rattle.execution.specs.declared.operation.Operation.{Operation}
use Rattle.execution.specs.Calls.{ops}
use Rattle.room.specs.Held.{held}
use Rattle.order.specs.Rows.{rows_of}
use Rattle.theory.specs.Order.{Rows}
use Rattle.theory.specs.Case as theory
use Rattle.theory.specs.Case.{Model}
use Rattle.desk.specs.declared.state.State.{State}
use Rattle.desk.specs.declared.state.State.TheVariants.{Open, Serial, Impossible}
use Rattle.desk.specs.declared.choice.Side.{Side}
use Rattle.desk.specs.declared.choice.Side.TheVariants.{First, Second}
use Rattle.desk.specs.declared.choice.Choice.{Choice}
use Rattle.desk.specs.declared.given.Given.{Given}
use Rattle.desk.specs.declared.desk.Desk.{Desk}
use Rattle.desk.specs.Local.{relation}

-- the operations, the local order and the opening order of a case
abbrev pub events : Given → List Operation
events g = ops g.execution

abbrev pub locally : Given → ℕ → ℕ → Bool
locally g = relation g.execution g.local

abbrev pub at_first : Given → Rows
at_first g = rows_of g.execution g.opening

abbrev pub state_of : State → theory.State
state_of Open = theory.open'
state_of Serial = theory.serial
state_of Impossible = theory.impossible

abbrev pub side_of : Side → theory.Side
side_of First = theory.first
side_of Second = theory.second

-- a choice in a case of n operations
abbrev pub choice_of : ℕ → Choice → theory.Choice
choice_of n c = record { one = c.one; other = c.other; side = side_of c.side; stood = take n c.stood.rows }

-- the choices that stand, latest first
abbrev pub stacked : ℕ → List Choice → List theory.Choice
stacked n cs = map (choice_of n) (reverse cs)

-- the order that was admitted, in a case that is serial
abbrev pub witness_of : State → List ℕ → List ℕ
witness_of Open σ = []
witness_of Serial σ = σ
witness_of Impossible σ = []

-- the case that a desk holds
abbrev pub model : Given → Desk → Model
model g d = record {
  order = rows_of g.execution d.order;
  choices = stacked (length (events g)) (held d.choices);
  state = state_of d.state;
  witness = witness_of d.state (take (length (events g)) d.admitted);
}
