-- What a trial finds.
use Rattle.std.specs.Prelude.{◌≡◌, ℕ, ◌-◌, Bool, List}
use Rattle.execution.specs.declared.operation.Operation.{Operation}
use Rattle.theory.specs.Order.{Rows, pairs, cyclic, Says}
use Rattle.theory.specs.Serial.{Supposed}

-- what supposing a before b adds to the rows R: so many pairs, and whether they then have a cycle
abbrev pub Found : List Operation → Rows → ℕ → ℕ → ℕ × Bool → Type 0
Found E R a b r = (Q : Rows) × Says E Q (Supposed E R a b) × (r.0 ≡ pairs Q - pairs R) × (r.1 ≡ cyclic Q)
