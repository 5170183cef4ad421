-- What a case asks of its local order, fact by fact.
use Rattle.std.specs.Prelude.{ℕ, Bool, ◌||◌, T}
use Rattle.execution.specs.declared.execution.Execution.{Execution}
use Rattle.execution.specs.Operations.{op}
use Rattle.execution.specs.Calls.{ops}
use Rattle.rulebook.specs.Books.{access_of, conflict}
use Rattle.order.specs.declared.order.Order.{Order}
use Rattle.order.specs.Rows.{rows_of}
use Rattle.theory.specs.Order.{before}
use Rattle.theory.specs.Serial.{from_start, program}

-- what the rows of an order say of an execution's operations
abbrev pub relation : Execution → Order → ℕ → ℕ → Bool
relation e o = before (rows_of e o)

-- its pairs are from the start or of the program order
abbrev pub Inside : Execution → Order → Type 0
Inside e o = (a b : ℕ) → T (relation e o a b) → T (from_start (ops e) a b || program (ops e) a b)

-- it has all pairs from the start
abbrev pub Starts : Execution → Order → Type 0
Starts e o = (a b : ℕ) → T (from_start (ops e) a b) → T (relation e o a b)

-- and those pairs of the program order that are on one address, at least one a store
abbrev pub KeepsAddresses : Execution → Order → Type 0
KeepsAddresses e o =
    (p : ℕ × ℕ) → T (program (ops e) p.0 p.1) → T (conflict (access_of (op (ops e) p.0).action) (access_of (op (ops e) p.1).action)) → T (relation e o p.0 p.1)
