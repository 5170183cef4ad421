-- The rows of an order that belong to the operations of an execution.
use Rattle.std.specs.Prelude.{length, take}
use Rattle.execution.specs.declared.execution.Execution.{Execution}
use Rattle.execution.specs.Calls.{ops}
use Rattle.order.specs.declared.order.Order.{Order}
use Rattle.theory.specs.Order.{Rows}

-- one row for each operation, of the 32 that an order has
abbrev pub rows_of : Execution → Order → Rows
rows_of e o = take (length (ops e)) o.rows
