-- An execution has at most 32 operations, so an order of 32 rows has a row for each.
use Rattle.std.proofs.Common.{◌≡◌, ◌≤◌, length, arith}
use Rattle.std.proofs.lemmas.List.{length-take-le}
use Rattle.execution.specs.declared.execution.Execution.{Execution}
use Rattle.execution.specs.Calls.{ops}
use Rattle.execution.proofs.Tested.{well_formed}
use Rattle.order.specs.declared.order.Order.{Order}
use Rattle.order.specs.Rows.{rows_of}

pub few : (e : Execution) → length (ops e) ≤ 32
few e = (well_formed (ops e) e.formed).few

pub rows_fit : (e : Execution) (o : Order) → length (ops e) ≤ length o.rows
rows_fit e o = let h = o.full in omega (arith, few e)

pub rows_long : (e : Execution) (o : Order) → length (rows_of e o) ≡ length (ops e)
rows_long e o = length-take-le (length (ops e)) o.rows (rows_fit e o)
