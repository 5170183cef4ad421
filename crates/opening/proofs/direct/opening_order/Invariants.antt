use Rattle.execution.specs.Calls.{ops}
use Rattle.theory.specs.Order.{before}
use Rattle.theory.proofs.Closures.{Built}
use Rattle.order.specs.Rows.{rows_of}
use Rattle.opening.proofs.Recorded.{Above, Along}
use Rattle.opening.proofs.direct.opening_order.Given as goal

abbrev pub invariant-loop-a : goal.invariant-loop-a
invariant-loop-a l =
    let L = before (rows_of l.execution l.local) in
    let E = ops l.execution in
    let R = rows_of l.execution l.order in
    Built L E R × Above L E l.a R

abbrev pub invariant-loop-b : goal.invariant-loop-b
invariant-loop-b l =
    let L = before (rows_of l.execution l.local) in
    let E = ops l.execution in
    let R = rows_of l.execution l.order in
    Built L E R × Above L E l.a R × Along L E l.a l.b R
