use Rattle.std.proofs.Common.{length}
use Rattle.execution.specs.Calls.{ops}
use Rattle.theory.specs.Order.{Settled, missing}
use Rattle.order.specs.Rows.{rows_of}
use Rattle.walkthrough.proofs.orders.tell_least.Given as goal

abbrev pub invariant-loop-claim : goal.invariant-loop-claim
invariant-loop-claim l = Settled (length (ops l.execution)) (rows_of l.execution l.order)

abbrev pub decreases-loop-claim : goal.decreases-loop-claim
decreases-loop-claim l = missing (ops l.execution) (rows_of l.execution l.order)
