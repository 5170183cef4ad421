use Rattle.execution.specs.Calls.{ops}
use Rattle.theory.specs.Order.{missing}
use Rattle.order.specs.Rows.{rows_of}
use Rattle.rules.proofs.Turns.{Closing}
use Rattle.rules.proofs.closing.close_under_rules.Given as goal

abbrev pub invariant-loop-claim : goal.invariant-loop-claim
invariant-loop-claim l = Closing l.execution l.initial.order l.order

abbrev pub decreases-loop-claim : goal.decreases-loop-claim
decreases-loop-claim l = missing (ops l.execution) (rows_of l.execution l.order)
