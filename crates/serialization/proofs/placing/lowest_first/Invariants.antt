use Rattle.std.proofs.Common.{◌-◌, length}
use Rattle.execution.specs.Calls.{ops}
use Rattle.room.specs.Held.{held}
use Rattle.serialization.proofs.Ready.{State}
use Rattle.serialization.proofs.placing.lowest_first.Given as goal

abbrev pub invariant-loop-next : goal.invariant-loop-next
invariant-loop-next l = State (ops l.execution) l.order.rows l.placed (held l.arrangement)

abbrev pub decreases-loop-next : goal.decreases-loop-next
decreases-loop-next l = length (ops l.execution) - length (held l.arrangement)
