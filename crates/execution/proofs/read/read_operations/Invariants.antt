use Rattle.std.proofs.Common.{◌-◌, length}
use Rattle.room.specs.Held.{held}
use Rattle.execution.specs.Reading.{operations_in}
use Rattle.execution.proofs.Walk.{ReadSoFar}
use Rattle.execution.proofs.read.read_operations.Given as goal

abbrev pub invariant-loop-at : goal.invariant-loop-at
invariant-loop-at l = ReadSoFar (operations_in l.bytes) l.bytes (held l.listing) l.at

abbrev pub decreases-loop-at : goal.decreases-loop-at
decreases-loop-at l = length l.bytes - l.at
