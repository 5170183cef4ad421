use Rattle.std.proofs.Common.{◌≡◌, ◌+◌, ◌*◌, take, drop}
use Rattle.execution.specs.Writing.{writing}
use Rattle.execution.specs.Calls.{ops}
use Rattle.execution.proofs.execution.Execution.write.Given as goal

abbrev pub invariant-loop-number : goal.invariant-loop-number
invariant-loop-number l =
    (take (4 + 9 * l.number) l.out ≡ writing (take l.number (ops l.self)))
    × (drop (4 + 9 * l.number) l.out ≡ drop (4 + 9 * l.number) l.initial.out)
