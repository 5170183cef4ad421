use Rattle.std.proofs.Common.{◌≡◌, ◌-◌, length}
use Rattle.execution.specs.Reading.{sources_from}
use Rattle.execution.proofs.read.check_sources.Given as goal

abbrev pub invariant-loop-number : goal.invariant-loop-number
invariant-loop-number l =
    sources_from (length l.operations - l.number) l.operations l.bytes l.number
    ≡ sources_from (length l.operations) l.operations l.bytes 0
