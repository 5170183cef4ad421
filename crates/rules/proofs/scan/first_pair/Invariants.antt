use Rattle.std.proofs.Common.{◌≡◌, ℕ, ◌<◌, false, None}
use Rattle.execution.specs.Calls.{ops}
use Rattle.execution.specs.Operations.{source}
use Rattle.rules.specs.Scans.{Asked}
use Rattle.rules.proofs.scan.first_pair.Given as goal

abbrev pub invariant-scan : goal.invariant-scan
invariant-scan g l =
    ((k t : ℕ) → k < l.load → Asked (ops l.execution) k (source (ops l.execution) k) t → goal.F-post g l.test k (source (ops l.execution) k) t false)
    × (l.found ≡ None)

abbrev pub invariant-loop-other : goal.invariant-loop-other
invariant-loop-other g l =
    ((k t : ℕ) → k < l.load → Asked (ops l.execution) k (source (ops l.execution) k) t → goal.F-post g l.test k (source (ops l.execution) k) t false)
    × ((t : ℕ) → t < l.other → goal.F-post g l.test l.load (source (ops l.execution) l.load) t false)
    × (l.found ≡ None)
