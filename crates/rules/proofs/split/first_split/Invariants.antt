use Rattle.std.proofs.Common.{◌≡◌, ℕ, ◌<◌, None}
use Rattle.rules.proofs.Lists.{NoSplit, NoSplit_to}
use Rattle.rules.proofs.split.first_split.Given as goal

abbrev pub invariant-scan : goal.invariant-scan
invariant-scan l = ((s : ℕ) → s < l.s → NoSplit l.execution l.order s) × (l.found ≡ None)

abbrev pub invariant-loop-t : goal.invariant-loop-t
invariant-loop-t l =
    ((s : ℕ) → s < l.s → NoSplit l.execution l.order s)
    × NoSplit_to l.execution l.order l.t l.s
    × (l.found ≡ None)
