use Rattle.std.proofs.Common.{◌≡◌, ℕ, ◌<◌, None}
use Rattle.rules.proofs.Lists.{NoC, NoC_of_two, NoC_of_three}
use Rattle.rules.proofs.rule_c.first_c.Given as goal

abbrev pub invariant-scan : goal.invariant-scan
invariant-scan l = ((x : ℕ) → x < l.first → NoC l.execution l.order x) × (l.found ≡ None)

abbrev pub invariant-loop-second : goal.invariant-loop-second
invariant-loop-second l =
    ((x : ℕ) → x < l.first → NoC l.execution l.order x)
    × ((x : ℕ) → x < l.second → NoC_of_two l.execution l.order l.first x)
    × (l.found ≡ None)

abbrev pub invariant-loop-a : goal.invariant-loop-a
invariant-loop-a l =
    ((x : ℕ) → x < l.first → NoC l.execution l.order x)
    × ((x : ℕ) → x < l.second → NoC_of_two l.execution l.order l.first x)
    × ((x : ℕ) → x < l.a → NoC_of_three l.execution l.order l.first l.second x)
    × (l.found ≡ None)
