use Rattle.std.proofs.Common.{rules}
use Rattle.house.proofs.Come.{goes_on}
use Rattle.caseroom.proofs.Same.{same_case}
use Rattle.caseroom.proofs.case.Case.house.Goals as goal

pub invariant_of-self : goal.invariant_of-self
invariant_of-self c = search (rules, goes_on)

pub returns-clause-unmoved : goal.returns-clause-unmoved
returns-clause-unmoved c = search (rules, same_case, c.house.ensures.kept)
