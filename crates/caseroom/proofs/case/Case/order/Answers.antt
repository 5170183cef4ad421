use Rattle.std.proofs.Common.{refl, rules}
use Rattle.theory.specs.Case.{single}
use Rattle.house.proofs.Come.{goes_on}
use Rattle.caseroom.proofs.Same.{same_case}
use Rattle.caseroom.proofs.case.Case.order.Goals as goal

pub invariant_of-self : goal.invariant_of-self
invariant_of-self c = search (rules, goes_on, single)

pub returns-clause-unmoved : goal.returns-clause-unmoved
returns-clause-unmoved c = λ e h. same_case _ _ refl (c.propose.ensures.kept e h)
