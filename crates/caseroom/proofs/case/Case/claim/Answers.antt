use Rattle.std.proofs.Common.{refl, rules}
use Rattle.theory.specs.Case.{single}
use Rattle.desk.proofs.Fits.{fit}
use Rattle.desk.proofs.Replies.{replies}
use Rattle.house.proofs.Come.{goes_on}
use Rattle.caseroom.proofs.Reach.{unmoved_by}
use Rattle.caseroom.proofs.Same.{same_case}
use Rattle.caseroom.proofs.case.Case.claim.Goals as goal

pub claim-requires : goal.claim-requires
claim-requires c = search (rules, fit)

pub invariant_of-self : goal.invariant_of-self
invariant_of-self c =
    let s = c.args.self.now in
    let reply = replies _ s.given c.args.claim s.desk c.claim.result c.claim.new.self c.claim.ensures in
    record { reached = goes_on _ _ _ (single reply) s.reached }

pub returns-clause-replies : goal.returns-clause-replies
returns-clause-replies c = search (rules, replies)

pub returns-clause-unmoved : goal.returns-clause-unmoved
returns-clause-unmoved c = λ e h. same_case _ _ refl (unmoved_by _ _ _ _ _ _ c.claim.ensures e h)
