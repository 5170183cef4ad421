use Rattle.std.proofs.Common.{ap, rules}
use Rattle.desk.specs.Model.{state_of}
use Rattle.house.proofs.Nexts.{next_by}
use Rattle.house.proofs.next.next_claim.Goals as goal

pub returns : goal.returns
returns c =
    next_by c.args.given.now c.args.desk.now (ap state_of c.requires) c.first_missing.result c.or_else.result
    (search rules) (search rules) (λ s. search rules) c.or_else.ensures
