use Rattle.std.proofs.Common.{ap, rules}
use Rattle.rules.specs.Claims.{call_of}
use Rattle.desk.specs.Model.{locally, at_first, model, state_of}
use Rattle.desk.specs.Judged.{answer_of}
use Rattle.desk.proofs.Fits.{fit}
use Rattle.desk.proofs.Replies.{replies}
use Rattle.house.proofs.Nexts.{next_granted, taken_in, order_next, order_stands}
use Rattle.house.proofs.turning.turn.Goals as goal

pub claim-requires : goal.claim-requires
claim-requires c = fit (locally c.args.given.now) _ (at_first c.args.given.now) _ c.requires.come

pub unwrap-requires : goal.unwrap-requires
unwrap-requires c = taken_in _ c.args.given.now _ c.args.desk.now c.claim.result c.claim.new.self (next_granted _ (model c.args.given.now c.args.desk.now) _ c.in-Some.ensures) c.claim.ensures

pub unwrap-requires-in-None : goal.unwrap-requires-in-None
unwrap-requires-in-None c =
    order_stands c.args.given.now c.args.desk.now (ap state_of c.requires.open) c.in-None.ensures
    c.held.result.now (search rules) c.propose.new.desk
    c.requires.come c.propose.result c.propose.ensures.replies

pub returns-in-Some : goal.returns-in-Some
returns-in-Some c =
    let g = c.args.given.now in
    let q = c.in-Some.claim in
    (call_of q, (c.in-Some.ensures, rw (ap answer_of c.unwrap.ensures) at (replies (locally g) g q c.args.desk.now c.claim.result c.claim.new.self c.claim.ensures)))

pub returns-in-None : goal.returns-in-None
returns-in-None c =
    order_next c.args.given.now c.args.desk.now (ap state_of c.requires.open) c.in-None.ensures
    c.held.result.now (search rules) c.propose.new.desk
    c.propose.ensures.replies c.unwrap-in-None.ensures
