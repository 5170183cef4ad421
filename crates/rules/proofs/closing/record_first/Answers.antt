use Rattle.rules.proofs.Turns.{begun, fits, again}
use Rattle.rules.proofs.closing.record_first.Goals as goal

pub record_claim-requires : goal.record_claim-requires
record_claim-requires c =
    let fit = fits c.args.execution.now c.args.order.now c.in_ok-claim.claim c.in_ok-claim.ensures in
    record { first_in_bounds = fit.0; second_in_bounds = fit.1 }

pub returns-clause-settled : goal.returns-clause-settled
returns-clause-settled c = λ s. (again _ _ _ (begun c.args.execution.now c.args.order.now s) c.in_ok-claim.claim c.in_ok-claim.ensures c.record_claim.new.order c.record_claim.ensures).between.settled
