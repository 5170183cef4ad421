use Rattle.execution.specs.Calls.{ops}
use Rattle.theory.proofs.Supposing.{derived_opening}
use Rattle.order.specs.Rows.{rows_of}
use Rattle.rules.proofs.Turns.{begun, fits, again, less, closed}
use Rattle.rules.proofs.closing.close_under_rules.Goals as goal

pub loop-claim-init : goal.loop-claim-init
loop-claim-init c = begun _ _ c.requires

pub record_claim-requires : goal.record_claim-requires
record_claim-requires c =
    let fit = fits c.args.execution.now c.loop-claim.order c.in-Some.claim c.in-Some.ensures in
    record { first_in_bounds = fit.0; second_in_bounds = fit.1 }

pub loop-claim-preserved : goal.loop-claim-preserved
loop-claim-preserved c = again _ _ _ c.loop-claim.invariant c.in-Some.claim c.in-Some.ensures _ c.record_claim.ensures

pub loop-claim-smaller : goal.loop-claim-smaller
loop-claim-smaller c = less _ _ _ c.loop-claim.invariant c.in-Some.claim c.in-Some.ensures c.record_claim.new.order c.record_claim.ensures

pub returns : goal.returns
returns c =
    let e = c.args.execution.now in
    let says = closed _ _ _ c.loop-claim.invariant c.in_default.ensures in
    record { closed = says; least = λ L opens. derived_opening L (ops e) (rows_of e c.args.order.now) (rows_of e c.loop-claim.order) opens says; settled = c.loop-claim.invariant.between.settled }
