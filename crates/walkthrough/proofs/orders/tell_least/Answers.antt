use Rattle.rules.proofs.Turns.{begun, less}
use Rattle.walkthrough.proofs.orders.tell_least.Goals as goal

pub loop-claim-smaller : goal.loop-claim-smaller
loop-claim-smaller c =
    let e = c.args.execution.now in
    let o = c.loop-claim.order in
    less e o o (begun e o c.loop-claim.invariant) c.in-Some.claim c.in-Some.ensures.first c.record_first.new.order c.in-Some.ensures.recorded
