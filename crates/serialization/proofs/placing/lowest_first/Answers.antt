use Rattle.std.proofs.Common.{[], ◌∷◌, length, length-append, ap, arith, rules}
use Rattle.execution.specs.Calls.{ops}
use Rattle.room.specs.Held.{held}
use Rattle.serialization.proofs.Serials.{few}
use Rattle.serialization.proofs.Ready.{space, state_none, state_more, state_stuck}
use Rattle.serialization.proofs.placing.lowest_first.Goals as goal

pub loop-next-init : goal.loop-next-init
loop-next-init c = state_none (ops c.args.execution.now) c.args.order.now.rows (held c.new-arrangement.result) (search rules)

pub push-requires : goal.push-requires
push-requires c =
    let e = c.args.execution.now in
    omega (
      arith,
      few e,
      c.len-n.ensures,
      space (ops e) c.args.order.now.rows c.loop-next.placed (held c.loop-next.arrangement) c.loop-next.invariant c.len-n.result c.len-n.ensures c.in-Some.next c.in-Some.ensures.within (omega (arith, few e, c.len-n.ensures)) c.in-Some.ensures.first,
    )

pub loop-next-smaller : goal.loop-next-smaller
loop-next-smaller c =
    let e = c.args.execution.now in
    let here = held c.loop-next.arrangement in
    omega (
      arith,
      ap (λ xs. length xs) c.push.ensures,
      length-append here (c.in-Some.next ∷ []),
      c.len-n.ensures,
      space (ops e) c.args.order.now.rows c.loop-next.placed here c.loop-next.invariant c.len-n.result c.len-n.ensures c.in-Some.next c.in-Some.ensures.within (omega (arith, few e, c.len-n.ensures)) c.in-Some.ensures.first,
    )

pub loop-next-preserved : goal.loop-next-preserved
loop-next-preserved c =
    let e = c.args.execution.now in
    state_more (ops e) c.args.order.now.rows c.loop-next.placed (held c.loop-next.arrangement) c.loop-next.invariant c.len-n.result c.len-n.ensures c.in-Some.next c.in-Some.ensures.within (omega (arith, few e, c.len-n.ensures)) c.in-Some.ensures.first
    (held c.push.new.self) c.push.ensures

pub returns : goal.returns
returns c =
    state_stuck (ops c.args.execution.now) c.args.order.now.rows c.loop-next.placed (held c.loop-next.arrangement) c.loop-next.invariant c.len-n.result c.len-n.ensures
    c.in_default.ensures.first
