use Rattle.std.proofs.Common.{rules}
use Rattle.rules.proofs.Masks.{lowest_c}
use Rattle.rules.proofs.rule_c.missing_after.Goals as goal

pub returns-then-stands-2 : goal.returns-then-stands-2
returns-then-stands-2 c =
    let n = c.size-n.ensures.all in
    let r = c.requires in
    lowest_c c.args.execution.now c.args.order.now c.args.first c.args.second c.args.a c.args.after c.size-n.result n r.a_in_bounds r.crossed r.after_both c.if-stands.ensures c.if-stands-2.ensures
    _ c.lacks.result c.filter.result c.lacks.ensures c.filter.ensures (λ x b p. search rules)
