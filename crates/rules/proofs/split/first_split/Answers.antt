use Rattle.std.proofs.Common.{sym, ap, ◌∙◌, below_more, arith}
use Rattle.rules.specs.Claims.{called}
use Rattle.rules.proofs.Lists.{no_split, split_first}
use Rattle.rules.proofs.split.first_split.Goals as goal

pub scan-preserved : goal.scan-preserved
scan-preserved c =
    let n = c.size-n.ensures.all in
    (below_more _ _ c.loop-t.invariant.0 (λ t u v. c.loop-t.invariant.1 t u (omega arith)), c.loop-t.invariant.2)

pub returns-after-scan : goal.returns-after-scan
returns-after-scan c =
    let n = c.size-n.ensures.all in
    ap called c.scan.invariant.1 ∙ sym (no_split c.args.execution.now c.args.order.now (λ s l. c.scan.invariant.0 s (omega arith)))

pub returns-then-leaves_open : goal.returns-then-leaves_open
returns-then-leaves_open c =
    let n = c.size-n.ensures.all in
    sym (split_first c.args.execution.now c.args.order.now c.scan.s c.loop-t.t (omega arith) (omega arith) c.loop-t.invariant.0 c.loop-t.invariant.1 c.if-leaves_open.ensures)
