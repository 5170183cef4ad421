use Rattle.std.proofs.Common.{sym, ap, ◌∙◌, below_more, arith}
use Rattle.rules.specs.Claims.{called}
use Rattle.rules.proofs.Lists.{no_c, c_first, not_crossed}
use Rattle.rules.proofs.rule_c.first_c.Goals as goal

pub loop-second-preserved-in_default : goal.loop-second-preserved-in_default
loop-second-preserved-in_default c =
    let v = c.loop-second.invariant in
    (v.0, below_more _ _ v.1 (not_crossed c.args.execution.now c.args.order.now c.scan.first c.loop-second.second c.in_default.ensures), v.2)

pub loop-a-preserved : goal.loop-a-preserved
loop-a-preserved c =
    let v = c.loop-a.invariant in
    (v.0, v.1, below_more _ _ v.2 c.in_default-missing_after.ensures, v.3)

pub loop-second-preserved : goal.loop-second-preserved
loop-second-preserved c =
    let n = c.size-n.ensures.all in
    let v = c.loop-a.invariant in
    (v.0, below_more _ _ v.1 (λ a l. v.2 a (omega arith)), v.3)

pub scan-preserved : goal.scan-preserved
scan-preserved c =
    let n = c.size-n.ensures.all in
    let v = c.loop-second.invariant in
    (below_more _ _ v.0 (λ k l. v.1 k (omega arith)), v.2)

pub returns-after-scan : goal.returns-after-scan
returns-after-scan c =
    let n = c.size-n.ensures.all in
    ap called c.scan.invariant.1 ∙ sym (no_c c.args.execution.now c.args.order.now (λ l h. c.scan.invariant.0 l (omega arith)))

pub returns-in-Some-missing_after : goal.returns-in-Some-missing_after
returns-in-Some-missing_after c =
    let n = c.size-n.ensures.all in
    let v = c.loop-a.invariant in
    let p = c.in-Some-missing_after.ensures in
    sym (c_first c.args.execution.now c.args.order.now c.scan.first c.loop-second.second c.loop-a.a c.in-Some-missing_after.b (omega arith) (omega arith) (omega arith) p.0 v.0 v.1 v.2 p.2 p.1)
