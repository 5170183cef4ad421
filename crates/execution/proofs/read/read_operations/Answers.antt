use Rattle.std.proofs.Common.{sym, ◌∙◌, arith}
use Rattle.std.proofs.lemmas.Result.{err_from_is_err_and}
use Rattle.execution.proofs.Walk.{turn_more, turn_stop, turn_end}
use Rattle.execution.proofs.read.read_operations.Goals as goal

pub returns-in_err-operation : goal.returns-in_err-operation
returns-in_err-operation c =
    let t = turn_stop _ c.args.bytes.now _ _ c.loop-at.at _ c.loop-at.invariant c.loop-at-test.true c.held.ensures c.read_operation.ensures.told c.read_operation.ensures.fits c.in_err-operation.field-0.0 (sym c.within.ensures ∙ c.in_err-operation.was) in
    let p = err_from_is_err_and c.from_residual.result c.from_residual.ensures.1 in
    rw (p.1, p.2) (record { told = t.0; fits = t.1 })

pub loop-at-preserved : goal.loop-at-preserved
loop-at-preserved c =
    turn_more _ c.args.bytes.now _ _ c.loop-at.at _ c.loop-at.invariant c.loop-at-test.true c.held.ensures c.read_operation.ensures.told c.read_operation.ensures.fits c.in_ok-operation.operation (sym c.within.ensures ∙ c.in_ok-operation.was) _ c.push.ensures

pub returns-in_ok-operation : goal.returns-in_ok-operation
returns-in_ok-operation c =
    let w = turn_more _ c.args.bytes.now _ _ c.loop-at.at _ c.loop-at.invariant c.loop-at-test.true c.held.ensures c.read_operation.ensures.told c.read_operation.ensures.fits c.in_ok-operation.operation (sym c.within.ensures ∙ c.in_ok-operation.was) _ c.push.ensures in
    record { told = turn_end _ _ _ _ w (omega arith); fits = omega (arith, w.place, w.inside) }

pub returns : goal.returns
returns c =
    let w = c.loop-at.invariant in
    record { told = turn_end _ c.args.bytes.now _ c.loop-at.at w c.loop-at-test.false; fits = omega (arith, w.place, w.inside) }
