use Rattle.std.proofs.Common.{◌≡◌, arith}
use Rattle.theory.specs.Order.{pairs}
use Rattle.order.specs.Rows.{rows_of}
use Rattle.rules.proofs.Trials.{still_settled, supposes, grows}
use Rattle.rules.proofs.trial.suppose.Goals as goal

pub close_under_rules-requires : goal.close_under_rules-requires
close_under_rules-requires c = let r = c.requires in still_settled c.args.execution.now c.args.order.now c.record.new.self r.settled c.args.a c.args.b r.a_in_bounds r.b_in_bounds c.record.ensures.records

pub overflow_sub-result : goal.overflow_sub-result
overflow_sub-result c =
    let e = c.args.execution.now in
    let o = c.args.order.now in
    let r = c.requires in
    let n = c.size-n.ensures.all in
    let more = grows e o c.record.new.self r.settled c.args.a c.args.b r.a_in_bounds r.b_in_bounds c.record.ensures.records c.close_under_rules.new.order c.close_under_rules.ensures.closed in
    let after : c.pairs.result ≡ pairs (rows_of e c.close_under_rules.new.order) = cc in
    let before : c.pairs-had.result ≡ pairs (rows_of e o) = cc in
    omega arith

pub returns : goal.returns
returns c =
    let e = c.args.execution.now in
    let r = c.requires in
    let n = c.size-n.ensures.all in
    let q = c.close_under_rules.new.order in
    let s = supposes e c.args.order.now c.record.new.self r.settled c.args.a c.args.b r.a_in_bounds r.b_in_bounds c.record.ensures.records q c.close_under_rules.ensures.closed in
    (rows_of e q, s, cc, cc)
