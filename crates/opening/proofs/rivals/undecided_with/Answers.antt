use Rattle.std.proofs.Common.{arith}
use Rattle.execution.specs.Calls.{ops}
use Rattle.theory.specs.Order.{undecided_pair}
use Rattle.order.specs.Rows.{rows_of}
use Rattle.order.proofs.Room.{few}
use Rattle.opening.proofs.Counted.{count_yes, count_no}
use Rattle.opening.proofs.rivals.undecided_with.Goals as goal
use Rattle.opening.proofs.rivals.undecided_with.Goals.{then-is_undecided, else-is_undecided}

pub overflow_add-count : goal.overflow_add-count
overflow_add-count c = let h = few c.args.execution.now in omega arith

pub loop-t-preserved : goal.loop-t-preserved
loop-t-preserved c =
    let e = c.args.execution.now in
    let p = undecided_pair (ops e) (rows_of e c.args.order.now) c.args.s in
    let t = c.loop-t.t in
    let inv = c.loop-t.invariant in
    elim c.if-is_undecided.branch [
      | then-is_undecided w ↦ let m = count_yes p t w.if-is_undecided.ensures in let k = w.count-is in (omega arith, omega arith)
      | else-is_undecided w ↦ let m = count_no p t w.if-is_undecided.ensures in let k = w.count-is in (omega arith, omega arith)
    ]
