use Rattle.execution.specs.Calls.{ops}
use Rattle.theory.specs.Order.{before}
use Rattle.theory.specs.Serial.{local}
use Rattle.order.specs.Rows.{rows_of}
use Rattle.opening.proofs.Recorded.{says_same}
use Rattle.opening.proofs.opened.open.Goals as goal

pub returns-clause-says : goal.returns-clause-says
returns-clause-says g c =
    let e = c.args.execution.now in
    let l = c.local_order-local in
    let o = c.opening_order-opening in
    says_same (before (rows_of e l.result)) (local (g.B.RuleBook.keeps c.args.book.now) (ops e)) (ops e) (rows_of e o.result) l.ensures.kept o.ensures.says
