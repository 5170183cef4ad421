use Rattle.std.proofs.Common.{length, take, ◌∙◌, rules}
use Rattle.order.specs.Rows.{rows_of}
use Rattle.desk.specs.Model.{events}
use Rattle.desk.proofs.Stack.{to_second}
use Rattle.desk.proofs.desk.Desk.undo.Goals as goal

pub returns-then-eq : goal.returns-then-eq
returns-then-eq c =
    let g = c.args.given.now in
    let n = length (events g) in
    let d = c.loop-choice.self in
    to_second n (rows_of g.execution d.order) (rows_of g.execution c.record.new.order) _ c.in-Some.choice d.state (take n d.admitted)
    c.in-Some.ensures (search rules) (search rules) c.push.ensures (search rules)
    ∙ c.loop-choice.invariant.same
