use Rattle.std.proofs.Common.{◌≡◌, ℕ, rules}
use Rattle.theory.specs.Order.{pairs}
use Rattle.theory.specs.Serial.{Least}
use Rattle.order.specs.Rows.{rows_of}
use Rattle.bridge.proofs.Counted.{counts, counts_none}
use Rattle.bridge.proofs.judge_least_pairs.Goals as goal

pub returns-in-Some : goal.returns-in-Some
returns-in-Some c =
    let p = c.in-Some.start in
    let st = c.in-Some.ensures.started in
    let rows = rows_of p.execution c.least_order.result in
    let told = λ (r : ℕ) (e : r ≡ pairs rows). counts Least c.args.bytes.now c.args.code r p.execution p.opening st rows (c.least_order.ensures _ st.says) e in
    search (rules, told)

pub returns-in-None : goal.returns-in-None
returns-in-None c = search (rules, counts_none)
