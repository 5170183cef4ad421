use Rattle.std.proofs.Common.{◌≡◌, rules}
use Rattle.theory.specs.Order.{pairs}
use Rattle.theory.specs.Serial.{Opening}
use Rattle.order.specs.Rows.{rows_of}
use Rattle.bridge.proofs.Counted.{counts, by_cases}
use Rattle.bridge.proofs.judge_opening_pairs.Goals as goal

pub returns : goal.returns
returns c =
    by_cases Opening c.args.bytes.now c.args.code c.map_or.result c.begin.result c.begin.ensures.started c.map_or.ensures (λ p st post. (
    let rows = rows_of p.execution p.opening in
    let counted : c.map_or.result ≡ pairs rows = search rules in
    counts Opening c.args.bytes.now c.args.code c.map_or.result p.execution p.opening st rows st.says counted))
