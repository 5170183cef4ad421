use Rattle.std.proofs.Common.{◌≡◌, rules}
use Rattle.execution.specs.Calls.{ops}
use Rattle.rules.specs.Claims.{crossed}
use Rattle.rules.proofs.Masks.{after_both}
use Rattle.rules.proofs.rule_c.after_sources.Goals.{then-same_address, else-same_address}
use Rattle.rules.proofs.rule_c.after_sources.Goals as goal

pub returns : goal.returns
returns c =
    let p = c.in_ok-source.ensures in
    let q = c.in_ok-other.ensures in
    let tested : c.if-same_address.then_some ≡ crossed (ops c.args.execution.now) c.args.first c.args.second =
    elim c.if-same_address.branch [ then-same_address w ↦ search rules | else-same_address w ↦ search rules ] in
    after_both c.args.execution.now c.args.order.now c.args.first c.args.second c.in_ok-source.source c.in_ok-other.other c.row.result c.row-2.result p.1 q.1 p.2 q.2 c.row.ensures c.row-2.ensures
    c.if-same_address.then_some c.then_some.result tested c.then_some.ensures
