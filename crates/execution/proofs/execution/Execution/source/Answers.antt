use Rattle.std.proofs.Common.{◌≡◌, None, MatchOption, IsSomeAnd, rules, sym, ◌∙◌}
use Rattle.execution.specs.Calls.{ops}
use Rattle.execution.proofs.Asked.{source_asked}
use Rattle.execution.proofs.execution.Execution.source.Goals as goal

pub returns : goal.returns
returns c =
    let m : MatchOption c.source.result (c.map.result ≡ None) (λ x. IsSomeAnd c.map.result (λ y. y ≡ x)) = search rules in
    source_asked (ops c.args.self.now) c.args.load c.in_ok-operation.field-0 c.source.result c.map.result c.args.self.now.formed (sym c.operation.ensures ∙ c.in_ok-operation.was) c.source.ensures m
