use Rattle.std.proofs.Common.{◌≡◌, Bool, ◌&&◌, eqb, rules, tests, sym, ◌∙◌}
use Rattle.std.specs.List.{list_any}
use Rattle.std.proofs.lemmas.Iterator.{YieldsList-from_slice}
use Rattle.std.proofs.lemmas.Iterator.Search.{any_from_yields_List}
use Rattle.execution.specs.declared.operation.Operation.{Operation}
use Rattle.execution.specs.Formed.{stores_to}
use Rattle.execution.proofs.Listed.{some_any}
use Rattle.execution.proofs.read.is_opened.Goals as goal

pub returns : goal.returns
returns c =
    let f : Operation → Bool = λ o. eqb o.thread 0 && stores_to c.args.address o.action in
    let told : c.any.result ≡ list_any f c.args.operations.now = any_from_yields_List f _ _ c.any.result c.any.ensures.ran (YieldsList-from_slice c.args.operations.now cc) (λ x b q k. search (rules, tests)) in
    told ∙ sym (some_any f c.args.operations.now)
