use Rattle.std.proofs.Common.{rules, leb, length, ◌∙◌}
use Rattle.std.proofs.lemmas.Iterator.{YieldsList-from_slice}
use Rattle.std.proofs.lemmas.Iterator.Search.{any_from_yields_List}
use borrow.Author.Tests.{tests}
use Rattle.execution.specs.Calls.{ops}
use Rattle.serialization.proofs.Lists.{any_is}
use Rattle.serialization.proofs.shape.names_unknown.Goals as goal

pub returns : goal.returns
returns c =
    any_from_yields_List (λ a. leb (length (ops c.args.execution.now)) a) _ _ _ c.any.ensures.ran (YieldsList-from_slice c.args.order.now cc) (λ x b q k. search (rules, tests))
    ∙ any_is (λ a. leb (length (ops c.args.execution.now)) a) c.args.order.now
