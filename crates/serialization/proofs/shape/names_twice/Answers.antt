use Rattle.std.proofs.Common.{rules, ltb, ◌∙◌}
use Rattle.std.proofs.lemmas.Iterator.{YieldsList-from_slice}
use Rattle.std.proofs.lemmas.Iterator.Search.{any_from_yields_List}
use borrow.Author.Tests.{tests}
use Rattle.theory.specs.Lists.{count}
use Rattle.serialization.proofs.Lists.{any_is}
use Rattle.serialization.proofs.shape.names_twice.Goals as goal

pub returns : goal.returns
returns c =
    any_from_yields_List (λ a. ltb 1 (count c.args.order.now a)) _ _ _ c.any.ensures.ran (YieldsList-from_slice c.args.order.now cc) (λ x b q k. search (rules, tests))
    ∙ any_is (λ a. ltb 1 (count c.args.order.now a)) c.args.order.now
