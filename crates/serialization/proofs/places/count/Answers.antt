use Rattle.std.proofs.Common.{ℕ, cond, eqb, arith, rules, ◌∙◌}
use Rattle.std.proofs.lemmas.Iterator.{YieldsList-from_slice, YieldsList-from_map}
use Rattle.std.proofs.lemmas.Iterator.Consumers.{sum_by_from_yields_List, fits_by_from_yields_list}
use Rattle.std.proofs.lemmas.List.Sums.{count_by-le-length}
use borrow.Author.Tests.{tests}
use Rattle.serialization.proofs.Lists.{count_is}
use Rattle.serialization.proofs.places.count.Goals as goal

-- 1 for each number that is a
abbrev one : ℕ → ℕ → ℕ
one a x = cond (eqb x a) 1 0

pub sum-requires-clause-fits : goal.sum-requires-clause-fits
sum-requires-clause-fits c =
    let σ = c.args.order.now in
    let a = c.args.a in
    fits_by_from_yields_list (one a) σ _ _
    (YieldsList-from_map _ (one a) (YieldsList-from_slice σ cc) c.map.ensures.closure (λ x r q k. search (rules, tests)))
    (omega (arith, count_by-le-length (λ x. eqb x a) σ))

pub returns : goal.returns
returns c =
    let σ = c.args.order.now in
    let a = c.args.a in
    sum_by_from_yields_List (one a) σ _ c.sum.result c.sum.ensures.ran
    (YieldsList-from_map _ (one a) (YieldsList-from_slice σ cc) c.map.ensures.closure (λ x r q k. search (rules, tests)))
    ∙ count_is a σ
