use Rattle.std.proofs.Common.{◌≤◌, ◌^◌, length, take, arith, rules}
use Rattle.std.proofs.iter.runs.Sources.{ranges}
use Rattle.std.proofs.lemmas.Iterator.{YieldsList-from_slice}
use Rattle.std.proofs.lemmas.Iterator.Adapters.{fits_from_length, at_most_from_yields_List}
use Rattle.theory.specs.Order.{pairs}
use Rattle.order.proofs.order.Order.pairs.Goals as goal

pub sum-requires-clause-fits : goal.sum-requires-clause-fits
sum-requires-clause-fits c =
    let rows = take c.args.n c.args.self.now.rows in
    let few : length rows ≤ 32 = search rules in
    fits_from_length _ _ 32 (2 ^ 32) (at_most_from_yields_List (YieldsList-from_slice rows cc) few) c.map.ensures.closure (omega arith) (λ x r q k. search rules)

pub returns : goal.returns
unfolding pairs
returns c = search (rules, ranges)
