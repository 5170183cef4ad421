use Rattle.std.proofs.Common.{ℕ, ◌≤◌, length, count_by, arith, rules}
use Rattle.std.specs.List.{range_with_len}
use Rattle.std.proofs.lemmas.Iterator.{YieldsList-from_range, YieldsList-from_map}
use Rattle.std.proofs.lemmas.Iterator.Consumers.{sum_by_from_yields_List, fits_by_from_yields_list}
use Rattle.execution.specs.declared.execution.Execution.{Execution}
use Rattle.execution.specs.Calls.{ops}
use Rattle.order.specs.declared.order.Order.{Order}
use Rattle.theory.specs.Order.{undecided_pair, undecided}
use Rattle.theory.proofs.Bound.{few_undecided}
use Rattle.order.specs.Rows.{rows_of}
use Rattle.order.proofs.Room.{few}
use Rattle.opening.proofs.rivals.undecided.Goals as goal

-- what the chain gives at s
abbrev row : Execution → Order → ℕ → ℕ
row e o s = count_by (undecided_pair (ops e) (rows_of e o) s) (range_with_len 0 (length (ops e)))

small : (e : Execution) (o : Order) → undecided (ops e) (rows_of e o) ≤ 496
small e o = few_undecided (ops e) (rows_of e o) (few e)

pub sum-requires-clause-fits : goal.sum-requires-clause-fits
sum-requires-clause-fits c =
    let e = c.args.execution.now in
    let o = c.args.order.now in
    let n = length (ops e) in
    fits_by_from_yields_list (row e o) (range_with_len 0 n) _ _
    (YieldsList-from_map _ (row e o) (YieldsList-from_range 0 c.len.result n c.map.ensures.source (omega (arith, c.len.ensures))) c.map.ensures.closure (λ x r q k. search rules)) (omega (arith, small e o))

pub returns : goal.returns
returns c =
    let e = c.args.execution.now in
    let o = c.args.order.now in
    let n = length (ops e) in
    let is = sum_by_from_yields_List (row e o) (range_with_len 0 n) _ c.sum.result c.sum.ensures.ran
    (YieldsList-from_map _ (row e o) (YieldsList-from_range 0 c.len.result n c.map.ensures.source (omega (arith, c.len.ensures))) c.map.ensures.closure (λ x r q k. search rules)) in
    record { counted = is; few = omega (arith, is, small e o) }
