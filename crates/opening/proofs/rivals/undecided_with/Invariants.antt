use Rattle.std.proofs.Common.{◌≡◌, ◌≤◌, count_by}
use Rattle.std.specs.List.{range_with_len}
use Rattle.execution.specs.Calls.{ops}
use Rattle.theory.specs.Order.{undecided_pair}
use Rattle.order.specs.Rows.{rows_of}
use Rattle.opening.proofs.rivals.undecided_with.Given as goal

abbrev pub invariant-loop-t : goal.invariant-loop-t
invariant-loop-t l = (l.count ≤ l.t) × (l.count ≡ count_by (undecided_pair (ops l.execution) (rows_of l.execution l.order) l.s) (range_with_len 0 l.t))
