use Rattle.std.proofs.Common.{◌≡◌, ℕ, ◌<◌, ◌≤◌, cond, ◌||◌, eqb, get_or, length}
use lib.Bits.{bit_or}
use Rattle.theory.specs.Order.{before}
use Rattle.order.proofs.order.Order.record.Given as goal

abbrev pub invariant-loop-x : goal.invariant-loop-x
invariant-loop-x l =
    let rows = l.initial.row-items in
    (length l.row-items ≡ length rows)
    × ((k : ℕ) → k < l.x → get_or l.row-items k 0 ≡ cond (eqb k l.a || before rows k l.a) (bit_or (get_or rows k 0) l.after) (get_or rows k 0))
    × ((k : ℕ) → l.x ≤ k → get_or l.row-items k 0 ≡ get_or rows k 0)
