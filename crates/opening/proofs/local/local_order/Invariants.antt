use Rattle.std.proofs.Common.{◌≡◌, ℕ, ◌<◌, ◌≤◌, length, get_or}
use Rattle.execution.specs.Calls.{ops}
use Rattle.order.specs.Bits.{bit}
use Rattle.theory.specs.Serial.{local}
use Rattle.opening.proofs.local.local_order.Given as goal

abbrev pub invariant-loop-a : goal.invariant-loop-a
invariant-loop-a g l =
    (length l.rows ≡ 32)
    × ((x y : ℕ) → x < l.a → bit (get_or l.rows x 0) y ≡ local (g.B.RuleBook.keeps l.book) (ops l.execution) x y)
    × ((x : ℕ) → l.a ≤ x → get_or l.rows x 0 ≡ 0)
