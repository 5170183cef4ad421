use Rattle.std.proofs.Common.{◌≡◌, ℕ, ◌<◌, length, get_or}
use Rattle.theory.specs.Lists.{place}
use Rattle.serialization.proofs.places.places.Given as goal

abbrev pub invariant-loop-a : goal.invariant-loop-a
invariant-loop-a l = (length l.at ≡ 32) × ((k : ℕ) → k < l.a → get_or l.at k 0 ≡ place l.order k)
