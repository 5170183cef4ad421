-- Which operation may be placed next, where the placed are the bits of a number.
use Rattle.std.specs.Prelude.{ℕ, Bool, not, ◌&&◌, map}
use Rattle.std.specs.List.{range_with_len}
use Rattle.theory.specs.Lists.{any}
use Rattle.theory.specs.Order.{Rows, before}
use Rattle.order.specs.Bits.{bit}

-- one of the first n that is not placed is before a
abbrev pub waits : Rows → ℕ → ℕ → ℕ → Bool
waits R placed n a = any (map (λ x. before R x a && not (bit placed x)) (range_with_len 0 n))

-- a is not placed, and all of the first n that are before it are
abbrev pub free : Rows → ℕ → ℕ → ℕ → Bool
free R placed n a = not (bit placed a) && not (waits R placed n a)
