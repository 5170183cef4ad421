-- Orders of the operations of an execution and of nothing else.
use Rattle.std.specs.Prelude.{ℕ, ◌<◌, T}
use Rattle.theory.specs.Order.{Rows, before}

-- the rows name only the first n
abbrev pub Within : ℕ → Rows → Type 0
Within n R = (a b : ℕ) → T (before R a b) → b < n
