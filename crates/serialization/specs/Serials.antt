-- What an order of the operations has to keep, by the operations' places.
use Rattle.std.specs.Prelude.{◌≡◌, ℕ, ◌<◌, Bool, not, ◌&&◌, ◌||◌, T, List, length, nat_lt, slice_index}
use Rattle.std.specs.List.{range_with_len, list_all, list_any}
use Rattle.execution.specs.declared.operation.Operation.{Operation}
use Rattle.execution.specs.Operations.{source, touches}
use Rattle.theory.specs.Lists.{count}
use Rattle.theory.specs.Order.{Rows, before}

-- each of the first n stands in the order once
abbrev pub EachOnce : ℕ → List ℕ → Type 0
EachOnce n σ = (a : ℕ) → a < n → count σ a ≡ 1

-- the places keep to the rows
abbrev pub Keeps : ℕ → Rows → List ℕ → Type 0
Keeps n R at = (a b : ℕ) → a < n → b < n → T (before R a b) → slice_index at a < slice_index at b

-- no store to a load's address has a place between the load and the store that it saw
abbrev pub NoneBetween : List Operation → List ℕ → Type 0
NoneBetween E at = (l t : ℕ) → l < length E → t < length E → T (touches E t l) → slice_index at (source E l) < slice_index at t → slice_index at t < slice_index at l → ⊥

-- the same, as tests: a has its place before all that the rows say it is before
abbrev pub kept_by : ℕ → Rows → List ℕ → ℕ → Bool
kept_by n R at a = list_all (λ b. not (before R a b) || nat_lt (slice_index at a) (slice_index at b)) (range_with_len 0 n)

-- no store to the address of the load l has a place between l and the store that it saw
abbrev pub free_of : List Operation → List ℕ → ℕ → Bool
free_of E at l =
    not (list_any (λ t. touches E t l && nat_lt (slice_index at (source E l)) (slice_index at t) && nat_lt (slice_index at t) (slice_index at l)) (range_with_len 0 (length E)))
