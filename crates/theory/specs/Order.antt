-- Recorded orders. They are kept as rows of bits, one row for each operation: bit b of row a says that a is before b.
use Rattle.std.specs.Prelude.{◌≡◌, ℕ, ◌-◌, ◌*◌, ◌/◌, ◌%◌, ◌^◌, ◌<◌, Bool, cond, not, ◌&&◌, ◌||◌, T, ◌⊎◌, List, map, length, sum_by, count_by, ◌==◌, bit_or, count_ones, nat_lt, slice_index}
use Rattle.std.specs.List.{range_with_len}
use Rattle.execution.specs.declared.operation.Operation.{Operation}
use Rattle.execution.specs.Operations.{rivals}
use Rattle.theory.specs.Lists.{any}

-- an order of operations that are known by number, from 0 on
abbrev pub Rows : Type 0
Rows = List ℕ

-- R has a before b
abbrev pub before : Rows → ℕ → ℕ → Bool
before R a b = slice_index R a / 2 ^ b % 2 == 1

-- R is an order of the operations of E, and has exactly the pairs of the relation P
abbrev pub Says : List Operation → Rows → (ℕ → ℕ → Type 0) → Type 0
Says E R P = (length R ≡ length E) × ((x y : ℕ) → (T (before R x y) → P x y) × (P x y → T (before R x y)))

-- R is an order of n operations: it has n rows, no pair goes beyond the first n operations, and it is transitive (it may have cycles)
pub record Settled (n : ℕ) (R : Rows) : Type 0 where
  pub rows : length R ≡ n
  pub within : (x y : ℕ) → T (before R x y) → y < n
  pub joins : (x y z : ℕ) → T (before R x y) → T (before R y z) → T (before R x z)

-- what recording a before b does to R: Q has x before y exactly where R has it, or where x is a or before a, and y is b or after b
abbrev pub Spread : ℕ → ℕ → Rows → Rows → Type 0
Spread a b R Q =
    (length Q ≡ length R)
    × ((x y : ℕ) → x < length R
    → (T (before Q x y) → T (before R x y) ⊎ (((x ≡ a) ⊎ T (before R x a)) × ((y ≡ b) ⊎ T (before R b y))))
    × (T (before R x y) ⊎ (((x ≡ a) ⊎ T (before R x a)) × ((y ≡ b) ⊎ T (before R b y))) → T (before Q x y)))

-- R with a before b recorded: the row of a, and each row that has a, takes in b and the row of b
abbrev pub recorded : ℕ → ℕ → Rows → Rows
recorded a b R =
    map (λ x. cond (x == a || before R x a) (bit_or (slice_index R x) (bit_or (slice_index R b) (2 ^ b))) (slice_index R x)) (range_with_len 0 (length R))

-- the order has a cycle: some operation is before itself
abbrev pub cyclic : Rows → Bool
cyclic R = any (map (λ x. before R x x) (range_with_len 0 (length R)))

-- how many pairs are recorded, those of an operation with itself included
unfoldable pub pairs : Rows → ℕ
pairs R = sum_by count_ones R

-- how many of the n * n pairs are not recorded; m is this number when a case opens
unfoldable pub missing : List Operation → Rows → ℕ
missing E R = length E * length E - pairs R

-- s and t, the lower number first, are two stores to one address, and neither is before the other
abbrev pub undecided_pair : List Operation → Rows → ℕ → ℕ → Bool
undecided_pair E R s t = rivals E s t && nat_lt s t && not (before R s t) && not (before R t s)

-- how many pairs of stores are undecided, each counted once; s is this number when a case opens
abbrev pub undecided : List Operation → Rows → ℕ
undecided E R = let n = length E in sum_by (λ s. count_by (undecided_pair E R s) (range_with_len 0 n)) (range_with_len 0 n)
