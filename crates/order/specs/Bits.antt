-- The bits of a number, and the lowest that is set.
use Rattle.std.specs.Prelude.{◌≡◌, ℕ, ◌/◌, ◌%◌, ◌^◌, ◌<◌, Bool, true, false, Some, None, Option, ◌==◌}

-- bit k of n is set
abbrev pub bit : ℕ → ℕ → Bool
bit n k = n / 2 ^ k % 2 == 1

-- the lowest bit of n that is set, or none is
abbrev pub Lowest : ℕ → Option ℕ → Type 0
Lowest n None = (k : ℕ) → bit n k ≡ false
Lowest n (Some i) = (bit n i ≡ true) × ((k : ℕ) → k < i → bit n k ≡ false)

-- the lowest number that passes the test, or none below 32 does
abbrev pub LowestOf : (ℕ → Bool) → Option ℕ → Type 0
LowestOf f None = (k : ℕ) → k < 32 → f k ≡ false
LowestOf f (Some i) = (f i ≡ true) × ((k : ℕ) → k < i → f k ≡ false)
