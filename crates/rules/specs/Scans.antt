-- What scans ask of their tests, and what they find.
use Rattle.std.specs.Prelude.{◌≡◌, ℕ, ◌<◌, Bool, true, false, ◌&&◌, List, length, Some, None, Option, MatchOption}
use Rattle.execution.specs.declared.operation.Operation.{Operation}
use Rattle.execution.specs.Operations.{load_at, source}
use Rattle.theory.specs.Order.{Rows, before}
use Rattle.order.specs.Bits.{bit}

module _ (E : List Operation) where
  -- a scan over loads and stores may ask a test of the load l, the store u that l saw, and the operation s
  abbrev pub Asked : ℕ → ℕ → ℕ → Type 0
  Asked l u s = (load_at E l ≡ true) × (u ≡ source E l) × (u < length E) × (l < length E) × (s < length E)

  -- what a scan found, where P l u s b says that its test may answer b: by l and then by s, the first of all that is asked that passes
  pub record FirstPair (P : ℕ → ℕ → ℕ → Bool → Type 0) (found : Option (ℕ × ℕ)) : Type 0 where
    pub first : MatchOption found
        ((l s : ℕ) → Asked l (source E l) s → P l (source E l) s false)
        (λ x. Asked x.0 (source E x.0) x.1 × P x.0 (source E x.0) x.1 true
        × ((k t : ℕ) → k < x.0 → Asked k (source E k) t → P k (source E k) t false)
        × ((t : ℕ) → t < x.1 → P x.0 (source E x.0) t false))

-- the lowest number below n that passes the test, or none does
abbrev pub LowestBelow : ℕ → (ℕ → Bool) → Option ℕ → Type 0
LowestBelow n f None = (k : ℕ) → k < n → f k ≡ false
LowestBelow n f (Some i) = (i < n) × (f i ≡ true) × ((k : ℕ) → k < i → f k ≡ false)

-- the bits of m are all that is after both stores that the loads l and k saw
abbrev pub AfterBoth : List Operation → Rows → (l k m : ℕ) → Type 0
AfterBoth E R l k m = (b : ℕ) → bit m b ≡ (before R (source E l) b && before R (source E k) b)
