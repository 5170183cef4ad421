-- What every execution that exists keeps.
use Rattle.std.specs.Prelude.{◌≡◌, ℕ, zero, suc, ◌<◌, ◌≤◌, Bool, true, false, not, ◌&&◌, ◌||◌, T, List, [], ◌∷◌, ◌++◌, length, Some, None, Option, ◌==◌, ◌≢◌, nat_le, nat_lt}
use Rattle.execution.specs.declared.operation.Action.{Action}
use Rattle.execution.specs.declared.operation.Action.TheVariants as act
use Rattle.execution.specs.declared.operation.Operation.{Operation}
use Rattle.execution.specs.Operations.{op, load_at, store_at, initial, source, touches, rivals}

-- the rules, operation by operation
pub record WellFormed (E : List Operation) : Type 0 where
  -- there are at most 32 operations, in threads 0 to 8
  pub few : length E ≤ 32
  pub threads : (a : ℕ) → a < length E → (op E a).thread ≤ 8
  -- a load saw a store to its address
  pub sources : (l : ℕ) → T (load_at E l) → T (touches E (source E l) l)
  -- thread 0 holds stores only, one to an address, that depend on nothing
  pub initial_stores : (a : ℕ) → T (initial E a) → T (store_at E a)
  pub initial_once : (a b : ℕ) → T (initial E a) → T (initial E b) → T (rivals E a b) → ⊥
  pub initial_free : (a d : ℕ) → T (initial E a) → (op E a).dependence ≢ Some d
  -- an operation depends on one above it in its thread
  pub depends_above : (a d : ℕ) → a < length E → (op E a).dependence ≡ Some d → d < a
  pub depends_inside : (a d : ℕ) → a < length E → (op E a).dependence ≡ Some d → T ((op E d).thread == (op E a).thread)

-- a test holds of some number below n
abbrev pub some : ℕ → (ℕ → Bool) → Bool
some zero p = false
some (suc n) p = p n || some n p

-- the action is a store to x
abbrev pub stores_to : ℕ → Action → Bool
stores_to x (act.Load y s) = false
stores_to x (act.Store y) = y == x
stores_to x act.Fence = false
stores_to x act.Branch = false

-- thread 0 of E has a store to x
abbrev pub opened : List Operation → ℕ → Bool
opened E x = some (length E) (λ k. ((op E k).thread == 0) && stores_to x (op E k).action)

-- the action may stand in thread 0 after E: a store, the first there to its address
abbrev pub first_store : List Operation → Action → Bool
first_store E (act.Load y s) = false
first_store E (act.Store y) = not (opened E y)
first_store E act.Fence = false
first_store E act.Branch = false

-- an operation of the thread t after E may have this dependence: none, or one on an operation of its thread, which is not thread 0
abbrev pub depends_well : List Operation → ℕ → Option ℕ → Bool
depends_well E t None = true
depends_well E t (Some d) = nat_lt 0 t && (nat_lt d (length E) && (op E d).thread == t)

-- the operation may stand after E
abbrev pub follows : List Operation → Operation → Bool
follows E o = nat_le o.thread 8 && ((not (o.thread == 0) || first_store E o.action) && depends_well E o.thread o.dependence)

-- each operation of F may stand after E and those before it
abbrev pub in_turn : List Operation → List Operation → Bool
in_turn E [] = true
in_turn E (o ∷ F) = follows E o && in_turn (E ++ o ∷ []) F

-- the action has a right source: a load saw a store to its address
abbrev pub sourced : List Operation → Action → Bool
sourced E (act.Load x s) = nat_lt s (length E) && stores_to x (op E s).action
sourced E (act.Store x) = true
sourced E act.Fence = true
sourced E act.Branch = true

-- the rules as a test, in the order in which operations come: it passes exactly what is well-formed
abbrev pub formed? : List Operation → Bool
formed? E = nat_le (length E) 32 && (in_turn [] E && not (some (length E) (λ k. not (sourced E (op E k).action))))

-- the test passes exactly what is well-formed
abbrev pub FormedExactly : Type 0
FormedExactly = (E : List Operation) → (T (formed? E) → WellFormed E) × (WellFormed E → T (formed? E))
