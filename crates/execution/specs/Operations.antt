-- An execution is a list of operations, each known by its place in the list, from 0 on.
use Rattle.std.specs.Prelude.{ℕ, Bool, true, false, not, ◌&&◌, List, length, Some, None, Option, ◌==◌, nat_lt, slice_index_or}
use Rattle.execution.specs.declared.operation.Action.{Action}
use Rattle.execution.specs.declared.operation.Action.TheVariants as act
use Rattle.execution.specs.declared.operation.Operation.{Operation}

-- what stands at a number past the end: it touches nothing
abbrev pub idle : Operation
idle = record { thread = 0; action = act.Fence; dependence = None }

-- the operation with the number a
abbrev pub op : List Operation → ℕ → Operation
op E a = slice_index_or E a idle

-- the action is a load
abbrev pub is_load : Action → Bool
is_load (act.Load x s) = true
is_load (act.Store x) = false
is_load act.Fence = false
is_load act.Branch = false

-- the action is a store
abbrev pub is_store : Action → Bool
is_store (act.Load x s) = false
is_store (act.Store x) = true
is_store act.Fence = false
is_store act.Branch = false

-- the address that an action touches, if any
abbrev pub address_of : Action → Option ℕ
address_of (act.Load x s) = Some x
address_of (act.Store x) = Some x
address_of act.Fence = None
address_of act.Branch = None

-- the number of the store that a load saw; of another action, 0
abbrev pub source_of : Action → ℕ
source_of (act.Load x s) = s
source_of (act.Store x) = 0
source_of act.Fence = 0
source_of act.Branch = 0

-- both have an address, and it is the same
abbrev pub shared : Option ℕ → Option ℕ → Bool
shared (Some x) (Some y) = x == y
shared (Some x) None = false
shared None (Some y) = false
shared None None = false

module _ (E : List Operation) where
  -- a is the number of an operation
  abbrev pub present : ℕ → Bool
  present a = nat_lt a (length E)

  -- a is a load
  abbrev pub load_at : ℕ → Bool
  load_at a = present a && is_load (op E a).action

  -- a is a store
  abbrev pub store_at : ℕ → Bool
  store_at a = present a && is_store (op E a).action

  -- a is an initial store: thread 0 holds what was in memory at the start
  abbrev pub initial : ℕ → Bool
  initial a = present a && (op E a).thread == 0

  -- a and b touch one address
  abbrev pub same_address : ℕ → ℕ → Bool
  same_address a b = shared (address_of (op E a).action) (address_of (op E b).action)

  -- the store that the load l saw
  abbrev pub source : ℕ → ℕ
  source l = source_of (op E l).action

  -- l is a load, and it saw s
  abbrev pub saw : ℕ → ℕ → Bool
  saw l s = load_at l && source l == s

  -- s is a store to the address of the load l
  abbrev pub touches : ℕ → ℕ → Bool
  touches s l = store_at s && load_at l && same_address s l

  -- s and t are different stores to one address
  abbrev pub rivals : ℕ → ℕ → Bool
  rivals s t = store_at s && store_at t && same_address s t && not (s == t)
