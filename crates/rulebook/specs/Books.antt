-- What rule books keep: of two operations of one thread, the first above the second in the program.
use Rattle.std.specs.Prelude.{ℕ, ◌<◌, Bool, true, false, ◌&&◌, ◌||◌, T, Some, None, Option, ◌==◌}
use Rattle.execution.specs.declared.operation.Action.{Action}
use Rattle.execution.specs.declared.operation.Action.TheVariants as act
use Rattle.execution.specs.declared.operation.Operation.{Operation}
use Rattle.rulebook.specs.declared.seen.Access.{Access}
use Rattle.rulebook.specs.declared.seen.Access.TheVariants as access
use Rattle.rulebook.specs.declared.seen.Seen.{Seen}

-- what a rule book may know of an action
abbrev pub access_of : Action → Access
access_of (act.Load x s) = access.Load x
access_of (act.Store x) = access.Store x
access_of act.Fence = access.Fence
access_of act.Branch = access.Branch

-- what it sees of the operation with the number a: not its thread, not its source
abbrev pub seen_of : ℕ → Operation → Seen
seen_of a o = record { number = a; access = access_of o.action; dependence = o.dependence }

-- the two touch one address, and at least one is a store
abbrev pub conflict : Access → Access → Bool
conflict (access.Load x) (access.Load y) = false
conflict (access.Load x) (access.Store y) = x == y
conflict (access.Load x) access.Fence = false
conflict (access.Load x) access.Branch = false
conflict (access.Store x) (access.Load y) = x == y
conflict (access.Store x) (access.Store y) = x == y
conflict (access.Store x) access.Fence = false
conflict (access.Store x) access.Branch = false
conflict access.Fence (access.Load y) = false
conflict access.Fence (access.Store y) = false
conflict access.Fence access.Fence = false
conflict access.Fence access.Branch = false
conflict access.Branch (access.Load y) = false
conflict access.Branch (access.Store y) = false
conflict access.Branch access.Fence = false
conflict access.Branch access.Branch = false

-- the law of every rule book: two operations on one address, at least one a store, keep their order
abbrev pub Law : (Seen → Seen → Bool) → Type 0
Law keeps = (x y : Seen) → x.number < y.number → T (conflict x.access y.access) → T (keeps x y)

-- a dependence is on the operation with the number a
abbrev pub needed : Option ℕ → ℕ → Bool
needed None a = false
needed (Some d) a = d == a

-- the first of these two depends on the second
abbrev pub depends_on : Seen → Seen → Bool
depends_on y x = needed y.dependence x.number

-- sequential consistency: every pair
abbrev pub sc : Seen → Seen → Bool
sc x y = true

-- the access is a load or a store
abbrev pub is_memory : Access → Bool
is_memory (access.Load x) = true
is_memory (access.Store x) = true
is_memory access.Fence = false
is_memory access.Branch = false

abbrev pub is_store : Access → Bool
is_store (access.Load x) = false
is_store (access.Store x) = true
is_store access.Fence = false
is_store access.Branch = false

abbrev pub is_fence : Access → Bool
is_fence (access.Load x) = false
is_fence (access.Store x) = false
is_fence access.Fence = true
is_fence access.Branch = false

abbrev pub is_branch : Access → Bool
is_branch (access.Load x) = false
is_branch (access.Store x) = false
is_branch access.Fence = false
is_branch access.Branch = true

-- a fence keeps loads and stores on their side of it, a branch keeps branches and stores below it, and the law's pairs are kept
abbrev pub weak_order : Access → Access → Bool
weak_order x y =
    (is_memory x && is_fence y) || ((is_fence x && is_memory y) || ((is_branch x && (is_branch y || is_store y)) || conflict x y))

-- nothing else: two loads may pass each other, on one address too
abbrev pub weak : Seen → Seen → Bool
weak x y = weak_order x.access y.access

-- what a book keeps, and also every pair whose second depends on its first
abbrev pub dependent : (Seen → Seen → Bool) → Seen → Seen → Bool
dependent keeps x y = keeps x y || depends_on y x
