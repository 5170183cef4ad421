-- Where an access stands in a written table, and which addresses two of them share.
use Rattle.std.specs.Prelude.{ℕ, Bool, Some, None, Option}
use Rattle.execution.specs.Operations.{shared}
use Rattle.rulebook.specs.declared.seen.Access.{Access}
use Rattle.rulebook.specs.declared.seen.Access.TheVariants as access

-- the address that an access touches, if any
abbrev pub touched : Access → Option ℕ
touched (access.Load x) = Some x
touched (access.Store x) = Some x
touched access.Fence = None
touched access.Branch = None

-- both touch one address; what has no address shares none
abbrev pub shares_address : Access → Access → Bool
shares_address x y = shared (touched x) (touched y)

-- the kinds in the order of a table's rows and columns
abbrev pub row : Access → ℕ
row (access.Load x) = 0
row (access.Store x) = 1
row access.Fence = 2
row access.Branch = 3

-- where the entry for a pair stands: a row for each kind of the first, a column for each kind of the second
abbrev pub place : Access → Access → ℕ
place (access.Load x) (access.Load y) = 0
place (access.Load x) (access.Store y) = 1
place (access.Load x) access.Fence = 2
place (access.Load x) access.Branch = 3
place (access.Store x) (access.Load y) = 4
place (access.Store x) (access.Store y) = 5
place (access.Store x) access.Fence = 6
place (access.Store x) access.Branch = 7
place access.Fence (access.Load y) = 8
place access.Fence (access.Store y) = 9
place access.Fence access.Fence = 10
place access.Fence access.Branch = 11
place access.Branch (access.Load y) = 12
place access.Branch (access.Store y) = 13
place access.Branch access.Fence = 14
place access.Branch access.Branch = 15
