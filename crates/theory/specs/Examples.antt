-- Worked examples: small executions, the books that judge them, and what must come out.
use Rattle.std.specs.Prelude.{◌≡◌, ℕ, Bool, false, T, List, [], ◌∷◌, Some, None}
use Rattle.std.specs.List.{AllByRecursion}
use Rattle.field.specs.declared.refusal.Refusal.TheVariants.{PairRecorded, NotSerialization}
use Rattle.execution.specs.declared.operation.Action.{Action}
use Rattle.execution.specs.declared.operation.Action.TheVariants as act
use Rattle.execution.specs.declared.operation.Operation.{Operation}
use Rattle.execution.specs.Formed.{WellFormed}
use Rattle.rulebook.specs.declared.seen.Seen.{Seen}
use Rattle.rulebook.specs.Books.{Law, sc, weak, dependent}
use Rattle.theory.specs.Order.{Rows, missing, undecided, Says}
use Rattle.theory.specs.Serial.{local, Opening, Serialization}
use Rattle.theory.specs.Case.{State, open', serial, impossible, Model, opened, Call, claim_a, close, split, propose, house, what_if, Answer, admitted, refused, made, supposed, ended, Run}

-- # Executions

-- an operation of the thread t that depends on nothing
abbrev free : ℕ → Action → Operation
free t a = record { thread = t; action = a; dependence = None }

-- message passing: thread 1 stores the message (1), and behind a fence (2) the flag (3); thread 2 saw the flag (4), but of the message what was there at first (5)
abbrev pub message : List Operation
message = free 0 (act.Store 1) ∷ free 1 (act.Store 1) ∷ free 1 act.Fence ∷ free 1 (act.Store 2) ∷ free 2 (act.Load 2 3) ∷ free 2 (act.Load 1 0) ∷ []

-- the same, where the load of the message depends on that of the flag
abbrev pub message_dependent : List Operation
message_dependent =
    free 0 (act.Store 1) ∷ free 1 (act.Store 1) ∷ free 1 act.Fence ∷ free 1 (act.Store 2) ∷ free 2 (act.Load 2 3)
    ∷ record { thread = 2; action = act.Load 1 0; dependence = Some 4 } ∷ []

-- two lone stores to one address, in two threads
abbrev pub two_stores : List Operation
two_stores = free 1 (act.Store 1) ∷ free 2 (act.Store 1) ∷ []

-- two stores to one address, which thread 3 saw in one order and thread 4 in the other
abbrev pub seen_both_ways : List Operation
seen_both_ways =
    free 1 (act.Store 1) ∷ free 2 (act.Store 1) ∷ free 3 (act.Load 1 0) ∷ free 3 (act.Load 1 1)
    ∷ free 4 (act.Load 1 1) ∷ free 4 (act.Load 1 0) ∷ []

-- one thread, whose load saw a store that was overwritten above it
abbrev pub stale : List Operation
stale = free 1 (act.Store 1) ∷ free 1 (act.Store 1) ∷ free 1 (act.Load 1 0) ∷ []

-- # What is to come out

-- the books that an example is about: a given one, or each that has the law
pub data Books : Type 0 where
  the : (Seen → Seen → Bool) → Books
  each_lawful : Books

-- what is expected of a new case
pub data Expected : Type 0 where
  -- m pairs are not recorded, and s pairs of stores are undecided
  counts : (m s : ℕ) → Expected
  -- to these calls it gives these answers, and then has this state
  plays : List Call → List Answer → State → Expected
  -- there is no serialization, and so once it has ended it says impossible
  no_serialization : Expected

-- a worked example
pub record Example : Type 0 where
  pub execution : List Operation
  pub books : Books
  pub expected : Expected

-- what is expected comes out with the local order L and the opening order O
abbrev pub ComesOut : (ℕ → ℕ → Bool) → List Operation → Rows → Expected → Type 0
ComesOut L E O (counts m s) = (missing E O ≡ m) × (undecided E O ≡ s)
ComesOut L E O (plays qs rs s) = (M : Model) × Run L E (opened O) qs rs M × (M.state ≡ s)
ComesOut L E O no_serialization =
    ((σ : List ℕ) → Serialization L E σ → ⊥)
    × ((qs : List Call) (rs : List Answer) (M : Model) → Run L E (opened O) qs rs M → T (ended M.state) → M.state ≡ impossible)

-- it comes out under one book, at the opening order (there is one, and one only: `Openings`)
abbrev pub Under : (Seen → Seen → Bool) → List Operation → Expected → Type 0
Under keeps E x = (O : Rows) → Says E O (Opening (local keeps E) E) → ComesOut (local keeps E) E O x

-- it comes out under these books
abbrev pub By : Books → List Operation → Expected → Type 0
By (the keeps) E x = Under keeps E x
By each_lawful E x = (keeps : Seen → Seen → Bool) → Law keeps → Under keeps E x

-- an example holds: its execution can exist, and what is expected comes out
abbrev pub Holds : Example → Type 0
Holds e = WellFormed e.execution × By e.books e.execution e.expected

-- # The examples

-- an example on one line
abbrev example : List Operation → Books → Expected → Example
example E b x = record { execution = E; books = b; expected = x }

-- all of them
abbrev pub examples : List Example
examples =
    -- no operations: the house finds the empty order in one turn
    example [] (the weak) (counts 0 0)
    ∷ example [] (the weak) (plays (house 1 ∷ []) (made 1 serial ∷ []) serial)
    -- the message under the weak book: its load may pass that of the flag, so 5 can come before 1
    ∷ example message (the weak) (counts 25 0)
    ∷ example message (the weak) (plays (propose (0 ∷ 5 ∷ 1 ∷ 2 ∷ 3 ∷ 4 ∷ []) ∷ []) (admitted ∷ []) serial)
    ∷ example message (the weak) (plays (propose (0 ∷ 1 ∷ 2 ∷ 3 ∷ 4 ∷ 5 ∷ []) ∷ []) (refused NotSerialization ∷ []) open')
    -- where it depends on the load of the flag, it is held back only under a book with the dependence layer
    ∷ example message_dependent (the weak) (plays (house 9 ∷ []) (made 2 serial ∷ []) serial)
    ∷ example message_dependent (the (dependent weak)) (plays (house 9 ∷ []) (made 2 impossible ∷ []) impossible)
    -- two lone stores: one split decides them, and to suppose an order adds that pair and no cycle
    ∷ example two_stores (the weak) (counts 4 1)
    ∷ example two_stores (the weak) (plays (split 0 1 ∷ split 1 0 ∷ []) (admitted ∷ refused PairRecorded ∷ []) open')
    ∷ example two_stores (the weak) (plays (what_if 0 1 ∷ []) (supposed 1 false ∷ []) open')
    -- stores seen both ways: two claims make a cycle, and there is no choice to undo
    ∷ example seen_both_ways (the sc) (counts 28 1)
    ∷ example seen_both_ways (the sc) (plays (claim_a 3 0 ∷ claim_a 5 1 ∷ close ∷ []) (admitted ∷ admitted ∷ admitted ∷ []) impossible)
    -- a stale load in one thread, whatever the book
    ∷ example stale each_lawful no_serialization
    ∷ []

-- every example holds
abbrev pub ExamplesHold : Type 0
ExamplesHold = AllByRecursion Holds examples
