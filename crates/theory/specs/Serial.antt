-- The local order, and what follows from it and from the sources of the loads: the opening order, the least order, serializations.
use Rattle.std.specs.Prelude.{◌≡◌, ℕ, ◌<◌, ◌≤◌, Bool, not, ◌&&◌, ◌||◌, T, ◌≢◌, List, length, ◌==◌, nat_lt}
use Rattle.execution.specs.declared.operation.Operation.{Operation}
use Rattle.execution.specs.Operations.{op, present, initial, load_at, same_address, source, saw, touches}
use Rattle.rulebook.specs.declared.seen.Seen.{Seen}
use Rattle.rulebook.specs.Books.{access_of, seen_of, conflict}
use Rattle.theory.specs.Lists.{every, place, count}
use Rattle.theory.specs.Order.{Rows, before}

-- # The local order

-- memory is set up before any thread runs: a is an initial store, and b an operation of another thread
abbrev pub from_start : List Operation → ℕ → ℕ → Bool
from_start E a b = initial E a && present E b && not (initial E b)

-- program order: a stands above b in one of the threads from 1 on
abbrev pub program : List Operation → ℕ → ℕ → Bool
program E a b = present E a && present E b && not (initial E a) && (op E a).thread == (op E b).thread && nat_lt a b

-- the local order under a book: the pairs from the start, and of the program order what the book keeps; the stores of thread 0 stay unordered
abbrev pub local : (Seen → Seen → Bool) → List Operation → ℕ → ℕ → Bool
local keeps E a b = from_start E a b || (program E a b && keeps (seen_of a (op E a)) (seen_of b (op E b)))

-- L can be a local order of E under some book that has the law
pub record LawfulOrder (L : ℕ → ℕ → Bool) (E : List Operation) : Type 0 where
  -- each of its pairs is from the start or of the program order
  pub inside : (a b : ℕ) → T (L a b) → T (from_start E a b || program E a b)
  -- it has all pairs from the start
  pub start : (a b : ℕ) → T (from_start E a b) → T (L a b)
  -- and the pairs of the program order that the law asks for: on one address, at least one a store
  pub one_address : (a b : ℕ) → T (program E a b) → T (conflict (access_of (op E a).action) (access_of (op E b).action)) → T (L a b)

-- # Orders that follow

-- the least transitive relation with the pairs of P
pub data Joined (P : ℕ → ℕ → Bool) : ℕ → ℕ → Type 0 where
  -- it has these pairs
  given : {a b : ℕ} → T (P a b) → Joined P a b
  -- and is transitive
  joined : {a b c : ℕ} → Joined P a b → Joined P b c → Joined P a c

-- the least transitive relation with the pairs of P that keeps the rules a, b and c
pub data Derived (E : List Operation) (P : ℕ → ℕ → Bool) : ℕ → ℕ → Type 0 where
  -- it has these pairs
  given : {a b : ℕ} → T (P a b) → Derived E P a b
  -- and is transitive
  joined : {a b c : ℕ} → Derived E P a b → Derived E P b c → Derived E P a c
  -- rule a: a store to the address of the load l that is before l, and is not the store that l saw, is before the store that l saw
  rule_a : {l s : ℕ} → T (touches E s l) → s ≢ source E l → Derived E P s l → Derived E P s (source E l)
  -- rule b: a store to the address of l that is after the store that l saw is after l
  rule_b : {l s : ℕ} → T (touches E s l) → Derived E P (source E l) s → Derived E P l s
  -- rule c: where two loads of one address saw different stores, what is before both loads is before what is after both stores
  rule_c : {l k a b : ℕ} → T (load_at E l && load_at E k && same_address E l k) → source E l ≢ source E k
      → Derived E P a l → Derived E P a k → Derived E P (source E l) b → Derived E P (source E k) b → Derived E P a b

-- what follows from the recorded order R, and from a before b if that is supposed
abbrev pub Supposed : List Operation → Rows → ℕ → ℕ → ℕ → ℕ → Type 0
Supposed E R a b = Derived E (λ x y. before R x y || (x == a && y == b))

module _ (L : ℕ → ℕ → Bool) (E : List Operation) where
  -- what is known without any argument: the local order, and each source before its load
  abbrev pub direct : ℕ → ℕ → Bool
  direct a b = L a b || saw E b a

  -- the opening order, which a new case has recorded
  abbrev pub Opening : ℕ → ℕ → Type 0
  Opening = Joined direct

  -- the least order: all that the three rules find, with nothing tried or supposed
  abbrev pub Least : ℕ → ℕ → Type 0
  Least = Derived E direct

  -- # Serializations

  -- σ is an order of all operations, one after the other, that keeps the local order, and in which each load sees the last store before it to its address
  pub record Serialization (σ : List ℕ) : Type 0 where
    -- it has as many places as there are operations
    pub all : length σ ≡ length E
    -- each operation stands in it once
    pub once : (a : ℕ) → a < length E → count σ a ≡ 1
    -- it keeps the local order
    pub in_order : (a b : ℕ) → T (L a b) → place σ a < place σ b
    -- each load comes after the store that it saw
    pub from_source : (l : ℕ) → T (load_at E l) → place σ (source E l) < place σ l
    -- and no other store to its address comes between
    pub none_between : (l t : ℕ) → T (touches E t l) → place σ (source E l) < place σ t → place σ t < place σ l → ⊥

  module _ (σ : List ℕ) where
    -- a comes before b in σ
    abbrev pub earlier : ℕ → ℕ → Bool
    earlier a b = nat_lt (place σ a) (place σ b)

    -- σ is a serialization, as a test
    abbrev pub serial? : Bool
    serial? =
        (length σ == length E)
        && every (length E) (λ a. count σ a == 1)
        && every (length E) (λ a. every (length E) (λ b. not (L a b) || earlier a b))
        && every (length E) (λ l. not (load_at E l) || earlier (source E l) l)
        && every (length E) (λ l. every (length E) (λ t. not (touches E t l && earlier (source E l) t && earlier t l)))

-- # One thread

-- all operations stand in one thread
abbrev pub OneThread : List Operation → Type 0
OneThread E = (a b : ℕ) → a < length E → b < length E → (op E a).thread ≡ (op E b).thread

-- the load l saw the last store above it to its address
pub record SawLast (E : List Operation) (l : ℕ) : Type 0 where
  pub above : source E l < l
  pub last : (s : ℕ) → T (touches E s l) → s < l → s ≤ source E l
