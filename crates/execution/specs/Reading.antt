-- What bytes say as a record: an execution, or the one fault for which they are refused.
use Rattle.std.specs.Prelude.{ℕ, zero, suc, ◌+◌, ◌*◌, Bool, cond, not, ◌&&◌, ◌||◌, List, [], ◌∷◌, ◌++◌, length, drop, Some, None, Ok, Err, Option, Result, ◌==◌, nat_le, nat_lt, slice_index}
use Rattle.field.specs.declared.refusal.Refusal.{Refusal}
use Rattle.field.specs.declared.refusal.Refusal.TheVariants as refusal
use Rattle.field.specs.declared.fault.Layer.TheVariants as layer
use Rattle.field.specs.declared.fault.Fault.{Fault}
use Rattle.field.specs.Faults.{fault, moved, unless, and_then}
use Rattle.field.specs.Fields.{expected}
use Rattle.execution.specs.declared.operation.Action.{Action}
use Rattle.execution.specs.declared.operation.Action.TheVariants as act
use Rattle.execution.specs.declared.operation.Operation.{Operation}
use Rattle.execution.specs.Operations.{op}
use Rattle.execution.specs.Formed.{stores_to, opened}

-- the action that the bytes of a kind, an address and a source say
abbrev pub action_of : ℕ → ℕ → ℕ → Action
action_of k x s = cond (k == 1) (act.Load x s) (cond (k == 2) (act.Store x) (cond (k == 3) act.Fence act.Branch))

-- 255: none
abbrev pub dependence_of : ℕ → Option ℕ
dependence_of d = cond (d == 255) None (Some d)

-- the parts of an operation's body
abbrev pub thread_in : List ℕ → ℕ
thread_in b = slice_index b 0

abbrev pub kind_in : List ℕ → ℕ
kind_in b = slice_index b 1

abbrev pub address_in : List ℕ → ℕ
address_in b = slice_index b 2 * 256 + slice_index b 3

abbrev pub source_in : List ℕ → ℕ
source_in b = slice_index b 4

abbrev pub dependence_in : List ℕ → ℕ
dependence_in b = slice_index b 5

-- the operation that a body says
abbrev pub operation_of : List ℕ → Operation
operation_of b = record { thread = thread_in b; action = action_of (kind_in b) (address_in b) (source_in b); dependence = dependence_of (dependence_in b) }

-- in the thread t after E, the byte d may stand for the dependence: 255, or an operation of the thread, which is not thread 0
abbrev pub may_depend : List Operation → ℕ → ℕ → Bool
may_depend E t d = d == 255 || (nat_lt 0 t && (nat_lt d (length E) && (op E d).thread == t))

-- why an operation of the thread t, the kind k, the address x and the dependence d may not stand after E: the smallest number
abbrev pub body_refusal : List Operation → (t k x d : ℕ) → Option Refusal
body_refusal E t k x d =
    cond (nat_le 32 (length E)) (Some refusal.TooManyOperations)
    (cond (nat_lt 8 t) (Some refusal.ThreadTooHigh)
    (cond (k == 0 || nat_lt 4 k) (Some refusal.UnknownKind)
    (cond (nat_lt 2 k && not (x == 0)) (Some refusal.NeedlessAddress)
    (cond (t == 0 && (not (k == 2) || opened E x)) (Some refusal.InitialRule)
    (cond (not (may_depend E t d)) (Some refusal.DependenceRule)
    None)))))

-- the action that the bytes of a kind, an address and a source say, or why none may have them
abbrev pub action_in : ℕ → ℕ → ℕ → Result Action Refusal
action_in k x s =
    cond (k == 0 || nat_lt 4 k) (Err refusal.UnknownKind)
    (cond (nat_lt 2 k && not (x == 0)) (Err refusal.NeedlessAddress)
    (Ok (action_of k x s)))

-- a value, or why there is none
abbrev pub unless_refused : {A : Type 0} → Option Refusal → A → Result A Refusal
unless_refused None x = Ok x
unless_refused (Some e) x = Err e

-- the operation that a body says, after E
abbrev pub operation_from : List Operation → List ℕ → Result Operation Fault
operation_from E b = unless (body_refusal E (thread_in b) (kind_in b) (address_in b) (dependence_in b)) layer.Record (operation_of b)

-- the operation whose field is at the front of s, after E
abbrev pub operation_in : List Operation → List ℕ → Result Operation Fault
operation_in E s = and_then (expected s 17 6 layer.Record) (operation_from E)

-- the edition that a body says: there is one so far
abbrev pub edition_from : List ℕ → Result (Unit {0}) Fault
edition_from b = cond (slice_index b 0 == 1) (Ok tt) (Err (fault refusal.WrongEdition layer.Record))

-- the edition whose field is at the front of s
abbrev pub edition_in : List ℕ → Result (Unit {0}) Fault
edition_in s = and_then (expected s 16 1 layer.Record) edition_from

-- E, and at most n operations more, from s on, which begins at the byte `at`
unfoldable pub read_from : ℕ → List Operation → List ℕ → ℕ → Result (List Operation) Fault
read_from zero E s at = Ok E
read_from (suc n) E s at = cond (length s == 0) (Ok E) (and_then (moved at (operation_in E s)) (λ o. read_from n (E ++ o ∷ []) (drop 9 s) (at + 9)))

-- the operations of a record: the 33rd is refused, so that no more than 33 are looked at
abbrev pub operations_in : List ℕ → Result (List Operation) Fault
operations_in s = read_from 33 [] (drop 4 s) 4

-- in E, the byte b may stand for the source of the action: of a load, a store to its address; of all else, 255
abbrev pub may_see : List Operation → ℕ → Action → Bool
may_see E b (act.Load x s) = nat_lt b (length E) && stores_to x (op E b).action
may_see E b (act.Store x) = b == 255
may_see E b act.Fence = b == 255
may_see E b act.Branch = b == 255

-- the byte of the source of the operation k
abbrev pub source_at : List ℕ → ℕ → ℕ
source_at s k = slice_index s (4 + 9 * k + 7)

-- the first of n operations, from k on, whose source is wrong
abbrev pub sources_from : ℕ → List Operation → List ℕ → ℕ → Result (Unit {0}) Fault
sources_from zero E s k = Ok tt
sources_from (suc n) E s k =
    cond (may_see E (source_at s k) (op E k).action) (sources_from n E s (k + 1)) (Err (record { refusal = refusal.SourceRule; byte = 4 + 9 * k; layer = layer.Record }))

-- sources are judged after the last field, by number
abbrev pub record_in : List ℕ → Result (List Operation) Fault
record_in s =
    and_then (edition_in s) (λ _. and_then (operations_in s) (λ E. and_then (sources_from (length E) E s 0) (λ _. Ok E)))
