-- What reading and writing promise, on every way out.
use Rattle.std.specs.Prelude.{◌≡◌, ℕ, ◌+◌, ◌*◌, ◌<◌, ◌≤◌, T, List, length, take, drop, Ok, Err, Result}
use Rattle.field.specs.declared.refusal.Refusal.{Refusal}
use Rattle.field.specs.declared.refusal.Refusal.TheVariants as refusal
use Rattle.field.specs.declared.fault.Fault.{Fault}
use Rattle.room.specs.Held.{held}
use Rattle.execution.specs.declared.operation.Operation.{Operation}
use Rattle.execution.specs.declared.execution.Execution.{Execution}
use Rattle.execution.specs.Formed.{formed?}
use Rattle.execution.specs.Writing.{writing}

-- the operations of an execution
abbrev pub ops : Execution → List Operation
ops e = held e.listing

-- reading takes what the bytes say: the execution is then that one; or it gives the one fault, and the execution is as it was
abbrev pub Taken : Result (List Operation) Fault → Execution → Result (Unit {0}) Fault → Execution → Type 0
Taken (Ok E) pre r post = (r ≡ Ok tt) × (ops post ≡ E)
Taken (Err e) pre r post = (r ≡ Err e) × (post ≡ pre)

-- an accepted record is the writing of the execution that it gave
abbrev pub SameBytes : List ℕ → Result (Unit {0}) Fault → Execution → Type 0
SameBytes s (Ok u) post = s ≡ writing (ops post)
SameBytes s (Err e) post = Unit {0}

-- the writing of an execution that keeps the rules is accepted and gives that execution; so a refused record is the writing of none
abbrev pub SameExecution : List ℕ → Result (Unit {0}) Fault → Execution → Type 0
SameExecution s r post = (E : List Operation) → T (formed? E) → s ≡ writing E → (r ≡ Ok tt) × (ops post ≡ E)

-- writing fills the first 4 + 9 n bytes and leaves the rest, or touches nothing where there are fewer
abbrev pub Written : List Operation → List ℕ → Result ℕ Refusal → List ℕ → Type 0
Written E pre (Ok n) post = (n ≡ 4 + 9 * length E) × (n ≤ length pre) × (take n post ≡ writing E) × (drop n post ≡ drop n pre)
Written E pre (Err e) post = (e ≡ refusal.MemoryTooShort) × (length pre < 4 + 9 * length E) × (post ≡ pre)
