-- Faults, and how a layer above passes one on.
use Rattle.std.specs.Prelude.{ℕ, ◌+◌, Some, None, Ok, Err, Option, Result}
use Rattle.field.specs.declared.refusal.Refusal.{Refusal}
use Rattle.field.specs.declared.fault.Layer.{Layer}
use Rattle.field.specs.declared.fault.Fault.{Fault}

-- a fault of the field that begins where reading began
abbrev pub fault : Refusal → Layer → Fault
fault e y = record { refusal = e; byte = 0; layer = y }

-- the same fault, found by reading that began at the byte `start`
abbrev pub moved_fault : ℕ → Fault → Fault
moved_fault start e = record { refusal = e.refusal; byte = e.byte + start; layer = e.layer }

-- what was read from the byte `start` on, seen from byte 0
abbrev pub moved : {A : Type 0} → ℕ → Result A Fault → Result A Fault
moved start (Ok x) = Ok x
moved start (Err e) = Err (moved_fault start e)

-- a value, if nothing is wrong
abbrev pub unless : {A : Type 0} → Option Refusal → Layer → A → Result A Fault
unless None y x = Ok x
unless (Some e) y x = Err (fault e y)

-- the first of two refusals that there is
abbrev pub or_else : Option Refusal → Option Refusal → Option Refusal
or_else (Some e) n = Some e
or_else None n = n

-- a value read, and what is read after it
abbrev pub and_then : {A B : Type 0} → Result A Fault → (A → Result B Fault) → Result B Fault
and_then (Ok x) f = f x
and_then (Err e) f = Err e
