-- How a table is written: one field with the tag 18, and an entry to a byte.
use Rattle.std.specs.Prelude.{◌≡◌, ℕ, Bool, true, cond, ◌&&◌, List, [], ◌∷◌, map, length, drop, Ok, Err, Result, ◌==◌, nat_le}
use Rattle.field.specs.declared.refusal.Refusal.{Refusal}
use Rattle.field.specs.declared.refusal.Refusal.TheVariants as refusal
use Rattle.field.specs.declared.fault.Layer.{Layer}
use Rattle.field.specs.declared.fault.Layer.TheVariants as layer
use Rattle.field.specs.declared.fault.Fault.{Fault}
use Rattle.field.specs.Faults.{fault, moved, and_then}
use Rattle.field.specs.Fields.{whole, expected}
use Rattle.rulebook.specs.declared.entry.Entry.{Entry}
use Rattle.rulebook.specs.declared.entry.Entry.TheVariants as entry
use Rattle.rulebook.specs.Tables.{entry_of, obeys}

-- every byte is the code of an entry
abbrev pub known : List ℕ → Bool
known [] = true
known (n ∷ ns) = nat_le n 2 && known ns

-- the entries with these codes
abbrev pub entries_of : List ℕ → List Entry
entries_of ns = map entry_of ns

-- the entries with these codes, if every code is known
abbrev pub decoded : List ℕ → Result (List Entry) Refusal
decoded ns = cond (known ns) (Ok (entries_of ns)) (Err refusal.UnknownCode)

-- the same, if they obey the law too
abbrev pub judged : List ℕ → Result (List Entry) Refusal
judged ns = cond (known ns) (cond (obeys (entries_of ns)) (Ok (entries_of ns)) (Err refusal.LawlessTable)) (Err refusal.UnknownCode)

-- a value, or a refusal that the layer y found in the field at the front
abbrev pub found_by : {A : Type 0} → Layer → Result A Refusal → Result A Fault
found_by y (Ok x) = Ok x
found_by y (Err e) = Err (fault e y)

-- nothing is due any more: what still stands here is judged as a field that is not due
abbrev pub ended : List ℕ → Result (Unit {0}) Fault
ended s = cond (length s == 0) (Ok tt) (cond (whole s) (Err (fault refusal.TagNotDue layer.Record)) (Err (fault refusal.CutShort layer.Field)))

-- the entries of the table in s, or the first fault: of the field, of its entries, of what follows it
abbrev pub table_in : List ℕ → Result (List Entry) Fault
table_in s =
    and_then (expected s 18 16 layer.Record) (λ ns.
    and_then (found_by layer.Record (judged ns)) (λ es.
    and_then (moved 19 (ended (drop 19 s))) (λ _. Ok es)))

-- the code of an entry
abbrev pub code_of : Entry → ℕ
code_of entry.MayPass = 0
code_of entry.Kept = 1
code_of entry.KeptOnAddress = 2

-- a table as bytes
abbrev pub table_writing : List Entry → List ℕ
table_writing es = 18 ∷ 0 ∷ 16 ∷ map code_of es

-- the bytes are the writing of a table with these entries, 16 that obey the law
pub record WritingOf (s : List ℕ) (es : List Entry) : Type 0 where
  pub full : length es ≡ 16
  pub lawful : obeys es ≡ true
  pub bytes : s ≡ table_writing es

-- the bytes are the writing of no such table
abbrev pub NoWriting : List ℕ → Type 0
NoWriting s = (es : List Entry) → WritingOf s es → ⊥
