-- What reading tells, and what it does to a table.
use Rattle.std.specs.Prelude.{◌≡◌, ℕ, ◌≤◌, List, length, IfErr, Ok, Err, Result, MatchResult}
use Rattle.field.specs.declared.fault.Fault.{Fault}
use Rattle.rulebook.specs.declared.entry.Entry.{Entry}
use Rattle.rulebook.specs.declared.table.Table.{Table}
use Rattle.rulebook.specs.Writing.{table_in, WritingOf, NoWriting}

-- the table in the bytes was found, or their fault
abbrev pub Found : List ℕ → Result Table Fault → Type 0
Found s r = MatchResult r (λ t. table_in s ≡ Ok t.entries) (λ e. table_in s ≡ Err e)

-- what was accepted is a writing, and what was refused is none
abbrev pub Exact : List ℕ → Result Table Fault → Type 0
Exact s r = MatchResult r (λ t. WritingOf s t.entries) (λ _. NoWriting s)

-- a fault is of a byte in s, or of the end
abbrev pub Inside : {A : Type 0} → List ℕ → Result A Fault → Type 0
Inside s r = IfErr r (λ e. e.byte ≤ length s)

-- an accepted table replaces the old one whole; a refused one leaves it as it was
abbrev pub Taken : Result (List Entry) Fault → Table → Result (Unit {0}) Fault → Table → Type 0
Taken (Ok es) old r new = (r ≡ Ok tt) × (new.entries ≡ es)
Taken (Err e) old r new = (r ≡ Err e) × (new ≡ old)
