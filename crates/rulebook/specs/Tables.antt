-- Rule books that are written down: 16 entries, a row for each kind of the first operation and a column for each kind of the second.
use Rattle.std.specs.Prelude.{ℕ, Bool, true, false, cond, not, ◌&&◌, List, Ok, Err, Result, ◌==◌, nat_le, slice_index_or}
use Rattle.field.specs.declared.refusal.Refusal.{Refusal}
use Rattle.field.specs.declared.refusal.Refusal.TheVariants as refusal
use Rattle.rulebook.specs.declared.seen.Seen.{Seen}
use Rattle.rulebook.specs.declared.entry.Entry.{Entry}
use Rattle.rulebook.specs.declared.entry.Entry.TheVariants as entry
use Rattle.rulebook.specs.Places.{place, shares_address}

-- the entry with a code: 0, 1, or else 2
abbrev pub entry_of : ℕ → Entry
entry_of n = cond (n == 0) entry.MayPass (cond (n == 1) entry.Kept entry.KeptOnAddress)

-- the same, if the code is known
abbrev pub entry_by_code : ℕ → Result Entry Refusal
entry_by_code n = cond (nat_le n 2) (Ok (entry_of n)) (Err refusal.UnknownCode)

-- a pair with this entry keeps its order, where the second argument says whether its operations share an address
abbrev pub entry_keeps : Entry → Bool → Bool
entry_keeps entry.MayPass together = false
entry_keeps entry.Kept together = true
entry_keeps entry.KeptOnAddress together = together

-- it lets pass every pair
abbrev pub may_pass : Entry → Bool
may_pass entry.MayPass = true
may_pass entry.Kept = false
may_pass entry.KeptOnAddress = false

-- the entry at a place
abbrev pub entry_at : List Entry → ℕ → Entry
entry_at es k = slice_index_or es k entry.MayPass

-- what a table with these entries keeps
abbrev pub written : List Entry → Seen → Seen → Bool
written es x y = entry_keeps (entry_at es (place x.access y.access)) (shares_address x.access y.access)

-- the entries for load and store, for store and load and for two stores obey the law: none lets pass every pair
abbrev pub obeys : List Entry → Bool
obeys es = not (may_pass (entry_at es 1)) && (not (may_pass (entry_at es 4)) && not (may_pass (entry_at es 5)))
