use Rattle.std.proofs.Common.{◌≡◌, length, take, drop}
use Rattle.rulebook.specs.Writing.{known, entries_of}
use Rattle.rulebook.proofs.reading.decode.Given as goal

-- the codes so far are decoded, and all hangs on the rest
abbrev pub invariant-loop-i : goal.invariant-loop-i
invariant-loop-i l =
    (length l.entries ≡ 16) × (known (drop l.i l.fn.codes) ≡ known l.fn.codes) × (take l.i l.entries ≡ entries_of (take l.i l.fn.codes))
