-- What a room holds.
use Rattle.std.specs.Prelude.{ℕ, List, take}
use Rattle.room.specs.declared.room.Room.{Room}

-- the first `count` of its items
abbrev pub held : {A : Type 0} {n : ℕ} → Room A n → List A
held r = take r.count r.items
