-- What the state of a case says in words.
use Rattle.std.specs.Prelude.{ℕ, List, codes}
use Rattle.desk.specs.declared.state.State.{State}
use Rattle.desk.specs.declared.state.State.TheVariants.{Open, Serial, Impossible}

-- what a case has come to
abbrev pub state_text : State → List ℕ
state_text Open = codes "open"
state_text Serial = codes "serial"
state_text Impossible = codes "impossible"
