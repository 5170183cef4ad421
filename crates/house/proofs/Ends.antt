-- What the house tells when it is done.
use Rattle.std.proofs.Common.{◌≡◌, T, refl}
use Rattle.theory.specs.Case.{ended}
use Rattle.desk.specs.declared.state.State.{State}
use Rattle.desk.specs.declared.state.State.TheVariants.{Open, Serial, Impossible}
use Rattle.desk.specs.Model.{state_of}

pub not_open : (s : State) → (s ≡ Open → ⊥) → T (ended (state_of s))
not_open Open h = absurd (h refl)
not_open Serial h = tt
not_open Impossible h = tt
