use Rattle.theory.proofs.orders_stay_sound.Goals as goal
use Rattle.theory.proofs.Kept.{orders_stay_sound}

pub returns : goal.returns
returns c = orders_stay_sound
