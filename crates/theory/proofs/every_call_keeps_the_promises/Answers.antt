use Rattle.theory.proofs.every_call_keeps_the_promises.Goals as goal
use Rattle.theory.proofs.Kept.{sessions}

pub returns : goal.returns
returns c = sessions
