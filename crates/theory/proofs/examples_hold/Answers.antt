use Rattle.theory.proofs.examples_hold.Goals as goal
use Rattle.theory.proofs.Examples.{examples_hold}

pub returns : goal.returns
returns c = examples_hold
