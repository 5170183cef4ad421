use Rattle.execution.proofs.rules.rules_are_tested.Goals as goal
use Rattle.execution.proofs.Tested.{well_formed, formed_well}

pub returns : goal.returns
returns c = λ E. (well_formed E, formed_well E)
