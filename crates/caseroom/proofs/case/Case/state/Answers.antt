use Rattle.std.proofs.Common.{rules}
use Rattle.caseroom.proofs.Reach.{serial_true, impossible_true}
use Rattle.caseroom.proofs.case.Case.state.Goals as goal

pub returns-clause-serial : goal.returns-clause-serial
returns-clause-serial c = search (rules, serial_true)

pub returns-clause-impossible : goal.returns-clause-impossible
returns-clause-impossible c = search (rules, impossible_true)
