use Rattle.std.proofs.Common.{rules}
use Rattle.caseroom.proofs.Same.{same_desk}
use Rattle.caseroom.proofs.supposing.on_trial.Goals as goal

pub returns-clause-kept : goal.returns-clause-kept
returns-clause-kept c = search (rules, same_desk)
