use Rattle.std.proofs.Common.{rules}
use Rattle.theory.specs.Case.{turned_away}
use Rattle.house.proofs.Come.{settled}
use Rattle.caseroom.proofs.Asked.{what_if_answered}
use Rattle.caseroom.proofs.Same.{same_case}
use Rattle.caseroom.proofs.case.Case.what_if.Goals as goal

pub on_trial-requires : goal.on_trial-requires
on_trial-requires c = search (rules, settled)

pub returns-then-not-names_both : goal.returns-then-not-names_both
returns-then-not-names_both c = search (rules, turned_away)

pub returns-in-Serial : goal.returns-in-Serial
returns-in-Serial c = search (rules, turned_away)

pub returns-in-Open-clause-replies : goal.returns-in-Open-clause-replies
returns-in-Open-clause-replies c = search (rules, what_if_answered)

pub returns-in-Open-clause-kept : goal.returns-in-Open-clause-kept
returns-in-Open-clause-kept c = search (rules, same_case)
