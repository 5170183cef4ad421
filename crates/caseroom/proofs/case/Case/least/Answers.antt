use Rattle.std.proofs.Common.{rules}
use Rattle.theory.specs.Case.{turned_away}
use Rattle.caseroom.proofs.Reach.{says_opening, settled_first}
use Rattle.caseroom.proofs.Asked.{least_answered}
use Rattle.caseroom.proofs.case.Case.least.Goals as goal

pub returns-then-not-names_both : goal.returns-then-not-names_both
returns-then-not-names_both c = search (rules, turned_away)

pub least_order-least-requires : goal.least_order-least-requires
least_order-least-requires c = search (rules, settled_first)

pub returns : goal.returns
returns c =
    let s = c.args.self.now in
    let says = c.least_order-least.ensures _ (says_opening s.given s.desk s.reached) in
    search (rules, least_answered)
