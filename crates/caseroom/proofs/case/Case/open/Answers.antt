use Rattle.std.proofs.Common.{rules}
use Rattle.caseroom.proofs.Reach.{begins}
use Rattle.caseroom.proofs.case.Case.open.Goals as goal

pub invariant_of-result : goal.invariant_of-result
invariant_of-result g c = search (rules, begins (g.B.RuleBook.keeps c.args.book.now) c.args.execution)
