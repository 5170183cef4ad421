use Rattle.std.proofs.Common.{arith, rules}
use Rattle.std.proofs.lemmas.List.{drop-set-lt}
use Rattle.caseroom.proofs.Sessions.{none_heard, one_heard, heard_out}
use Rattle.caseroom.proofs.session.hear.Goals as goal

pub loop-i-init : goal.loop-i-init
loop-i-init g c = search (rules, none_heard)

pub loop-i-preserved : goal.loop-i-preserved
loop-i-preserved g c = search (rules, one_heard, drop-set-lt)

pub returns-clause-session : goal.returns-clause-session
returns-clause-session g c =
    let law = g.met.B.RuleBook.lawful c.args.book.now in
    let e = c.open-case.ensures in
    heard_out law c.args.execution c.loop-i.case.desk c.args.calls.now c.loop-i.answers c.loop-i.invariant.0 (omega arith) e.execution e.local e.says c.loop-i.invariant.1
