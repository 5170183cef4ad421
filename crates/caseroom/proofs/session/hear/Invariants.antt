use Rattle.std.proofs.Common.{◌≡◌, map, length, take, drop}
use Rattle.caseroom.specs.Heard.{heard, said}
use Rattle.caseroom.proofs.Sessions.{Ran}
use Rattle.caseroom.proofs.session.hear.Given as goal

abbrev pub invariant-loop-i : goal.invariant-loop-i
invariant-loop-i g l =
    let first = l.initial.case.given in
    (l.case.given ≡ first) × Ran first (map heard (take l.i l.calls)) (map said (take l.i l.answers)) l.case.desk
    × (drop (length l.calls) l.answers ≡ drop (length l.calls) l.initial.answers)
