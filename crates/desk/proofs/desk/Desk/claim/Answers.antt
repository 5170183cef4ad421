use Rattle.std.proofs.Common.{◌≡◌, None, arith, rules}
use Rattle.theory.specs.Case.{refusal, split}
use Rattle.desk.specs.Model.{model, events}
use Rattle.desk.proofs.Stack.{length_stacked}
use Rattle.desk.proofs.desk.Desk.claim.Goals as goal

-- for a split that is not refused there is room
pub choose-requires-clause-room : goal.choose-requires-clause-room
choose-requires-clause-room c =
    let g = c.args.given.now in
    let fresh : refusal (events g) (model g c.args.self.now) (split c.in-Open-Split.s c.in-Open-Split.t) ≡ None = search rules in
    omega (arith, c.requires.room _ _ fresh, length_stacked)
