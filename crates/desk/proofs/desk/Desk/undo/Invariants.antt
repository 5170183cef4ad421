use Rattle.std.proofs.Common.{◌≡◌, length}
use Rattle.room.specs.Held.{held}
use Rattle.theory.specs.Case.{undone}
use Rattle.desk.specs.declared.state.State.TheVariants.{Open}
use Rattle.desk.specs.Model.{events, model}
use Rattle.desk.specs.Judged.{Named}
use Rattle.desk.proofs.desk.Desk.undo.Given as goal

-- what is left to undo comes to the same as all did
abbrev pub invariant-loop-choice : goal.invariant-loop-choice
invariant-loop-choice l = record {
  still_open : l.self.state ≡ Open;
  within : Named (length (events l.given)) (model l.given l.self).choices;
  same : undone (model l.given l.self).order (model l.given l.self).choices ≡ undone (model l.given l.initial.self).order (model l.given l.initial.self).choices;
}

abbrev pub decreases-loop-choice : goal.decreases-loop-choice
decreases-loop-choice l = length (held l.self.choices)
