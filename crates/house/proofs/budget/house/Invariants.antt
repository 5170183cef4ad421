use Rattle.theory.specs.Case.{Turns}
use Rattle.desk.specs.Model.{events, locally, model}
use Rattle.house.specs.Turns.{Come}
use Rattle.house.proofs.budget.house.Given as goal

-- each turn so far was taken, and the case goes on from there
abbrev pub invariant-loop-made : goal.invariant-loop-made
invariant-loop-made l = record {
  taken : Turns (locally l.given) (events l.given) (model l.given l.initial.desk) l.made l.made (model l.given l.desk);
  come : Come l.given l.desk;
}
