-- A desk is as it was when its order is, and a case when its desk is: there is one proof at most of what they keep.
use Rattle.std.proofs.Common.{◌≡◌, length}
use mathlib.Core.HLevel.{is_prop→PathP}
use mathlib.Core.Logic.{∥∥₁_prop}
use native.Mathlib.Nat.{ℕ_set}
use Rattle.desk.specs.declared.desk.Desk.{Desk}
use Rattle.caseroom.specs.declared.case.Case.{Case}
use Rattle.house.specs.Turns.{Come}

pub same_desk : (d e : Desk) → e.order ≡ d.order → e.choices ≡ d.choices → e.state ≡ d.state → e.admitted ≡ d.admitted → e ≡ d
same_desk d e order choices state admitted = λ i. record {
  order = order i;
  choices = choices i;
  state = state i;
  admitted = admitted i;
  space = is_prop→PathP (λ j. length (admitted j) ≡ 32) (λ j. ℕ_set _ _) e.space d.space i;
}

pub same_case : (s t : Case) → t.given ≡ s.given → t.desk ≡ s.desk → t ≡ s
same_case s t given desk = λ i. record {
  given = given i;
  desk = desk i;
  reached = is_prop→PathP (λ j. Come (given j) (desk j)) (λ j. ∥∥₁_prop) t.reached s.reached i;
}
