-- The order of a serial case, as it stands in the memory that was lent for it.
use Rattle.std.proofs.Common.{◌≡◌, ◌≤◌, ℕ, List, ◌++◌, length, take, drop, Ok, sym, ap, ◌∙◌, subst, arith, rules, take_at, drop_at}
use Rattle.std.proofs.lemmas.List.{length-take-le}
use Rattle.theory.specs.Case.{order_out}
use Rattle.rules.proofs.Executions.{few}
use Rattle.desk.specs.declared.state.State.TheVariants.{Serial}
use Rattle.desk.specs.declared.given.Given.{Given}
use Rattle.desk.specs.declared.desk.Desk.{Desk}
use Rattle.desk.specs.Model.{events, model}
use Rattle.caseroom.specs.Written.{WrittenOut}

pub serial_written : (g : Given) (d : Desk) (n : ℕ) (pre put : List ℕ) → n ≡ length (events g) → n ≤ length pre → d.state ≡ Serial → put ≡ take n d.admitted
    → WrittenOut (length (events g)) (order_out (events g) (model g d) (length pre)) pre (Ok n) (put ++ drop n pre)
serial_written g d n pre put all room serial same =
    let most = few g.execution in
    let space = d.space in
    let long : length put ≡ n = ap length same ∙ length-take-le n d.admitted (omega arith) in
    let σ = take (length (events g)) d.admitted in
    let told : order_out (events g) (model g d) (length pre) ≡ Ok σ = search rules in
    subst (λ o. WrittenOut (length (events g)) o pre (Ok n) (put ++ drop n pre)) (sym told) (
      ap Ok all,
      ap (λ k. take k (put ++ drop n pre)) (sym all) ∙ take_at put (drop n pre) n long ∙ same ∙ ap (λ k. take k d.admitted) all,
      ap (λ k. drop k (put ++ drop n pre)) (sym all) ∙ drop_at put (drop n pre) n long ∙ ap (λ k. drop k pre) all,
    )
