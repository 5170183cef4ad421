use Rattle.std.proofs.Common.{◌≡◌, false, sym, refl, ◌∙◌, rules}
use Rattle.std.proofs.lemmas.Bool.{false≢true}
use Rattle.theory.specs.Case.{turned_away, proposed, no_order}
use Rattle.desk.specs.Model.{model}
use Rattle.house.specs.Orders.{is_serial}
use Rattle.house.proofs.Weighing.{tested}
use Rattle.house.proofs.orders.propose.Goals as goal

pub returns-then-names_unknown-clause-replies : goal.returns-then-names_unknown-clause-replies
returns-then-names_unknown-clause-replies c = turned_away (search rules)

pub returns-then-is_misshapen-clause-replies : goal.returns-then-is_misshapen-clause-replies
returns-then-is_misshapen-clause-replies c = turned_away (search rules)

pub returns-in-Serial : goal.returns-in-Serial
returns-in-Serial c = record { replies = turned_away (search rules); kept = λ e h. refl }

pub returns-in-Open-clause-replies : goal.returns-in-Open-clause-replies
returns-in-Open-clause-replies c =
    let g = c.args.given.now in
    let σ = c.args.order.now in
    let no : is_serial g σ ≡ false = search rules in
    no_order (search rules) (λ s. false≢true (sym no ∙ (tested g σ).1 s))

pub returns-in-Open-2-clause-replies : goal.returns-in-Open-2-clause-replies
returns-in-Open-2-clause-replies c =
    let g = c.args.given.now in
    let σ = c.args.order.now in
    rw c.admit.ensures (proposed {M = model g c.args.desk.now} {σ = σ} (search rules) ((tested g σ).0 (search rules)))
