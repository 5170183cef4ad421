-- What is known of a case, though not by which calls it came to be.
use Rattle.std.proofs.Common.{◌≡◌, ℕ, Bool, List, length, Some, None, Err, Option, Result, sym, ap, subst, arith}
use mathlib.Core.HLevel.{⊥_prop}
use mathlib.Core.List.{is_set}
use mathlib.Core.Logic.{∥∥₁_elim}
use native.Mathlib.Nat.{ℕ_set}
use lib.Dec.{T_prop}
use Rattle.field.specs.declared.refusal.Refusal.{Refusal}
use Rattle.execution.specs.declared.execution.Execution.{Execution}
use Rattle.execution.specs.declared.operation.Operation.{Operation}
use Rattle.execution.specs.Calls.{ops}
use Rattle.rulebook.specs.declared.seen.Seen.{Seen}
use Rattle.theory.specs.Order.{Rows, Settled, Says}
use Rattle.theory.specs.Serial.{local, Opening, Serialization}
use Rattle.theory.specs.Case.{Model, opened}
use Rattle.theory.specs.Promises.{Reached}
use Rattle.theory.proofs.Runs.{reached_first}
use Rattle.theory.proofs.Reached.{opened_fit}
use Rattle.theory.proofs.Kept.{openings, promises_of_orders, serial_test}
use Rattle.rules.proofs.Executions.{formed}
use Rattle.desk.specs.declared.state.State.TheVariants.{Serial, Impossible}
use Rattle.desk.specs.declared.given.Given.{Given}
use Rattle.desk.specs.declared.desk.Desk.{Desk}
use Rattle.desk.specs.Model.{events, locally, at_first, state_of, model}
use Rattle.desk.specs.Judged.{By}
use Rattle.desk.proofs.Lawful.{lawful}
use Rattle.house.specs.Turns.{Come}

-- a new case: the orders that it was given over x are those of a book
pub begins : (keeps : Seen → Seen → Bool) (x : Execution) (g : Given) (d : Desk)
    → events g ≡ ops x → ((a b : ℕ) → locally g a b ≡ local keeps (ops x) a b) → Says (ops x) (at_first g) (Opening (local keeps (ops x)) (ops x))
    → model g d ≡ opened (at_first g) → Come g d
begins keeps x g d e l says m =
    let over = subst (λ (L : ℕ → ℕ → Bool). Says (ops x) (at_first g) (Opening L (ops x))) (λ i a b. sym (l a b) i) says in
    let own = subst (λ (E : List Operation). Says E (at_first g) (Opening (locally g) E)) (sym e) over in
    subst (λ (M : Model). ∥ Reached (locally g) (events g) (at_first g) M ∥₁) (sym m) ∣ reached_first (locally g) (events g) (at_first g) (lawful g) (formed g.execution) own ∣₁

-- there is one opening order only, so the one that the case has is it
pub says_opening : (g : Given) (d : Desk) → Come g d → Says (events g) (at_first g) (Opening (locally g) (events g))
says_opening g d c =
    let o = openings (locally g) (events g) (lawful g) (formed g.execution) in
    subst (λ (R : Rows). Says (events g) R (Opening (locally g) (events g))) (∥∥₁_elim c (is_set ℕ_set _ _) (λ x. o.2 (at_first g) x.says)) o.1

pub settled_first : (g : Given) (d : Desk) → Come g d → Settled (length (events g)) (at_first g)
settled_first g d c = (opened_fit (events g) (at_first g) (locally g) (formed g.execution) (lawful g) (says_opening g d c)).order.settled

-- the admitted order passes the test, so it is a serialization
pub serial_true : (g : Given) (d : Desk) → Come g d → d.state ≡ Serial → Serialization (locally g) (events g) (model g d).witness
serial_true g d c e =
    let test = serial_test (locally g) (events g) (lawful g) (model g d).witness in
    test.0 (∥∥₁_elim c (T_prop _) (λ x. test.1 ((promises_of_orders (locally g) (events g) (at_first g) (model g d) x).serial_is_true (ap state_of e))))

pub impossible_true : (g : Given) (d : Desk) → Come g d → d.state ≡ Impossible → (σ : List ℕ) → Serialization (locally g) (events g) σ → ⊥
impossible_true g d c e σ s = ∥∥₁_elim c ⊥_prop (λ x. (promises_of_orders (locally g) (events g) (at_first g) (model g d) x).impossible_is_true (ap state_of e) σ s)

-- a refused claim leaves the desk as it was
pub unmoved_by : (o : Option Refusal) (g : Given) (N : Model) (pre : Desk) (r : Result (Unit {0}) Refusal) (post : Desk) → By o g N pre r post → (e : Refusal) → r ≡ Err e → post ≡ pre
unmoved_by (Some k) g N pre r post j e h = j.1
unmoved_by None g N pre r post j e h = let ok = j.0 in let z : ◌≡◌ {A = ℕ} 0 1 = cc in absurd (omega arith)
