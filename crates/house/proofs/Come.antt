-- What a desk can count on that holds what a case has come to, and how it goes on.
use Rattle.std.proofs.Common.{◌≡◌, ℕ, Bool, false, List, None, length}
use mathlib.Core.HLevel.{⊥_prop}
use mathlib.Core.Logic.{∥∥₁_elim, ∥∥₁_prop}
use Rattle.field.specs.declared.refusal.Refusal.{Refusal}
use Rattle.execution.specs.declared.operation.Operation.{Operation}
use Rattle.theory.specs.Lists.{first_by}
use Rattle.theory.specs.Order.{Rows, Settled, cyclic, before}
use Rattle.theory.specs.Case.{open', Model, Call, propose, Answer, refused, lacks, claims, splits, greedy, Replies, Turn, Hears}
use Rattle.theory.specs.Promises.{Reached}
use Rattle.theory.proofs.Kept.{not_stuck, orders_stay_sound}
use Rattle.theory.proofs.Runs.{turn_heard, reached_next}
use native.Mathlib.Nat.{ℕ_set}
use native.Mathlib.Bridge.{le_prop}
use lib.Dec.{T_prop}

module _ (L : ℕ → ℕ → Bool) (E : List Operation) (O : Rows) {M : Model} where
  -- a case goes on by a call
  pub goes_on : {M' : Model} {q : Call} {r : Answer} → Hears L E M q r M' → ∥ Reached L E O M ∥₁ → ∥ Reached L E O M' ∥₁
  goes_on h r = ∥∥₁_elim r ∥∥₁_prop (λ x. ∣ reached_next L E x h ∣₁)

  -- and by a turn of the house
  pub turns_on : {M' : Model} {q : Call} → M.state ≡ open' → Turn L E M q M' → ∥ Reached L E O M ∥₁ → ∥ Reached L E O M' ∥₁
  turns_on o t = goes_on (turn_heard L E o t)

module _ (L : ℕ → ℕ → Bool) (E : List Operation) (O : Rows) (M : Model) (r : ∥ Reached L E O M ∥₁) where
  -- its order is settled
  pub settled : Settled (length E) M.order
  settled = record {
    rows = ∥∥₁_elim r (ℕ_set _ _) (λ x. (orders_stay_sound L E O M x).settled.rows);
    within = λ a b t. ∥∥₁_elim r le_prop (λ x. (orders_stay_sound L E O M x).settled.within a b t);
    joins = λ a b c s t. ∥∥₁_elim r (T_prop (before M.order a c)) (λ x. (orders_stay_sound L E O M x).settled.joins a b c s t);
  }

  -- where no claim is left, the order that the house proposes is not refused
  pub last_stands : M.state ≡ open' → cyclic M.order ≡ false → first_by (lacks E M.order) (claims E) ≡ None → first_by (lacks E M.order) (splits E) ≡ None
      → {e : Refusal} {M' : Model} → Replies L E M (propose (greedy E M.order)) (refused e) M' → ⊥
  last_stands o a c s p = ∥∥₁_elim r ⊥_prop (λ x. not_stuck L E O M x o a c s p)
