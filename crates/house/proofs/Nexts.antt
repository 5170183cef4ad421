-- The house's next call, and that it is not refused.
use Rattle.std.proofs.Common.{◌≡◌, ℕ, Bool, false, List, [], ◌∷◌, take, Some, None, Ok, Err, Option, Result, MatchOption, sym, refl, ap, ◌∙◌, subst}
use Rattle.std.specs.List.{AllByRecursion}
use Rattle.std.specs.Result.{IsOk}
use Rattle.field.specs.declared.refusal.Refusal.{Refusal}
use Rattle.execution.specs.declared.operation.Operation.{Operation}
use Rattle.theory.specs.Lists.{first_by}
use Rattle.theory.specs.Order.{Rows, cyclic}
use Rattle.theory.specs.Case.{open', Model, Call, propose, Answer, admitted, granted, refusal, lacks, claims, splits, greedy, tries, next_call, Replies, taken, proposed}
use Rattle.theory.proofs.Firsts.{first_some}
use Rattle.theory.proofs.Refusals.{granted_none}
use Rattle.theory.proofs.Tries.{next_claim, next_split, next_order}
use Rattle.rules.specs.declared.claim.Claim.{Claim}
use Rattle.rules.specs.Claims.{call_of, called}
use Rattle.desk.specs.declared.given.Given.{Given}
use Rattle.desk.specs.declared.desk.Desk.{Desk}
use Rattle.desk.specs.Model.{events, locally, at_first, model}
use Rattle.desk.specs.Judged.{By, answer_of}
use Rattle.house.specs.Turns.{Come, Next, Turned}
use Rattle.house.proofs.Come.{last_stands}

anything : {A : Type 0} (xs : List A) → AllByRecursion (λ (x : A). Unit {0}) xs
anything [] = tt
anything (x ∷ xs) = (tt, anything xs)

-- the next call is not refused
pub next_granted : (E : List Operation) (M : Model) (q : Call) → next_call E M ≡ Some q → refusal E M q ≡ None
next_granted E M q e = granted_none (refusal E M q) (first_some (λ q. granted (refusal E M q)) (λ _. Unit {0}) (tries E M.order) q (anything (tries E M.order)) e).0

-- so a desk admits it
pub taken_in : (o : Option Refusal) (g : Given) (N : Model) (pre : Desk) (r : Result (Unit {0}) Refusal) (post : Desk) → o ≡ None → By o g N pre r post → IsOk r
taken_in o g N pre r post h j = let k : By None g N pre r post = subst (λ x. By x g N pre r post) h j in rw k.0 refl

-- what is admitted was not refused
pub admitted_none : (L : ℕ → ℕ → Bool) (E : List Operation) {M M' : Model} {q : Call} → Replies L E M q admitted M' → refusal E M q ≡ None
admitted_none L E (taken c h) = h
admitted_none L E (proposed h s) = h

-- the test of cycles, as far as there are operations
pub no_cycle : {n m : ℕ} (R : Rows) {b : Bool} → n ≡ m → b ≡ cyclic (take n R) → b ≡ false → cyclic (take m R) ≡ false
no_cycle R e p q = subst (λ k. cyclic (take k R) ≡ false) e (sym p ∙ q)

module _ (g : Given) (d : Desk) (o : (model g d).state ≡ open') where
  -- where there is no cycle, the first claim that a rule asks for is next; where no rule asks for more, a split, if one is left
  pub next_by : {P : Type 0} (q r : Option Claim) → cyclic (model g d).order ≡ false → called q ≡ first_by (lacks (events g) (model g d).order) (claims (events g))
      → (P → called r ≡ first_by (lacks (events g) (model g d).order) (splits (events g))) → MatchOption q P (λ c. r ≡ Some c) → Next g d r
  next_by (Some c) r a n s e = rw e (next_claim (events g) (model g d) o a (call_of c) (sym n))
  next_by None (Some c) a n s e = next_split (events g) (model g d) o a (sym n) (call_of c) (sym (s e))
  next_by None None a n s e = (a, sym n, sym (s e))

  -- where none is left, the order that always places the lowest is next
  module _ (none : Next g d None) (σ : List ℕ) (p : σ ≡ greedy (events g) (model g d).order) (post : Desk) where
    same_reply : {r : Answer} → Replies (locally g) (events g) (model g d) (propose σ) r (model g post) → Replies (locally g) (events g) (model g d) (propose (greedy (events g) (model g d).order)) r (model g post)
    same_reply {r} = subst (λ s. Replies (locally g) (events g) (model g d) (propose s) r (model g post)) p

    pub order_next : {r : Result (Unit {0}) Refusal} → Replies (locally g) (events g) (model g d) (propose σ) (answer_of r) (model g post) → r ≡ Ok tt → Turned g d post
    order_next h e =
        let t : Replies (locally g) (events g) (model g d) (propose (greedy (events g) (model g d).order)) admitted (model g post) = rw (ap answer_of e) at (same_reply h) in
        (propose (greedy (events g) (model g d).order), (next_order (events g) (model g d) o none.0 none.1 none.2 (admitted_none (locally g) (events g) t), t))

    -- and it is not refused
    pub order_stands : Come g d → (r : Result (Unit {0}) Refusal) → Replies (locally g) (events g) (model g d) (propose σ) (answer_of r) (model g post) → IsOk r
    order_stands come (Ok u) h = refl
    order_stands come (Err e) h = absurd (last_stands (locally g) (events g) (at_first g) (model g d) come o none.0 none.1 none.2 (same_reply h))
