-- Every call on a reachable case has an answer.
use Rattle.std.proofs.Common.{◌≡◌, ℕ, zero, suc, Bool, T, List, [], ◌∷◌, Some, None, Option, sym, refl, subst, inl, inr}
use Rattle.field.specs.declared.refusal.Refusal.{Refusal}
use Rattle.execution.specs.declared.operation.Operation.{Operation}
use Rattle.theory.specs.Order.{Rows, before, Says}
use Rattle.theory.specs.Serial.{LawfulOrder, Opening, serial?}
use Rattle.theory.specs.Case.{State, open', serial, impossible, Model, Call, claim_a, claim_b, split, claim_c, close, propose, house, what_if, least, Answer, ended, refusal, turned_away, taken, proposed, no_order, asked, imagined, Turns, spent, finished, turn, Hears, single, housed, Run, done, more, opened}
use Rattle.execution.specs.Formed.{WellFormed}
use Rattle.theory.proofs.Tests.{decided}
use Rattle.theory.proofs.Refusals.{not_refused}
use Rattle.theory.proofs.Operations.{local_here}
use Rattle.theory.proofs.Reached.{Fit, replies_fit, hears_fit, opened_fit}
use Rattle.theory.proofs.Serials.{is_serial, serial_is}
use Rattle.theory.proofs.House.{turn_of}
use Rattle.theory.proofs.Supposing.{supposed_says, least_says}

module _ (L : ℕ → ℕ → Bool) (E : List Operation) (lawful : LawfulOrder L E) (W : WellFormed E) (O : Rows) (says : Says E O (Opening L E)) where
  -- the house uses up every budget
  turns_exist : (k : ℕ) (M : Model) → Fit E O M → (t : ℕ) × (M' : Model) × Turns L E M k t M'
  turns_exist zero M f = (0, M, spent)
  turns_exist (suc k) M f = by_state M.state refl (λ M' g. turns_exist k M' g)
    where
      by_state : (s : State) → M.state ≡ s → ((M' : Model) → Fit E O M' → (t : ℕ) × (M'' : Model) × Turns L E M' k t M'') → (t : ℕ) × (M' : Model) × Turns L E M (suc k) t M'
      by_state open' e rest =
          let r = turn_of L E lawful W O says M f e in
          let u = rest r.1 (replies_fit E O L W r.2.1 f) in
          (suc u.0, u.1, turn e r.2 u.2)
      by_state serial e rest = (0, M, finished (subst (λ s. T (ended s)) (sym e) tt))
      by_state impossible e rest = (0, M, finished (subst (λ s. T (ended s)) (sym e) tt))

  allowed_answer : (M : Model) → Fit E O M → (q : Call) → refusal E M q ≡ None → (r : Answer) × (M' : Model) × Hears L E M q r M'
  allowed_answer M f (claim_a l s) e = (_, _, single (taken tt e))
  allowed_answer M f (claim_b l s) e = (_, _, single (taken tt e))
  allowed_answer M f (claim_c l k a b) e = (_, _, single (taken tt e))
  allowed_answer M f (split s t) e = (_, _, single (taken tt e))
  allowed_answer M f close e = (_, _, single (taken tt e))
  allowed_answer M f (propose σ) e = elim (decided (serial? L E σ)) [ inl t ↦ (_, _, single (proposed e (is_serial L E σ (local_here L E lawful) t))) | inr f ↦ (_, _, single (no_order e (λ v. f (serial_is L E σ v)))) ]
  allowed_answer M f (house k) e = let r = turns_exist k M f in (_, _, housed e r.2)
  allowed_answer M f (what_if a b) e =
      let h = (not_refused E M (what_if a b) e).numbers in
      let r = supposed_says E W M.order f.order.settled a b h.0 h.1.0 in
      (_, _, single (imagined r.0 e r.1))
  allowed_answer M f (least a b) e =
      let r = least_says E W L O (opened_fit E O L W lawful says).order.settled says in
      (_, _, single (asked (before r.0 a b) e (r.1.1 a b).0 (r.1.1 a b).1))

  answer : (M : Model) → Fit E O M → (q : Call) → (r : Answer) × (M' : Model) × Hears L E M q r M'
  answer M f q = by_refusal (refusal E M q) refl
    where
      by_refusal : (o : Option Refusal) → refusal E M q ≡ o → (r : Answer) × (M' : Model) × Hears L E M q r M'
      by_refusal (Some k) e = (_, _, single (turned_away e))
      by_refusal None e = allowed_answer M f q e

  runs_from : (qs : List Call) (M : Model) → Fit E O M → (rs : List Answer) × (M' : Model) × Run L E M qs rs M'
  runs_from [] M f = ([], M, done)
  runs_from (q ∷ qs) M f =
      let r = answer M f q in
      let s = runs_from qs r.1 (hears_fit E O L W r.2 f) in
      (r.0 ∷ s.0, s.1, more r.2 s.2)

  -- every sequence of calls on a new case has its answers
  pub runs_exist : (qs : List Call) → (rs : List Answer) × (M : Model) × Run L E (opened O) qs rs M
  runs_exist qs = runs_from qs (opened O) (opened_fit E O L W lawful says)
