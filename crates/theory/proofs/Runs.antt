-- Runs and house turns that grow at their end.
use Rattle.std.proofs.Common.{◌≡◌, ℕ, zero, suc, ◌+◌, ◌≤◌, Bool, true, ◌&&◌, T, List, [], ◌∷◌, ◌++◌, take, Some, None, sym, refl, subst, add-one, arith}
use Rattle.field.specs.declared.refusal.Refusal.{Refusal}
use Rattle.field.specs.declared.refusal.Refusal.TheVariants.{CaseEnded}
use Rattle.execution.specs.declared.operation.Operation.{Operation}
use Rattle.execution.specs.Formed.{WellFormed}
use Rattle.theory.specs.Order.{Rows, Says}
use Rattle.theory.specs.Serial.{LawfulOrder, Opening}
use Rattle.theory.specs.Case.{State, open', Model, opened, Call, house, Answer, refused, made, ended, refusal, Replies, turned_away, no_order, Turn, Turns, spent, finished, turn, Hears, housed, Run, done, more}
use Rattle.theory.specs.Promises.{Reached}
use Rattle.theory.proofs.Tests.{both, cond_yes}
use Rattle.theory.proofs.Refusals.{allowed}

module _ (L : ℕ → ℕ → Bool) (E : List Operation) where
  -- a run goes on by one call
  pub run_push : {M M' M'' : Model} {qs : List Call} {rs : List Answer} {q : Call} {r : Answer}
      → Run L E M qs rs M' → Hears L E M' q r M'' → Run L E M (qs ++ (q ∷ [])) (rs ++ (r ∷ [])) M''
  run_push done h = more h done
  run_push (more g rest) h = more g (run_push rest h)

  -- the first k calls of a run are a run
  pub run_first : {M M' : Model} {qs : List Call} {rs : List Answer} → Run L E M qs rs M' → (k : ℕ) → (N : Model) × Run L E M (take k qs) (take k rs) N
  run_first (done {M = M}) zero = (M, done)
  run_first (done {M = M}) (suc k) = (M, done)
  run_first (more {M = M} h rest) zero = (M, done)
  run_first (more h rest) (suc k) = let p = run_first rest k in (p.0, more h p.1)

  -- a refused call leaves the case as it was
  pub unmoved : {M M' : Model} {q : Call} {e : Refusal} → Replies L E M q (refused e) M' → M' ≡ M
  unmoved (turned_away h) = refl
  unmoved (no_order h n) = refl

  -- the house may turn an open case, and no other
  pub house_may : (M : Model) (k : ℕ) → M.state ≡ open' → refusal E M (house k) ≡ None
  house_may M k o = allowed E M o (house k) tt (λ t. t) tt (λ t. t) (λ t. t)

  pub house_ended : (M : Model) (k : ℕ) → T (ended M.state) → refusal E M (house k) ≡ Some CaseEnded
  house_ended M k h = cond_yes (ended M.state && true) _ _ (both (ended M.state) true h tt)

  open_ended : {s : State} → s ≡ open' → T (ended s) → ⊥
  open_ended e h = subst (λ s. T (ended s)) e h

  -- one turn more
  pub turns_push : {M M' M'' : Model} {q : Call} {k : ℕ} → Turns L E M k k M' → M'.state ≡ open' → Turn L E M' q M'' → Turns L E M (k + 1) (k + 1) M''
  turns_push {M = M} {M'' = M''} {k = k} ts o t = subst (λ j. Turns L E M j j M'') (sym (add-one k)) (push ts o t)
    where
      push : {M M' M'' : Model} {q : Call} {k : ℕ} → Turns L E M k k M' → M'.state ≡ open' → Turn L E M' q M'' → Turns L E M (suc k) (suc k) M''
      push spent o t = turn o t spent
      push (finished e) o t = absurd (open_ended o e)
      push (turn p n ts) o t = turn p n (push ts o t)

  -- an ended case needs no more of the budget
  pub turns_left : {M M' : Model} {k : ℕ} (j : ℕ) → Turns L E M k k M' → T (ended M'.state) → k ≤ j → Turns L E M j k M'
  turns_left j spent e h = finished e
  turns_left j (finished d) e h = finished e
  turns_left zero (turn p n ts) e h = absurd (omega arith)
  turns_left (suc j) (turn p n ts) e h = turn p n (turns_left j ts e (omega arith))

  -- a turn is a house call with a budget of one
  pub turn_heard : {M M' : Model} {q : Call} → M.state ≡ open' → Turn L E M q M' → Hears L E M (house 1) (made 1 M'.state) M'
  turn_heard {M = M} o t = housed (house_may M 1 o) (turn o t spent)

  -- reached: a new case, and what a reached case comes to by one more call
  pub reached_first : (O : Rows) → LawfulOrder L E → WellFormed E → Says E O (Opening L E) → Reached L E O (opened O)
  reached_first O l w s = record { lawful = l; formed = w; says = s; calls = []; answers = []; run = done }

  pub reached_next : {O : Rows} {M M' : Model} {q : Call} {r : Answer} → Reached L E O M → Hears L E M q r M' → Reached L E O M'
  reached_next {q = q} {r = r} x h = record { lawful = x.lawful; formed = x.formed; says = x.says; calls = x.calls ++ (q ∷ []); answers = x.answers ++ (r ∷ []); run = run_push x.run h }
