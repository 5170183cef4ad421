-- What each single call brings with it, every run brings with it.
use Rattle.std.proofs.Common.{ℕ, ◌+◌, Bool, List, subst, one-add}
use Rattle.execution.specs.declared.operation.Operation.{Operation}
use Rattle.theory.specs.Case.{Model, Call, Answer, Replies, Turns, spent, finished, turn, Hears, single, housed, Run, done, more}
use Rattle.theory.specs.Promises.{admissions, all_admissions}

-- G M k M': from M to M' by k admissions
module _ (L : ℕ → ℕ → Bool) (E : List Operation) (G : Model → ℕ → Model → Type 0)
    (stay : (M : Model) → G M 0 M)
    (chain : (M M' M'' : Model) (j k : ℕ) → G M j M' → G M' k M'' → G M (j + k) M'')
    (step : (M M' : Model) (q : Call) (r : Answer) → Replies L E M q r M' → G M (admissions r) M') where
  turns_walk : {M M' : Model} {k t : ℕ} → Turns L E M k t M' → G M t M'
  turns_walk (spent {M = M}) = stay M
  turns_walk (finished {M = M} e) = stay M
  turns_walk (turn {M = M} {M' = M'} {M'' = M''} {t = t} e n ts) = subst (λ j. G M j M'') (one-add t) (chain M M' M'' 1 t (step _ _ _ _ n.1) (turns_walk ts))

  hears_walk : {M M' : Model} {q : Call} {r : Answer} → Hears L E M q r M' → G M (admissions r) M'
  hears_walk (single r) = step _ _ _ _ r
  hears_walk (housed e ts) = turns_walk ts

  pub run_walk : {M M' : Model} {qs : List Call} {rs : List Answer} → Run L E M qs rs M' → G M (all_admissions rs) M'
  run_walk (done {M = M}) = stay M
  run_walk (more {M = M} {M' = M'} {M'' = M''} {r = r} {rs = rs} h rest) = chain M M' M'' (admissions r) (all_admissions rs) (hears_walk h) (run_walk rest)

-- a property of cases that every call keeps
module _ (L : ℕ → ℕ → Bool) (E : List Operation) (P : Model → Type 0)
    (step : (M M' : Model) (q : Call) (r : Answer) → Replies L E M q r M' → P M → P M') where
  pub hears_kept : {M M' : Model} {q : Call} {r : Answer} → Hears L E M q r M' → P M → P M'
  hears_kept = hears_walk L E (λ M _ M'. P M → P M') (λ M p. p) (λ M M' M'' j k f g p. g (f p)) step

  pub run_kept : {M M' : Model} {qs : List Call} {rs : List Answer} → Run L E M qs rs M' → P M → P M'
  run_kept = run_walk L E (λ M _ M'. P M → P M') (λ M p. p) (λ M M' M'' j k f g p. g (f p)) step
