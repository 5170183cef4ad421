-- What a call that is not refused has passed, and how to pass.
use Rattle.std.proofs.Common.{◌≡◌, ℕ, ◌<◌, Bool, true, false, cond, not, ◌&&◌, T, leb, List, map, length, Some, None, Option, refl, ◌∙◌, subst, arith, leb→le, T_not}
use lib.Dec.{not_T, nleb→lt}
use Rattle.std.specs.List.{AllByRecursion}
use Rattle.field.specs.declared.refusal.Refusal.{Refusal}
use Rattle.field.specs.declared.refusal.Refusal.TheVariants.{NoSuchOperation, IncompleteOrder, CaseEnded, PremiseFails, PairRecorded, NoCycle}
use Rattle.std.proofs.ByRecursion.{All-weaker}
use Rattle.execution.specs.declared.operation.Operation.{Operation}
use Rattle.theory.specs.Lists.{any}
use Rattle.theory.specs.Case.{State, open', serial, impossible, Model, Call, named, ended, needs_open, premise, stands, misshapen, acyclic_close, granted, refusal}
use Rattle.theory.proofs.Tests.{and_parts, not_not, cond_no, some_none}
use Rattle.theory.proofs.Ranges.{any_none, none_any}

passed : (c : Bool) (k : Refusal) (rest : Option Refusal) → cond c (Some k) rest ≡ None → T (not c) × (rest ≡ None)
passed true k rest e = absurd (some_none e refl)
passed false k rest e = (tt, e)

pub granted_none : (o : Option Refusal) → T (granted o) → o ≡ None
granted_none None t = refl
granted_none (Some e) t = absurd t

pub none_granted : (o : Option Refusal) → o ≡ None → T (granted o)
none_granted None e = tt
none_granted (Some k) e = absurd (some_none e refl)

still_open : (s : State) (b : Bool) → T b → T (not (ended s && b)) → s ≡ open'
still_open open' b h k = refl
still_open serial true h k = absurd k
still_open serial false h k = absurd h
still_open impossible true h k = absurd k
still_open impossible false h k = absurd h

pub record Passed (E : List Operation) (M : Model) (q : Call) : Type 0 where
  pub numbers : AllByRecursion (λ a. a < length E) (named q)
  pub is_open : T (needs_open q) → M.state ≡ open'
  pub premised : T (premise E M.order q)
  pub fresh : T (not (stands E M.order q))
  pub cyclic_close : T (not (acyclic_close M.order q))

pub not_refused : (E : List Operation) (M : Model) (q : Call) → refusal E M q ≡ None → Passed E M q
not_refused E M q e =
    let past : ℕ → Bool = λ a. leb (length E) a in
    let here = passed (any (map past (named q))) NoSuchOperation _ e in
    let whole = passed (misshapen E q) IncompleteOrder _ here.1 in
    let going = passed (ended M.state && needs_open q) CaseEnded _ whole.1 in
    let meant = passed (not (premise E M.order q)) PremiseFails _ going.1 in
    let new = passed (stands E M.order q) PairRecorded _ meant.1 in
    let round = passed (acyclic_close M.order q) NoCycle None new.1 in
    record {
      numbers = All-weaker (λ a. T (past a) → ⊥) (λ a. a < length E) (λ a f. nleb→lt (length E) a (not_T (past a) f)) (named q) (none_any past (named q) (T_not (any (map past (named q))) here.0));
      is_open = λ h. still_open M.state (needs_open q) h going.0;
      premised = not_not (premise E M.order q) meant.0;
      fresh = new.0;
      cyclic_close = round.0;
    }

pub allowed : (E : List Operation) (M : Model) → M.state ≡ open'
    → (q : Call) → AllByRecursion (λ a. a < length E) (named q) → (T (misshapen E q) → ⊥) → T (premise E M.order q) → (T (stands E M.order q) → ⊥) → (T (acyclic_close M.order q) → ⊥)
    → refusal E M q ≡ None
allowed E M opn q h m p s c =
    cond_no _ _ _ (any_none (λ a. leb (length E) a) (named q) (All-weaker (λ a. a < length E) (λ a. T (leb (length E) a) → ⊥) (λ a l t. let k = leb→le (length E) a t in omega arith) (named q) h))
    ∙ cond_no (misshapen E q) _ _ m
    ∙ cond_no (ended M.state && needs_open q) _ _ (λ t. subst (λ z. T (ended z)) opn (and_parts (ended M.state) (needs_open q) t).0)
    ∙ cond_no (not (premise E M.order q)) _ _ (λ t. T_not (premise E M.order q) t p)
    ∙ cond_no (stands E M.order q) _ _ s
    ∙ cond_no (acyclic_close M.order q) _ _ c
