-- Calls on a case, played out: each answer comes with the proof that it is the answer.
use Rattle.std.proofs.Common.{◌≡◌, ℕ, zero, suc, Bool, true, false, T, List, [], ◌∷◌, Some, None, Option, sym, refl, subst}
use Rattle.field.specs.declared.refusal.Refusal.{Refusal}
use Rattle.field.specs.declared.refusal.Refusal.TheVariants.{NotSerialization}
use Rattle.execution.specs.declared.operation.Operation.{Operation}
use Rattle.theory.specs.Serial.{LawfulOrder, serial?}
use Rattle.theory.specs.Case.{State, open', serial, impossible, Model, Call, claim_a, claim_b, claim_c, split, close, propose, house, what_if, least, Answer, admitted, refused, made, supposed, says, ended, refusal, next_call, Replies, turned_away, taken, proposed, no_order, Turn, Turns, spent, finished, turn, Hears, single, housed, Run, done, more}
use Rattle.theory.proofs.Operations.{local_here}
use Rattle.theory.proofs.Serials.{is_serial, serial_is}

module _ (L : ℕ → ℕ → Bool) (E : List Operation) (lawful : LawfulOrder L E) where
  abbrev Reply : Model → Call → Type 0
  Reply M q = (r : Answer) × (M' : Model) × Replies L E M q r M'

  abbrev Found : Model → Type 0
  Found M = (q : Call) × (M' : Model) × Turn L E M q M'

  abbrev Spent : Model → ℕ → Type 0
  Spent M k = (t : ℕ) × (M' : Model) × Turns L E M k t M'

  abbrev Heard : Model → Call → Type 0
  Heard M q = (r : Answer) × (M' : Model) × Hears L E M q r M'

  abbrev pub Ran : Model → List Call → Type 0
  Ran M qs = (rs : List Answer) × (M' : Model) × Run L E M qs rs M'

  abbrev judged : (M : Model) (σ : List ℕ) → refusal E M (propose σ) ≡ None → (b : Bool) → serial? L E σ ≡ b → Reply M (propose σ)
  judged M σ e true t = (admitted, _, proposed e (is_serial L E σ (local_here L E lawful) (subst T (sym t) tt)))
  judged M σ e false t = (refused NotSerialization, M, no_order e (λ v. subst T t (serial_is L E σ v)))

  -- of the calls that a house makes
  abbrev allowed : (M : Model) (q : Call) → refusal E M q ≡ None → Option (Reply M q)
  allowed M (claim_a l s) e = Some (admitted, _, taken tt e)
  allowed M (claim_b l s) e = Some (admitted, _, taken tt e)
  allowed M (claim_c l k a b) e = Some (admitted, _, taken tt e)
  allowed M (split s t) e = Some (admitted, _, taken tt e)
  allowed M close e = Some (admitted, _, taken tt e)
  allowed M (propose σ) e = Some (judged M σ e (serial? L E σ) refl)
  allowed M (house k) e = None
  allowed M (what_if a b) e = None
  allowed M (least a b) e = None

  abbrev replied : (M : Model) (q : Call) (o : Option Refusal) → refusal E M q ≡ o → Option (Reply M q)
  replied M q (Some k) e = Some (refused k, M, turned_away e)
  replied M q None e = allowed M q e

  abbrev sent : (M : Model) (q : Call) → next_call E M ≡ Some q → Option (Reply M q) → Option (Found M)
  sent M q n None = None
  sent M q n (Some (admitted, M', r)) = Some (q, M', (n, r))
  sent M q n (Some (refused k, M', r)) = None
  sent M q n (Some (made t s, M', r)) = None
  sent M q n (Some (supposed p c, M', r)) = None
  sent M q n (Some (says b, M', r)) = None

  abbrev next : (M : Model) (o : Option Call) → next_call E M ≡ o → Option (Found M)
  next M None n = None
  next M (Some q) n = sent M q n (replied M q (refusal E M q) refl)

  abbrev one_more : (M : Model) (k : ℕ) → M.state ≡ open' → (f : Found M) → Option (Spent f.1 k) → Option (Spent M (suc k))
  one_more M k e f None = None
  one_more M k e f (Some s) = Some (suc s.0, s.1, turn e f.2 s.2)

  abbrev go_on : (M : Model) (k : ℕ) → M.state ≡ open' → ((M' : Model) → Option (Spent M' k)) → Option (Found M) → Option (Spent M (suc k))
  go_on M k e rest None = None
  go_on M k e rest (Some f) = one_more M k e f (rest f.1)

  abbrev by_state : (M : Model) (k : ℕ) → ((M' : Model) → Option (Spent M' k)) → (s : State) → M.state ≡ s → Option (Spent M (suc k))
  by_state M k rest open' e = go_on M k e rest (next M (next_call E M) refl)
  by_state M k rest serial e = Some (0, M, finished (subst (λ s. T (ended s)) (sym e) tt))
  by_state M k rest impossible e = Some (0, M, finished (subst (λ s. T (ended s)) (sym e) tt))

  abbrev turns : (k : ℕ) (M : Model) → Option (Spent M k)
  turns zero M = Some (0, M, spent)
  turns (suc k) M = by_state M k (turns k) M.state refl

  abbrev alone : (M : Model) (q : Call) → Option (Reply M q) → Option (Heard M q)
  alone M q None = None
  alone M q (Some r) = Some (r.0, r.1, single r.2)

  abbrev at_home : (M : Model) (k : ℕ) → refusal E M (house k) ≡ None → Option (Spent M k) → Option (Heard M (house k))
  at_home M k e None = None
  at_home M k e (Some s) = Some (made s.0 s.1.state, s.1, housed e s.2)

  abbrev heard : (M : Model) (q : Call) (o : Option Refusal) → refusal E M q ≡ o → Option (Heard M q)
  heard M q (Some k) e = Some (refused k, M, single (turned_away e))
  heard M (house k) None e = at_home M k e (turns k M)
  heard M (claim_a l s) None e = alone M (claim_a l s) (allowed M (claim_a l s) e)
  heard M (claim_b l s) None e = alone M (claim_b l s) (allowed M (claim_b l s) e)
  heard M (claim_c l k a b) None e = alone M (claim_c l k a b) (allowed M (claim_c l k a b) e)
  heard M (split s t) None e = alone M (split s t) (allowed M (split s t) e)
  heard M close None e = alone M close (allowed M close e)
  heard M (propose σ) None e = alone M (propose σ) (allowed M (propose σ) e)
  heard M (what_if a b) None e = None
  heard M (least a b) None e = None

  abbrev and_on : (M : Model) (q : Call) (qs : List Call) (h : Heard M q) → Option (Ran h.1 qs) → Option (Ran M (q ∷ qs))
  and_on M q qs h None = None
  and_on M q qs h (Some r) = Some (h.0 ∷ r.0, r.1, more h.2 r.2)

  abbrev go_through : (M : Model) (q : Call) (qs : List Call) → ((M' : Model) → Option (Ran M' qs)) → Option (Heard M q) → Option (Ran M (q ∷ qs))
  go_through M q qs rest None = None
  go_through M q qs rest (Some h) = and_on M q qs h (rest h.1)

  abbrev pub played : (qs : List Call) (M : Model) → Option (Ran M qs)
  played [] M = Some ([], M, done)
  played (q ∷ qs) M = go_through M q qs (played qs) (heard M q (refusal E M q) refl)
