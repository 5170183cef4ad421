-- What every reachable case keeps: its orders are settled and contain the opening order, and its choices are between operations.
use Rattle.std.proofs.Common.{◌≡◌, ℕ, ◌<◌, Bool, not, T, eqb, List, [], ◌∷◌, length, None}
use Rattle.std.specs.List.{AllByRecursion}
use Rattle.execution.specs.declared.operation.Operation.{Operation}
use Rattle.execution.specs.Operations.{source, touches}
use Rattle.execution.specs.Formed.{WellFormed}
use Rattle.theory.specs.Order.{Rows, before, recorded, Settled, Says}
use Rattle.theory.specs.Serial.{LawfulOrder, given, joined, Opening}
use Rattle.theory.specs.Case.{Side, first, second, Choice, Model, opened, Call, claim_a, claim_b, claim_c, split, close, propose, house, what_if, least, Answer, is_claim, undone, refusal, after, Replies, turned_away, taken, proposed, no_order, asked, imagined, Hears, Run}
use Rattle.theory.proofs.Tests.{three}
use Rattle.theory.proofs.Recording.{recorded_keeps}
use Rattle.theory.proofs.Operations.{source_here, touch_parts, local_here}
use Rattle.theory.proofs.Counting.{settled_recorded}
use Rattle.theory.proofs.Refusals.{not_refused}
use Rattle.theory.proofs.Closures.{direct_here}
use Rattle.theory.proofs.Walks.{hears_kept, run_kept}

side_either : (P : Model → Type 0) (d : Side) (x y : Model) → P x → P y → P (elim d [ first ↦ x | second ↦ y ])
side_either P first x y p q = p
side_either P second x y p q = q

module _ (E : List Operation) (O : Rows) where
  pub record Ordered (R : Rows) : Type 0 where
    pub settled : Settled (length E) R
    pub grown : (x y : ℕ) → T (before O x y) → T (before R x y)

  -- the order when a choice was made is such an order, and the choice is between operations
  pub record Standing (c : Choice) : Type 0 where
    pub order : Ordered c.stood
    pub one_in : c.one < length E
    pub other_in : c.other < length E

  pub record Fit (M : Model) : Type 0 where
    pub order : Ordered M.order
    pub choices : AllByRecursion Standing M.choices

  recorded_ordered : (a b : ℕ) (R : Rows) → Ordered R → b < length E → Ordered (recorded a b R)
  recorded_ordered a b R s h = record {
    settled = settled_recorded (length E) a b R s.settled h;
    grown = λ x y t. recorded_keeps a b R x y (s.grown x y t);
  }

  undone_fit : (R : Rows) (cs : List Choice) → Ordered R → AllByRecursion Standing cs → Fit (undone R cs)
  undone_fit R [] s a = record { order = s; choices = tt }
  undone_fit R (c ∷ cs) s a =
      let t = a.0 in
      side_either Fit c.side _ _
      (record { order = recorded_ordered c.other c.one c.stood t.order t.one_in; choices = (record { order = t.order; one_in = t.one_in; other_in = t.other_in }, a.1) })
      (undone_fit c.stood cs t.order a.1)

  module _ (L : ℕ → ℕ → Bool) (W : WellFormed E) where
    noted : (M : Model) (a b : ℕ) → b < length E → Fit M → Ordered (recorded a b M.order)
    noted M a b h f = recorded_ordered a b M.order f.order h

    taken_fit : (M : Model) (q : Call) → T (is_claim q) → refusal E M q ≡ None → Fit M → Fit (after E M q)
    taken_fit M (claim_a l s) c e f =
        let p = three (touches E s l) (not (eqb s (source E l))) (before M.order s l) (not_refused E M (claim_a l s) e).premised in
        record { order = noted M s (source E l) (source_here E W l (touch_parts E s l p.0).load) f; choices = f.choices }
    taken_fit M (claim_b l s) c e f = record { order = noted M l s (not_refused E M (claim_b l s) e).numbers.1.0 f; choices = f.choices }
    taken_fit M (claim_c l k a b) c e f = record { order = noted M a b (not_refused E M (claim_c l k a b) e).numbers.1.1.1.0 f; choices = f.choices }
    taken_fit M (split s t) c e f =
        let p = (not_refused E M (split s t) e).numbers in
        record { order = noted M s t p.1.0 f; choices = (record { order = f.order; one_in = p.0; other_in = p.1.0 }, f.choices) }
    taken_fit M close c e f = undone_fit M.order M.choices f.order f.choices
    taken_fit M (propose σ) c e f = absurd c
    taken_fit M (house k) c e f = absurd c
    taken_fit M (what_if a b) c e f = absurd c
    taken_fit M (least a b) c e f = absurd c

    pub replies_fit : {M M' : Model} {q : Call} {r : Answer} → Replies L E M q r M' → Fit M → Fit M'
    replies_fit (turned_away e) f = f
    replies_fit (taken {M = M} {q = q} c e) f = taken_fit M q c e f
    replies_fit (proposed e s) f = record { order = f.order; choices = f.choices }
    replies_fit (no_order e s) f = f
    replies_fit (asked b e s t) f = f
    replies_fit (imagined Q e s) f = f

    pub hears_fit : {M M' : Model} {q : Call} {r : Answer} → Hears L E M q r M' → Fit M → Fit M'
    hears_fit = hears_kept L E Fit (λ M M' q r. replies_fit)

    module _ (lawful : LawfulOrder L E) where
      opening_within : {x y : ℕ} → Opening L E x y → y < length E
      opening_within (given {a} {b} t) = (direct_here L E W (local_here L E lawful) a b t).1
      opening_within (joined p q) = opening_within q

      pub opened_fit : Says E O (Opening L E) → Fit (opened O)
      opened_fit s = record {
        order = record {
          settled = record { rows = s.0; within = λ x y t. opening_within ((s.1 x y).0 t); joins = λ x y z p q. (s.1 x z).1 (joined ((s.1 x y).0 p) ((s.1 y z).0 q)) };
          grown = λ x y t. t;
        };
        choices = tt;
      }

      pub reached : Says E O (Opening L E) → {qs : List Call} {rs : List Answer} {M : Model} → Run L E (opened O) qs rs M → Fit M
      reached says run = run_kept L E Fit (λ M M' q r. replies_fit) run (opened_fit says)
