-- Every serialization respects the recorded order, or was left behind by a choice that still stands on its first side.
use Rattle.std.proofs.Common.{◌≡◌, ℕ, ◌<◌, ◌≤◌, Bool, not, T, eqb, ◌≢◌, ◌⊎◌, List, [], ◌∷◌, length, None, sym, refl, ap, inl, inr, ⊎_elim, arith}
use mathlib.Core.Logic.{⊎_map}
use Rattle.execution.specs.declared.operation.Operation.{Operation}
use Rattle.execution.specs.Operations.{load_at, same_address, source, touches, rivals}
use Rattle.std.specs.List.{range_with_len}
use Rattle.theory.specs.Lists.{place}
use Rattle.theory.specs.Order.{Rows, before, recorded, cyclic, Says}
use Rattle.theory.specs.Serial.{Serialization, Opening}
use Rattle.theory.specs.Case.{open', serial, impossible, Side, first, second, Choice, Model, open_with, opened, Call, claim_a, claim_b, claim_c, split, close, propose, house, what_if, least, Answer, is_claim, undone, premise, pair, refusal, with_pair, after, Replies, Run}
use Rattle.execution.specs.Formed.{WellFormed}
use Rattle.theory.proofs.Tests.{and_parts, three, eight, not_not, apart}
use Rattle.theory.proofs.Ranges.{all_below, any_none}
use Rattle.theory.proofs.Recording.{recorded_narrow}
use Rattle.theory.proofs.Operations.{store_here, rival_parts}
use Rattle.theory.proofs.Walks.{run_kept}
use Rattle.theory.proofs.Refusals.{not_refused}
use Rattle.theory.proofs.Rules.{one_first, rule_a_holds, rule_b_holds, rule_c_holds, opening_holds}

abbrev pub Respects : List ℕ → Rows → Type 0
Respects σ R = (x y : ℕ) → T (before R x y) → place σ x < place σ y

respects_recorded : (σ : List ℕ) (a b : ℕ) (R : Rows) → Respects σ R → place σ a < place σ b → Respects σ (recorded a b R)
respects_recorded σ a b R h p x y t =
    elim (recorded_narrow a b R x y t) [
      | inl k ↦ h x y k
      | inr (i, j) ↦ omega (arith, up_to x a i, up_to b y (⊎_map sym (λ k. k) j))
    ]
  where
    up_to : (u v : ℕ) → (u ≡ v) ⊎ T (before R u v) → place σ u ≤ place σ v
    up_to u v (inl e) = omega (arith, ap (place σ) e)
    up_to u v (inr k) = omega (arith, h u v k)

no_cycle : (σ : List ℕ) (R : Rows) → Respects σ R → T (cyclic R) → ⊥
no_cycle σ R h t = any_none (λ x. before R x x) (range_with_len 0 (length R)) (all_below (λ x. T (before R x x) → ⊥) (length R) (λ x _ k. omega (arith, h x x k))) t

-- a choice on its first side has left σ behind
abbrev pub LeftBehind : List ℕ → Choice → Type 0
LeftBehind σ c = (c.side ≡ first) × Respects σ c.stood × (place σ c.other < place σ c.one)

abbrev pub Behind : List ℕ → List Choice → Type 0
Behind σ [] = ⊥
Behind σ (c ∷ cs) = LeftBehind σ c ⊎ Behind σ cs

abbrev pub Covers : List ℕ → Model → Type 0
Covers σ M = (M.state ≢ impossible) × (Respects σ M.order ⊎ Behind σ M.choices)

not_serial_yet : open' ≢ serial
not_serial_yet e = let z : ◌≡◌ {A = ℕ} 0 1 = cc in omega arith

not_impossible_yet : open' ≢ impossible
not_impossible_yet e = let z : ◌≡◌ {A = ℕ} 0 1 = cc in omega arith

not_impossible_then : serial ≢ impossible
not_impossible_then e = let z : ◌≡◌ {A = ℕ} 0 1 = cc in omega arith

undone_covers : (σ : List ℕ) (R : Rows) (cs : List Choice) → Behind σ cs → Covers σ (undone R cs)
undone_covers σ R [] h = absurd h
undone_covers σ R (c ∷ cs) h = go c.side refl h (undone_covers σ c.stood cs)
  where
    go : (s : Side) → c.side ≡ s → LeftBehind σ c ⊎ Behind σ cs → (Behind σ cs → Covers σ (undone c.stood cs))
        → Covers σ (elim s [
          | first ↦ open_with (recorded c.other c.one c.stood) (record { one = c.one; other = c.other; side = second; stood = c.stood } ∷ cs)
          | second ↦ undone c.stood cs
        ])
    go first e h r = (not_impossible_yet, ⊎_map (λ k. respects_recorded σ c.other c.one c.stood k.1 k.2) inr h)
    go second e (inl h) r = let z : ◌≡◌ {A = ℕ} 0 1 = cc (e, h.0) in absurd (omega arith)
    go second e (inr h) r = r h

undone_not_serial : (R : Rows) (cs : List Choice) → (undone R cs).state ≢ serial
undone_not_serial R [] e = let z : ◌≡◌ {A = ℕ} 0 1 = cc in omega arith
undone_not_serial R (c ∷ cs) e = go c.side (undone_not_serial c.stood cs) e
  where
    go : (s : Side) → (undone c.stood cs).state ≢ serial → (elim s as (λ _. Model) [
      | first ↦ open_with (recorded c.other c.one c.stood) (record { one = c.one; other = c.other; side = second; stood = c.stood } ∷ cs)
      | second ↦ undone c.stood cs
    ]).state ≢ serial
    go first r = not_serial_yet
    go second r = r

module _ (L : ℕ → ℕ → Bool) (E : List Operation) where
  pub record Sound (M : Model) : Type 0 where
    pub served : M.state ≡ serial → Serialization L E M.witness
    pub covered : (σ : List ℕ) → Serialization L E σ → Covers σ M

  -- a pair that every serialization under the order respects
  noted : (M : Model) (q : Call) → ((σ : List ℕ) → Serialization L E σ → Respects σ M.order → place σ (pair E q).0 < place σ (pair E q).1)
      → Sound M → Sound (open_with (with_pair E M.order q) M.choices)
  noted M q f m = record {
    served = λ e. absurd (not_serial_yet e);
    covered = λ σ S. (not_impossible_yet, ⊎_map (λ h. respects_recorded σ (pair E q).0 (pair E q).1 M.order h (f σ S h)) (λ k. k) (m.covered σ S).1);
  }

  module _ (w : WellFormed E) where
    module _ (R : Rows) (σ : List ℕ) (S : Serialization L E σ) (h : Respects σ R) where
      claim_a_holds : (l s : ℕ) → T (premise E R (claim_a l s)) → place σ s < place σ (source E l)
      claim_a_holds l s t =
          let p = three (touches E s l) (not (eqb s (source E l))) (before R s l) t in
          rule_a_holds L E σ S l s p.0 (apart s (source E l) p.1) (h s l p.2)

      claim_b_holds : (l s : ℕ) → T (premise E R (claim_b l s)) → place σ l < place σ s
      claim_b_holds l s t =
          let p = and_parts (touches E s l) (before R (source E l) s) t in
          rule_b_holds L E σ S l s p.0 (h (source E l) s p.1)

      claim_c_holds : (l k a b : ℕ) → T (premise E R (claim_c l k a b)) → place σ a < place σ b
      claim_c_holds l k a b t =
          let p = eight (load_at E l) (load_at E k) (same_address E l k) (not (eqb (source E l) (source E k))) (before R a l) (before R a k) (before R (source E l) b) (before R (source E k) b) t in
          rule_c_holds L E σ S w l k a b p.0 p.1 p.2 (apart (source E l) (source E k) p.3) (h a l p.4) (h a k p.5) (h (source E l) b p.6) (h (source E k) b p.7)

    split_sound : (M : Model) (s t : ℕ) → T (rivals E s t) → Sound M → Sound (after E M (split s t))
    split_sound M s t p m = record {
      served = λ e. absurd (not_serial_yet e);
      covered = λ σ S. (not_impossible_yet, ⊎_elim (chosen' σ S) (λ k. inr (inr k)) (m.covered σ S).1);
    }
      where
        c : Choice
        c = record { one = s; other = t; side = first; stood = M.order }

        chosen' : (σ : List ℕ) → Serialization L E σ → Respects σ M.order → Respects σ (recorded s t M.order) ⊎ (LeftBehind σ c ⊎ Behind σ M.choices)
        chosen' σ S h =
            elim (let r = rival_parts E s t p in one_first L E σ S s t (store_here E s r.one) r.differ) [
              | inl o ↦ inl (respects_recorded σ s t M.order h o)
              | inr o ↦ inr (inl (refl, h, o))
            ]

    close_sound : (M : Model) → T (cyclic M.order) → Sound M → Sound (undone M.order M.choices)
    close_sound M c m = record {
      served = λ e. absurd (undone_not_serial M.order M.choices e);
      covered = λ σ S. undone_covers σ M.order M.choices (⊎_elim (λ h. absurd (no_cycle σ M.order h c)) (λ k. k) (m.covered σ S).1);
    }

    taken_sound : (M : Model) (q : Call) → T (is_claim q) → refusal E M q ≡ None → Sound M → Sound (after E M q)
    taken_sound M (claim_a l s) c e m = noted M (claim_a l s) (λ σ S h. claim_a_holds M.order σ S h l s (not_refused E M (claim_a l s) e).premised) m
    taken_sound M (claim_b l s) c e m = noted M (claim_b l s) (λ σ S h. claim_b_holds M.order σ S h l s (not_refused E M (claim_b l s) e).premised) m
    taken_sound M (claim_c l k a b) c e m = noted M (claim_c l k a b) (λ σ S h. claim_c_holds M.order σ S h l k a b (not_refused E M (claim_c l k a b) e).premised) m
    taken_sound M (split s t) c e m = split_sound M s t (not_refused E M (split s t) e).premised m
    taken_sound M close c e m = close_sound M (not_not (cyclic M.order) (not_refused E M close e).cyclic_close) m
    taken_sound M (propose σ) c e m = absurd c
    taken_sound M (house k) c e m = absurd c
    taken_sound M (what_if a b) c e m = absurd c
    taken_sound M (least a b) c e m = absurd c

    replies_sound : {M M' : Model} {q : Call} {r : Answer} → Replies L E M q r M' → Sound M → Sound M'
    replies_sound (Replies.turned_away e) m = m
    replies_sound (Replies.taken {M} {q} c e) m = taken_sound M q c e m
    replies_sound (Replies.proposed {M} {σ} e S) m = record {
      served = λ _. S;
      covered = λ τ Q. (not_impossible_then, (m.covered τ Q).1);
    }
    replies_sound (Replies.no_order e d) m = m
    replies_sound (Replies.asked y e p q) m = m
    replies_sound (Replies.imagined Q e p) m = m

    pub run_sound : {M M' : Model} {qs : List Call} {rs : List Answer} → Run L E M qs rs M' → Sound M → Sound M'
    run_sound = run_kept L E Sound (λ M M' q r. replies_sound)

    pub opened_sound : (O : Rows) → Says E O (Opening L E) → Sound (opened O)
    opened_sound O h = record {
      served = λ e. absurd (not_serial_yet e);
      covered = λ σ S. (not_impossible_yet, inl (λ x y t. opening_holds L E σ S ((h.1 x y).0 t)));
    }
