-- There is one answer to each call, and one case after it.
use Rattle.std.proofs.Common.{◌≡◌, ℕ, zero, suc, ◌+◌, ◌-◌, ◌/◌, ◌≤◌, Bool, T, List, [], ◌∷◌, length, sym, refl, ap, ◌∙◌, subst, ap₂, inl, inr, arith}
use Rattle.std.proofs.lemmas.Bool.{cases_eq}
use Rattle.field.specs.declared.refusal.Refusal.{Refusal}
use Rattle.execution.specs.declared.operation.Operation.{Operation}
use Rattle.theory.specs.Order.{Rows, before, pairs, cyclic, Says}
use Rattle.theory.specs.Serial.{Supposed}
use Rattle.theory.specs.Case.{State, open', Model, Call, Answer, admitted, refused, made, supposed, says, ended, Replies, turned_away, taken, proposed, no_order, asked, imagined, Turns, spent, finished, turn, Hears, single, housed, Run, done, more, Turn}
use Rattle.theory.proofs.Marks.{mark, mark_half}
use Rattle.theory.proofs.Recording.{marked, mark_before}
use Rattle.theory.proofs.Tests.{same_truth, some_none, same_some}

-- numbers with the same bits, and orders with the same pairs
marks_same : (d r q : ℕ) → r ≤ d → q ≤ d → ((y : ℕ) → mark r y ≡ mark q y) → r ≡ q
marks_same zero r q h k e = omega arith
marks_same (suc d) r q h k e =
    let low = e 0 in
    let rest = marks_same d (r / 2) (q / 2) (omega arith) (omega arith) (λ y. sym (mark_half r y) ∙ e (suc y) ∙ mark_half q y) in
    omega arith

rows_same : (R Q : Rows) → length R ≡ length Q → ((x y : ℕ) → T (before R x y) → T (before Q x y)) → ((x y : ℕ) → T (before Q x y) → T (before R x y)) → R ≡ Q
rows_same [] [] e f g = refl
rows_same [] (q ∷ Q) e f g = absurd (omega arith)
rows_same (r ∷ R) [] e f g = absurd (omega arith)
rows_same (r ∷ R) (q ∷ Q) e f g =
    ap₂ (λ a as'. a ∷ as') (marks_same (r + q) r q (omega arith) (omega arith) bit) (rows_same R Q (omega arith) (λ x y. f (suc x) y) (λ x y. g (suc x) y))
  where
    bit : (y : ℕ) → mark r y ≡ mark q y
    bit y =
        elim (cases_eq (mark r y) 1) [
          | inl m ↦ let k = marked (q ∷ Q) 0 y (f 0 y (mark_before (r ∷ R) 0 y m)) in omega arith
          | inr m ↦ elim (cases_eq (mark q y) 1) [ inl k ↦ absurd (m (marked (r ∷ R) 0 y (g 0 y (mark_before (q ∷ Q) 0 y k)))) | inr k ↦ omega arith ]
        ]

pub same_rows : (E : List Operation) (P : ℕ → ℕ → Type 0) {R Q : Rows} → Says E R P → Says E Q P → R ≡ Q
same_rows E P {R} {Q} f g = rows_same R Q (f.0 ∙ sym g.0) (λ x y h. (g.1 x y).1 ((f.1 x y).0 h)) (λ x y h. (f.1 x y).1 ((g.1 x y).0 h))

module _ (L : ℕ → ℕ → Bool) (E : List Operation) where
  pub one_reply : {M M' M'' : Model} {q : Call} {r r' : Answer} → Replies L E M q r M' → Replies L E M q r' M'' → (r ≡ r') × (M' ≡ M'')
  one_reply (turned_away h) (turned_away k) = (ap refused (same_some h k), refl)
  one_reply (turned_away h) (taken c k) = absurd (some_none k h)
  one_reply (turned_away h) (proposed k s) = absurd (some_none k h)
  one_reply (turned_away h) (no_order k s) = absurd (some_none k h)
  one_reply (turned_away h) (asked v k p q) = absurd (some_none k h)
  one_reply (turned_away h) (imagined Q k p) = absurd (some_none k h)
  one_reply (taken c h) (turned_away k) = absurd (some_none h k)
  one_reply (taken c h) (taken d k) = (refl, refl)
  one_reply (taken c h) (proposed k s) = absurd c
  one_reply (taken c h) (no_order k s) = absurd c
  one_reply (taken c h) (asked v k p q) = absurd c
  one_reply (taken c h) (imagined Q k p) = absurd c
  one_reply (proposed h s) (turned_away k) = absurd (some_none h k)
  one_reply (proposed h s) (taken c k) = absurd c
  one_reply (proposed h s) (proposed k t) = (refl, refl)
  one_reply (proposed h s) (no_order k t) = absurd (t s)
  one_reply (no_order h s) (turned_away k) = absurd (some_none h k)
  one_reply (no_order h s) (taken c k) = absurd c
  one_reply (no_order h s) (no_order k t) = (refl, refl)
  one_reply (no_order h s) (proposed k t) = absurd (s t)
  one_reply (asked u h p q) (turned_away k) = absurd (some_none h k)
  one_reply (asked u h p q) (taken c k) = absurd c
  one_reply (asked u h p q) (asked v k r s) = (ap says (same_truth u v (λ t. s (p t)) (λ t. q (r t))), refl)
  one_reply (imagined P h p) (turned_away k) = absurd (some_none h k)
  one_reply (imagined P h p) (taken c k) = absurd c
  one_reply (imagined {M} {a} {b} P h p) (imagined Q k q) = (ap (λ X. supposed (pairs X - pairs M.order) (cyclic X)) (same_rows E (Supposed E M.order a b) p q), refl)

  pub admits_or_refuses : {k : Refusal} → admitted ≡ refused k → ⊥
  admits_or_refuses e = let z : ◌≡◌ {A = ℕ} 0 1 = cc in omega arith

  pub one_turn : {M M' M'' : Model} {q q' : Call} → Turn L E M q M' → Turn L E M q' M'' → M' ≡ M''
  one_turn {M} {M'} {M''} t u = (one_reply t.1 (subst (λ q. Replies L E M q admitted M'') (same_some u.0 t.0) u.1)).1

  open_or_ended : {s : State} → s ≡ open' → T (ended s) → ⊥
  open_or_ended e h = subst (λ s. T (ended s)) e h

  pub one_house : {M M' M'' : Model} {k t t' : ℕ} → Turns L E M k t M' → Turns L E M k t' M'' → (t ≡ t') × (M' ≡ M'')
  one_house spent spent = (refl, refl)
  one_house spent (finished h) = (refl, refl)
  one_house (finished h) spent = (refl, refl)
  one_house (finished h) (finished g) = (refl, refl)
  one_house (finished h) (turn e n ts) = absurd (open_or_ended e h)
  one_house (turn e n ts) (finished h) = absurd (open_or_ended e h)
  one_house {M'' = M''} (turn {k = k} e n ts) (turn {t = t} g m us) =
      let rest = one_house ts (subst (λ X. Turns L E X k t M'') (sym (one_turn n m)) us) in
      (ap suc rest.0, rest.1)

  pub one_hearing : {M M' M'' : Model} {q : Call} {r r' : Answer} → Hears L E M q r M' → Hears L E M q r' M'' → (r ≡ r') × (M' ≡ M'')
  one_hearing (single r) (single s) = one_reply r s
  one_hearing (single (turned_away e)) (housed h ts) = absurd (some_none h e)
  one_hearing (single (taken c e)) (housed h ts) = absurd c
  one_hearing (housed h ts) (single (turned_away e)) = absurd (some_none h e)
  one_hearing (housed h ts) (single (taken c e)) = absurd c
  one_hearing (housed h ts) (housed g us) = let same = one_house ts us in (ap₂ made same.0 (ap (λ (X : Model). X.state) same.1), same.1)

  pub one_run : {M M' M'' : Model} {qs : List Call} {rs rs' : List Answer} → Run L E M qs rs M' → Run L E M qs rs' M'' → (rs ≡ rs') × (M' ≡ M'')
  one_run done done = (refl, refl)
  one_run {M'' = M''} (more h rest) (more {qs = qs} {rs = rs} g more') =
      let same = one_hearing h g in
      let after = one_run rest (subst (λ X. Run L E X qs rs M'') (sym same.1) more') in
      (ap₂ (λ r l. r ∷ l) same.0 after.0, after.1)
