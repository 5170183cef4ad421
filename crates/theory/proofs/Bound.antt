-- Each admission lowers the potential of a case by at least one, and no more choices stand than were undecided.
use Rattle.std.proofs.Common.{◌≡◌, ℕ, suc, ◌+◌, ◌-◌, ◌*◌, ◌^◌, ◌<◌, ◌≤◌, Bool, not, T, eqb, List, [], ◌∷◌, length, None, sym, ap, ◌∙◌, subst, le_refl, mul_assoc, suc-mul, mul-le-mul, pow-suc, add-one, arith, pow_pos, pow_mono}
use Rattle.execution.specs.declared.operation.Operation.{Operation}
use Rattle.execution.specs.Operations.{source, touches}
use Rattle.theory.specs.Order.{Rows, before, recorded, missing, undecided}
use Rattle.theory.specs.Case.{State, open', serial, impossible, Side, first, second, Choice, Model, open_with, opened, Call, claim_a, claim_b, claim_c, split, close, propose, house, what_if, least, Answer, is_claim, undone, refusal, after, Replies, turned_away, taken, proposed, no_order, asked, imagined, Run}
use Rattle.theory.specs.Promises.{admissions, all_admissions}
use Rattle.execution.specs.Formed.{WellFormed}
use Rattle.theory.proofs.Totals.{triangle_mono}
use Rattle.theory.proofs.Tests.{three, not_or}
use Rattle.theory.proofs.Operations.{source_here, touch_parts}
use Rattle.theory.proofs.Counting.{Square, Open, open_turn, recorded_square, missing_falls, undecided_stays, undecided_falls, undecided_most}
use Rattle.theory.proofs.Walks.{run_walk}
use Rattle.theory.proofs.Refusals.{not_refused}

-- what an order with m pairs missing and s undecided can still take
abbrev room_for : ℕ → ℕ → ℕ
room_for m s = (m + 1) * 2 ^ s

claim_lowers : (m m' s s' : ℕ) → m' < m → s' ≤ s → room_for m' s' < room_for m s
claim_lowers m m' s s' p q =
    let a : room_for m' s' ≤ m * 2 ^ s = mul-le-mul {n₁ = m' + 1} {n₂ = m} (omega arith) (pow_mono q) in
    let b : room_for m s ≡ m * 2 ^ s + 2 ^ s = rw (add-one m) (suc-mul m (2 ^ s)) in
    let c : 0 < 2 ^ s = pow_pos s in
    omega arith

-- the second way of a choice
flip_fits : (m m' s s' : ℕ) → m' < m → s' < s → room_for m' s' ≤ m * 2 ^ (s - 1)
flip_fits m m' s s' p q = mul-le-mul {n₁ = m' + 1} {n₂ = m} (omega arith) (let h : s' ≤ s - 1 = omega arith in pow_mono h)

split_lowers : (m m' s s' : ℕ) → m' < m → s' < s → room_for m' s' + m * 2 ^ (s - 1) < room_for m s
split_lowers m m' s s' p q =
    let k : ℕ = 2 ^ (s - 1) in
    let a : room_for m' s' ≤ m * k = flip_fits m m' s s' p q in
    let back : s ≡ suc (s - 1) = omega arith in
    let twice : 2 ^ s ≡ k * 2 = ap (λ j. 2 ^ j) back ∙ pow-suc 2 (s - 1) in
    let b : room_for m s ≡ m * 2 ^ s + 2 ^ s = rw (add-one m) (suc-mul m (2 ^ s)) in
    let d : m * 2 ^ s ≡ m * k * 2 = rw twice (sym (mul_assoc m k 2)) in
    let c : 0 < 2 ^ s = pow_pos s in
    omega arith

module _ (E : List Operation) where
  abbrev room : Rows → ℕ
  room R = room_for (missing E R) (undecided E R)

  -- what a choice leaves to its second side
  abbrev left_over : Side → Rows → ℕ
  left_over first R = missing E R * 2 ^ (undecided E R - 1)
  left_over second R = 0

  abbrev spare : List Choice → ℕ
  spare [] = 0
  spare (c ∷ cs) = left_over c.side c.stood + spare cs

  abbrev weight : State → Rows → List Choice → ℕ
  weight open' R cs = room R + spare cs
  weight serial R cs = 0
  weight impossible R cs = 0

  abbrev potential : Model → ℕ
  potential M = weight M.state M.order M.choices

  -- a choice that stands on k others, where U were undecided at first
  record Standing (U : ℕ) (c : Choice) (k : ℕ) : Type 0 where
    square : Square (length E) c.stood
    one_in : c.one < length E
    other_in : c.other < length E
    undecided_there : Open E c.stood c.one c.other
    fits : undecided E c.stood + k ≤ U

  abbrev Standings : ℕ → List Choice → Type 0
  Standings U [] = Unit {0}
  Standings U (c ∷ cs) = Standing U c (length cs) × Standings U cs

  record Weighed (U : ℕ) (M : Model) : Type 0 where
    square : Square (length E) M.order
    standing : Standings U M.choices
    fits : undecided E M.order + length M.choices ≤ U

  -- from M to M' by k admissions
  abbrev Lower : ℕ → Model → ℕ → Model → Type 0
  Lower U M k M' = Weighed U M → Weighed U M' × (k + potential M' ≤ potential M)

  undone_first : (U one other : ℕ) (side : Side) (stood R : Rows) (cs : List Choice)
      → let c : Choice = record { one = one; other = other; side = side; stood = stood } in
      Standing U c (length cs) → Standings U cs
      → Weighed U (undone stood cs) × (potential (undone stood cs) ≤ spare cs)
      → Weighed U (undone R (c ∷ cs)) × (potential (undone R (c ∷ cs)) ≤ spare (c ∷ cs))
  undone_first U one other first stood R cs s ss ih =
      let turned = open_turn E stood one other s.undecided_there in
      let fewer = missing_falls E other one stood s.square s.other_in s.one_in turned.one_way in
      let decided = undecided_falls E other one stood s.square s.other_in s.one_in turned in
      let kept = s.fits in (
        record {
          square = recorded_square (length E) other one stood s.square s.one_in;
          standing = (record { square = s.square; one_in = s.one_in; other_in = s.other_in; undecided_there = s.undecided_there; fits = s.fits }, ss);
          fits = omega arith;
        },
        omega (arith, flip_fits (missing E stood) (missing E (recorded other one stood)) (undecided E stood) (undecided E (recorded other one stood)) fewer decided),
      )
  undone_first U one other second stood R cs s ss ih = (ih.0, omega (arith, ih.1))

  undone_sound : (U : ℕ) (R : Rows) (cs : List Choice) → Square (length E) R → Standings U cs → undecided E R + length cs ≤ U
      → Weighed U (undone R cs) × (potential (undone R cs) ≤ spare cs)
  undone_sound U R [] square standing fits = (record { square = square; standing = tt; fits = fits }, le_refl 0)
  undone_sound U R (c ∷ cs) square standing fits =
      undone_first U c.one c.other c.side c.stood R cs standing.0 standing.1
      (undone_sound U c.stood cs standing.0.square standing.1 standing.0.fits)

  room_pos : (R : Rows) → 0 < room R
  room_pos R = mul-le-mul {n₁ = 1} {m₁ = 1} {n₂ = missing E R + 1} (omega arith) (pow_pos (undecided E R))

  module _ (U : ℕ) (M : Model) (is_open : M.state ≡ open') where
    -- a fall from an open case
    from_open : (k : ℕ) → k < room M.order + spare M.choices → 1 + k ≤ potential M
    from_open k h = subst (λ st. 1 + k ≤ weight st M.order M.choices) (sym is_open) (omega arith)

    noted : (a b : ℕ) → a < length E → b < length E → T (not (before M.order a b))
        → Lower U M 1 (open_with (recorded a b M.order) M.choices)
    noted a b a_in b-in new s =
        let R : Rows = M.order in
        let fewer = missing_falls E a b R s.square a_in b-in new in
        let stays = undecided_stays E a b R s.square a_in b-in in
        let kept = s.fits in
        let lower = claim_lowers (missing E R) (missing E (recorded a b R)) (undecided E R) (undecided E (recorded a b R)) fewer stays in (
          record { square = recorded_square (length E) a b R s.square b-in; standing = s.standing; fits = omega arith },
          from_open (room (recorded a b R) + spare M.choices) (omega arith),
        )

    parted : (a b : ℕ) → a < length E → b < length E → Open E M.order a b
        → Lower U M 1 (open_with (recorded a b M.order) (record { one = a; other = b; side = first; stood = M.order } ∷ M.choices))
    parted a b a_in b-in o s =
        let R : Rows = M.order in
        let fewer = missing_falls E a b R s.square a_in b-in o.one_way in
        let decided = undecided_falls E a b R s.square a_in b-in o in
        let kept = s.fits in
        let lower = split_lowers (missing E R) (missing E (recorded a b R)) (undecided E R) (undecided E (recorded a b R)) fewer decided in (
          record {
            square = recorded_square (length E) a b R s.square b-in;
            standing = (record { square = s.square; one_in = a_in; other_in = b-in; undecided_there = o; fits = s.fits }, s.standing);
            fits = omega arith;
          },
          from_open (room (recorded a b R) + (missing E R * 2 ^ (undecided E R - 1) + spare M.choices)) (omega arith),
        )

    undoing : Lower U M 1 (undone M.order M.choices)
    undoing s =
        let u = undone_sound U M.order M.choices s.square s.standing s.fits in
        (u.0, from_open (potential (undone M.order M.choices)) (omega (arith, u.1, room_pos M.order)))

    finding : (σ : List ℕ) → Lower U M 1 (after E M (propose σ))
    finding σ s = (record { square = s.square; standing = s.standing; fits = s.fits }, from_open 0 (omega (arith, room_pos M.order)))

module _ (L : ℕ → ℕ → Bool) (E : List Operation) (wf : WellFormed E) (U : ℕ) where
  claimed : (M : Model) (q : Call) → T (is_claim q) → refusal E M q ≡ None → Lower E U M 1 (after E M q)
  claimed M (claim_a l s) c h =
      let p = not_refused E M (claim_a l s) h in
      let t = (three (touches E s l) (not (eqb s (source E l))) (before M.order s l) p.premised).0 in
      noted E U M (p.is_open tt) s (source E l) p.numbers.1.0 (source_here E wf l (touch_parts E s l t).load) p.fresh
  claimed M (claim_b l s) c h = let p = not_refused E M (claim_b l s) h in noted E U M (p.is_open tt) l s p.numbers.0 p.numbers.1.0 p.fresh
  claimed M (claim_c l k a b) c h = let p = not_refused E M (claim_c l k a b) h in noted E U M (p.is_open tt) a b p.numbers.1.1.0 p.numbers.1.1.1.0 p.fresh
  claimed M (split s t) c h =
      let p = not_refused E M (split s t) h in
      let ways = not_or (before M.order s t) (before M.order t s) p.fresh in
      parted E U M (p.is_open tt) s t p.numbers.0 p.numbers.1.0 (record { rival = p.premised; one_way = ways.0; other_way = ways.1 })
  claimed M close c h = undoing E U M ((not_refused E M close h).is_open tt)
  claimed M (propose σ) c h = absurd c
  claimed M (house k) c h = absurd c
  claimed M (what_if a b) c h = absurd c
  claimed M (least a b) c h = absurd c

  replied : {M M' : Model} {q : Call} {r : Answer} → Replies L E M q r M' → Lower E U M (admissions r) M'
  replied (turned_away h) = λ s. (s, omega arith)
  replied (taken {M} {q} c h) = claimed M q c h
  replied (proposed {M} {σ} h k) = finding E U M ((not_refused E M (propose σ) h).is_open tt) σ
  replied (no_order h k) = λ s. (s, omega arith)
  replied (asked b h k l) = λ s. (s, omega arith)
  replied (imagined Q h k) = λ s. (s, omega arith)

  ran : {M M' : Model} {qs : List Call} {rs : List Answer} → Run L E M qs rs M' → Lower E U M (all_admissions rs) M'
  ran = run_walk L E (Lower E U) (λ M s. (s, omega arith)) (λ M M' M'' j k f g s. (let a = f s in let b = g a.0 in (b.0, omega (arith, a.1, b.1)))) (λ M M' q r. replied)

pub bounds : (L : ℕ → ℕ → Bool) (E : List Operation) → WellFormed E → (O : Rows) → Square (length E) O
    → {qs : List Call} {rs : List Answer} {M : Model} → Run L E (opened O) qs rs M
    → (all_admissions rs ≤ (missing E O + 1) * 2 ^ undecided E O) × (length M.choices ≤ undecided E O)
bounds L E wf O square run =
    let start : Weighed E (undecided E O) (opened O) = record { square = square; standing = tt; fits = omega arith } in
    let end = ran L E wf (undecided E O) run start in
    (omega (arith, end.1), omega (arith, end.0.fits))

pub few_undecided : (E : List Operation) (O : Rows) → length E ≤ 32 → undecided E O ≤ 496
few_undecided E O h = omega (arith, undecided_most E O, triangle_mono (length E) 32 h)
