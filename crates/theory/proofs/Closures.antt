-- Every execution has an opening order: the premise of the promises can be met.
use Rattle.std.proofs.Common.{◌≡◌, ℕ, ◌<◌, Bool, cond, T, List, [], ◌∷◌, map, length, get_or, sym, refl, ◌∙◌, subst, inl, inr, arith}
use Rattle.std.specs.List.{AllByRecursion, range_with_len}
use Rattle.std.proofs.ByRecursion.{All-weaker}
use Rattle.execution.specs.declared.operation.Operation.{Operation}
use Rattle.execution.specs.Operations.{saw}
use Rattle.theory.specs.Lists.{over}
use Rattle.theory.specs.Order.{Rows, before, recorded, Says}
use Rattle.theory.specs.Serial.{LawfulOrder, direct, given, joined, Opening}
use Rattle.execution.specs.Formed.{WellFormed}
use Rattle.theory.proofs.Tests.{or_cases, cond_yes, cond_either}
use Rattle.theory.proofs.Ranges.{all_over, over_all}
use Rattle.theory.proofs.Totals.{length_upto, get_or_map_all}
use Rattle.theory.proofs.Marks.{mark, mark_zero}
use Rattle.theory.proofs.Recording.{marked, Transitive, length_recorded, recorded_narrow, recorded_keeps, recorded_transitive, recorded_has}
use Rattle.theory.proofs.Operations.{store_here, load_here, touch_parts, saw_load, saw_touches, local_here}

module _ (L : ℕ → ℕ → Bool) (E : List Operation) where
  -- rows on the way to the opening order
  pub record Built (R : Rows) : Type 0 where
    pub rows : length R ≡ length E
    pub sound : (x y : ℕ) → T (before R x y) → Opening L E x y
    pub closed : Transitive R

  pub built_none : (R : Rows) → length R ≡ length E → ((x y : ℕ) → T (before R x y) → ⊥) → Built R
  built_none R e n = record { rows = e; sound = λ x y t. absurd (n x y t); closed = λ x y z s t. absurd (n x y s) }

  pub built_more : (R : Rows) (a b : ℕ) → Built R → T (direct L E a b) → Built (recorded a b R)
  built_more R a b h t = record {
    rows = length_recorded a b R ∙ h.rows;
    sound = λ x y s. elim (recorded_narrow a b R x y s) [
      | inl p ↦ h.sound x y p
      | inr w ↦
          let new : Opening L E a b = given t in
          let to : Opening L E x b = elim w.0 [ inl e ↦ subst (λ z. Opening L E z b) (sym e) new | inr p ↦ joined (h.sound x a p) new ] in
          elim w.1 [ inl e ↦ subst (Opening L E x) (sym e) to | inr p ↦ joined to (h.sound b y p) ]
    ];
    closed = recorded_transitive a b R h.closed;
  }

  module _ (W : WellFormed E) (here : (a b : ℕ) → T (L a b) → (a < length E) × (b < length E)) where
    pub direct_here : (a b : ℕ) → T (direct L E a b) → (a < length E) × (b < length E)
    direct_here a b t =
        elim (or_cases (L a b) (saw E b a) t) [
          | inl h ↦ here a b h
          | inr h ↦ (store_here E a (touch_parts E a b (saw_touches E W b a h)).store, load_here E b (saw_load E b a h))
        ]

    -- once every pair that opening records was looked at, the rows say the opening order
    pub built_says : (R : Rows) → Built R → ((a b : ℕ) → a < length E → b < length E → T (direct L E a b) → T (before R a b)) → Says E R (Opening L E)
    built_says R h all = (h.rows, λ x y. (h.sound x y, back))
      where
        back : {x y : ℕ} → Opening L E x y → T (before R x y)
        back (given {a} {b} t) = let i = direct_here a b t in all a b i.0 i.1 t
        back (joined {a} {b} {c} p q) = h.closed a b c (back p) (back q)

-- the rows of the transitive closure of some pairs
abbrev pub closure : ℕ → List (ℕ × ℕ) → Rows
closure n [] = map (λ _. 0) (range_with_len 0 n)
closure n (p ∷ ps) = recorded p.0 p.1 (closure n ps)

module _ (L : ℕ → ℕ → Bool) (E : List Operation) where
  abbrev n : ℕ
  n = length E

  closure_none : (x y : ℕ) → T (before (closure n []) x y) → ⊥
  closure_none x y t =
      let none : get_or (closure n []) x 0 ≡ 0 = get_or_map_all (λ r. r ≡ 0) (λ (z : ℕ). 0) 0 (λ _. refl) refl (range_with_len 0 n) x in
      let m : mark 0 y ≡ 1 = rw none at (marked (closure n []) x y t) in
      omega (arith, mark_zero y)

  closure_built : (ps : List (ℕ × ℕ)) → AllByRecursion (λ p. T (direct L E p.0 p.1)) ps → Built L E (closure n ps)
  closure_built [] a = built_none L E (closure n []) (length_upto (λ _. 0) 0 n) closure_none
  closure_built (p ∷ ps) a = built_more L E (closure n ps) p.0 p.1 (closure_built ps a.1) a.0

  closure_has : (ps : List (ℕ × ℕ)) → AllByRecursion (λ p. T (direct L E p.0 p.1)) ps → AllByRecursion (λ p. p.0 < n) ps → AllByRecursion (λ p. T (before (closure n ps) p.0 p.1)) ps
  closure_has [] d a = tt
  closure_has (p ∷ ps) d a =
      let e = (closure_built ps d.1).rows in
      let h = a.0 in
      (recorded_has p.0 p.1 (closure n ps) (omega arith), All-weaker _ _ (λ q t. recorded_keeps p.0 p.1 (closure n ps) q.0 q.1 t) ps (closure_has ps d.1 a.1))

  abbrev pub opening_pairs : List (ℕ × ℕ)
  opening_pairs = over n (λ a. over n (λ b. cond (direct L E a b) ((a, b) ∷ []) []))

  all_pairs : (P : ℕ × ℕ → Type 0) → ((a b : ℕ) → a < n → T (direct L E a b) → P (a, b)) → AllByRecursion P opening_pairs
  all_pairs P f = all_over n P _ (λ a h. all_over n P _ (λ b _. cond_either (AllByRecursion P) (direct L E a b) ((a, b) ∷ []) [] (λ t. (f a b h t, tt)) (λ _. tt)))

  pairs_all : (P : ℕ × ℕ → Type 0) → AllByRecursion P opening_pairs → (a b : ℕ) → a < n → b < n → T (direct L E a b) → P (a, b)
  pairs_all P all a b h k t = (subst (AllByRecursion P) (cond_yes (direct L E a b) ((a, b) ∷ []) [] t) (over_all n P _ (over_all n P _ all a h) b k)).0

  -- the opening order, computed
  abbrev pub opening : Rows
  opening = closure n opening_pairs

  pub opening_says : LawfulOrder L E → WellFormed E → Says E opening (Opening L E)
  opening_says lawful W =
      let are : AllByRecursion (λ p. T (direct L E p.0 p.1)) opening_pairs = all_pairs (λ p. T (direct L E p.0 p.1)) (λ a b _ t. t) in
      built_says L E W (local_here L E lawful) opening (closure_built opening_pairs are)
      (pairs_all (λ p. T (before opening p.0 p.1)) (closure_has opening_pairs are (all_pairs (λ p. p.0 < n) (λ a b h t. h))))
