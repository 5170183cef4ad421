-- The house of an open case always has a next call.
use Rattle.std.proofs.Common.{◌≡◌, ℕ, ◌<◌, Bool, cond, T, eqb, ltb, ◌⊎◌, List, [], ◌∷◌, ◌++◌, length, Some, None, Option, refl, ap, ◌∙◌, subst, inl, inr, arith, ltb→lt, lt→ltb, T_not}
use mathlib.Core.Logic.{⊎_swap}
use Rattle.std.specs.List.{AllByRecursion, range_with_len}
use Rattle.std.proofs.ByRecursion.{All-append, All-weaker}
use Rattle.std.proofs.lemmas.Bool.{cases_order}
use Rattle.execution.specs.declared.operation.Operation.{Operation}
use Rattle.execution.specs.Operations.{load_at, source, saw, touches, rivals}
use Rattle.theory.specs.Lists.{first_by, place, count}
use Rattle.theory.specs.Order.{Rows, before, cyclic, Says}
use Rattle.theory.specs.Serial.{LawfulOrder, given, Opening, Serialization}
use Rattle.theory.specs.Case.{open', Model, Call, claim_b, split, close, propose, is_claim, named, premise, stands, misshapen, acyclic_close, granted, refusal, after, greedy, claims_a, claims_b, claims_c, splits, claims, claim_tries, taken, proposed, Turn}
use Rattle.execution.specs.Formed.{WellFormed}
use Rattle.theory.proofs.Tests.{both, or_cases, or_left, or_right, or_none, decided, eq-eqb, cond_yes}
use Rattle.theory.proofs.Ranges.{append_parts, any_none, none_any, below_all, over_all}
use Rattle.theory.proofs.Firsts.{first_none, first_some, first_left, first_right}
use Rattle.theory.proofs.Tries.{all_claims, all_splits, may}
use Rattle.theory.proofs.Recording.{before_in}
use Rattle.theory.proofs.Refusals.{granted_none, none_granted, allowed}
use Rattle.theory.proofs.Reached.{Fit}
use Rattle.theory.proofs.Lists.{count_in}
use Rattle.theory.proofs.Operations.{store_here, load_here, touch_parts, saw_source, rivals_at, local_here}
use Rattle.theory.proofs.Placing.{Full, greedy_full}

module _ (L : ℕ → ℕ → Bool) (E : List Operation) (M : Model) where
  abbrev R : Rows
  R = M.order

  abbrev Refused : Call → Type 0
  Refused q = refusal E M q ≡ None → ⊥

  module _ (opn : M.state ≡ open') where
    module _ (all : AllByRecursion Refused (claim_tries E)) where
      parts : AllByRecursion Refused (close ∷ []) × AllByRecursion Refused (claims_b E) × AllByRecursion Refused (splits E)
      parts =
          let r = append_parts Refused ((close ∷ []) ++ claims E) (splits E) all in
          let s = append_parts Refused (close ∷ []) (claims E) r.0 in
          let t = append_parts Refused (claims_a E ++ claims_b E) (claims_c E) s.1 in
          (s.0, (append_parts Refused (claims_a E) (claims_b E) t.0).1, r.1)

      stands_of : (q : Call) → Refused q → AllByRecursion (λ a. a < length E) (named q) → (T (misshapen E q) → ⊥) → (T (acyclic_close R q) → ⊥) → T (premise E R q) → T (stands E R q)
      stands_of q r h m c p = elim (decided (stands E R q)) [ inl t ↦ t | inr f ↦ absurd (r (allowed E M opn q h m p f c)) ]

      acyclic : (x : ℕ) → T (before R x x) → ⊥
      acyclic x t =
          let h = before_in R x x t in
          below_all (λ y. T (before R y y) → ⊥) (length R)
          (none_any (λ y. before R y y) (range_with_len 0 (length R)) (λ c. parts.0.0 (allowed E M opn close tt (λ z. z) tt (λ z. z) (λ n. T_not (cyclic R) n c))))
          x h t

      rule_b : (l t : ℕ) → l < length E → t < length E → T (touches E t l) → T (before R (source E l) t) → T (before R l t)
      rule_b l t hl ht a b =
          stands_of (claim_b l t) (over_all (length E) Refused _ (over_all (length E) Refused _ parts.1 l hl) t ht).0 (hl, (ht, tt)) (λ z. z) (λ z. z)
          (both (touches E t l) (before R (source E l) t) a b)

      decided_up : (s t : ℕ) → s < t → t < length E → T (rivals E s t) → T (before R s t) ⊎ T (before R t s)
      decided_up s t l h r =
          let a = over_all (length E) Refused _ (over_all (length E) Refused _ parts.2 s (omega arith)) t h in
          let q : AllByRecursion Refused (split s t ∷ []) = subst (AllByRecursion Refused) (cond_yes (ltb s t) (split s t ∷ []) [] (lt→ltb s t l)) a in
          or_cases (before R s t) (before R t s) (stands_of (split s t) q.0 (omega arith, (h, tt)) (λ z. z) (λ z. z) r)

module _ (L : ℕ → ℕ → Bool) (E : List Operation) (lawful : LawfulOrder L E) (W : WellFormed E) (O : Rows) (says : Says E O (Opening L E)) (M : Model) (fit : Fit E O M) (opn : M.state ≡ open') where
  abbrev σ : List ℕ
  σ = greedy E M.order

  module _ (all : AllByRecursion (Refused L E M) (claim_tries E)) where
    full : Full E M.order σ
    full = greedy_full E M.order fit.order.settled.rows fit.order.settled.joins (acyclic L E M opn all)

    opened_before : (x y : ℕ) → Opening L E x y → T (before M.order x y)
    opened_before x y o = fit.order.grown x y ((says.1 x y).1 o)

    earlier : (x a : ℕ) → a < length E → T (before M.order x a) → place σ x < place σ a
    earlier x a h b = (full.placed.respects x a b (full.whole a h)).1

    unbroken : (l t : ℕ) → T (touches E t l) → place σ (source E l) < place σ t → place σ t < place σ l → ⊥
    unbroken l t c p q =
        elim (cases_order s t) [
          | inl e ↦ let z = ap (place σ) e in omega arith
          | inr (inl g) ↦ clash (decided_up L E M opn all s t g ht (rivals_at E s t l a c (λ e. omega arith)))
          | inr (inr g) ↦ clash (⊎_swap (decided_up L E M opn all t s g hs (rivals_at E t s l c a (λ e. omega arith))))
        ]
      where
        s : ℕ
        s = source E l

        load : T (load_at E l)
        load = (touch_parts E t l c).load

        a : T (touches E s l)
        a = W.sources l load

        hs : s < length E
        hs = store_here E s (touch_parts E s l a).store

        ht : t < length E
        ht = store_here E t (touch_parts E t l c).store

        clash : T (before M.order s t) ⊎ T (before M.order t s) → ⊥
        clash (inl b) = let k = earlier l t ht (rule_b L E M opn all l t (load_here E l load) ht c b) in omega arith
        clash (inr b) = let k = earlier t s hs b in omega arith

    serialization : Serialization L E σ
    serialization =
        record {
          all = full.long;
          once = λ a h. (let u = full.placed.once a in let v = count_in σ a (full.whole a h) in omega arith);
          in_order = λ a b t. earlier a b (local_here L E lawful a b t).1 (opened_before a b (given (or_left (L a b) (saw E b a) t)));
          from_source = λ l t. earlier (source E l) l (load_here E l t) (opened_before (source E l) l (given (or_right (L (source E l) l) (saw E l (source E l)) (saw_source E l t))));
          none_between = unbroken;
        }

    last_call : refusal E M (propose σ) ≡ None
    last_call = allowed E M opn (propose σ) full.placed.within
        (or_none _ _ (λ t. T_not (eqb (length σ) (length E)) t (eq-eqb _ _ full.long))
        (any_none (λ a. ltb 1 (count σ a)) σ
        (All-weaker (λ a. a < length E) (λ a. T (ltb 1 (count σ a)) → ⊥)
        (λ a _ t. let k = ltb→lt 1 (count σ a) t in let u = full.placed.once a in omega arith)
        σ full.placed.within)))
        tt (λ z. z) (λ z. z)

  all_are_claims : AllByRecursion (λ q. T (is_claim q)) (claim_tries E)
  all_are_claims =
      All-append (λ q. T (is_claim q)) ((close ∷ []) ++ claims E) (splits E)
      (tt, all_claims E (λ q. T (is_claim q)) (λ l s _ _. tt) (λ l s _ _. tt) (λ l k a b _ _ _ _. tt))
      (all_splits E (λ q. T (is_claim q)) (λ s t _ _. tt))

  abbrev may? : Call → Bool
  may? = may E M opn

  -- where every claim is refused, the order that the house proposes is a serialization, and is not refused
  pub last_order : first_by may? (claim_tries E) ≡ None → (refusal E M (propose σ) ≡ None) × Serialization L E σ
  last_order e =
      let all = All-weaker (λ q. T (may? q) → ⊥) (Refused L E M) (λ q n h. n (none_granted (refusal E M q) h)) (claim_tries E) (first_none may? (claim_tries E) e) in
      (last_call all, serialization all)

  by_first : (o : Option Call) → first_by may? (claim_tries E) ≡ o → (q : Call) × (M' : Model) × Turn L E M q M'
  by_first (Some q) e =
      let p = first_some may? (λ q. T (is_claim q)) (claim_tries E) q all_are_claims e in
      (q, after E M q, (first_left may? (claim_tries E) (propose σ ∷ []) q e, taken p.1 (granted_none (refusal E M q) p.0)))
  by_first None e =
      let last = last_order e in
      (propose σ, after E M (propose σ), (first_right may? (claim_tries E) (propose σ ∷ []) e ∙ ap (λ o. cond (granted o) (Some (propose σ)) None) last.0, proposed last.0 last.1))

  pub turn_of : (q : Call) × (M' : Model) × Turn L E M q M'
  turn_of = by_first (first_by may? (claim_tries E)) refl
