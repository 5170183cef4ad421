-- The order that the house proposes, where no operation is before itself: each operation once, after all that are before it.
use Rattle.std.proofs.Common.{◌≡◌, ℕ, zero, suc, ◌+◌, ◌<◌, ◌≤◌, Bool, not, ◌&&◌, T, eqb, List, [], ◌∷◌, ◌++◌, map, length, Some, None, Option, sym, refl, ap, ◌∙◌, subst, inl, inr, arith, eqb→eq, T_not}
use lib.Dec.{not_T}
use Rattle.std.specs.List.{AllByRecursion, range_with_len}
use Rattle.std.proofs.ByRecursion.{All-push}
use Rattle.std.proofs.lemmas.List.{length_push}
use Rattle.execution.specs.declared.operation.Operation.{Operation}
use Rattle.theory.specs.Lists.{any, place, count, member, first_by}
use Rattle.theory.specs.Order.{Rows, before}
use Rattle.theory.specs.Case.{ready, placing, greedy}
use Rattle.theory.proofs.Tests.{and_parts, both, decided, same_truth, cond_either}
use Rattle.theory.proofs.Firsts.{first_none, first_some}
use Rattle.theory.proofs.Ranges.{all_below, below_all, none_any, any_none}
use Rattle.theory.proofs.Recording.{Transitive, before_in}
use Rattle.theory.proofs.Lists.{member_left, member_last, member_push_cases, place_in, place_left, place_last, count_out, count_append}
use Rattle.theory.proofs.Tallies.{tally, tally_all, tally_zero, tally_none, tally_less, minimal}

either_way : {A : Type 0} (P : A → Type 0) (o : Option ℕ) (f : ℕ → A) (y : A) → ((a : ℕ) → o ≡ Some a → P (f a)) → (o ≡ None → P y) → P (elim o [ Some a ↦ f a | None ↦ y ])
either_way P (Some a) f y s n = s a refl
either_way P None f y s n = n refl

module _ (E : List Operation) (R : Rows) where
  pub record Placed (p : List ℕ) : Type 0 where
    pub within : AllByRecursion (λ a. a < length E) p
    pub once : (a : ℕ) → count p a ≤ 1
    pub respects : (x a : ℕ) → T (before R x a) → T (member a p) → T (member x p) × (place p x < place p a)

  pub record Full (p : List ℕ) : Type 0 where
    pub placed : Placed p
    pub long : length p ≡ length E
    pub whole : (a : ℕ) → a < length E → T (member a p)

module _ (E : List Operation) (R : Rows) (rows : length R ≡ length E) (tr : Transitive R) (irr : (x : ℕ) → T (before R x x) → ⊥) where
  abbrev free : List ℕ → ℕ → Bool
  free p x = not (member x p)

  ready_free : (p : List ℕ) (a : ℕ) → T (ready E R p a) → T (member a p) → ⊥
  ready_free p a t = T_not (member a p) (and_parts (free p a) _ t).0

  ready_after : (p : List ℕ) (a x : ℕ) → T (ready E R p a) → T (before R x a) → T (member x p)
  ready_after p a x t b =
      let late : ℕ → Bool = λ y. before R y a && free p y in
      let none = none_any late (range_with_len 0 (length E)) (T_not _ (and_parts (free p a) (not (any (map late (range_with_len 0 (length E))))) t).1) in
      let h = before_in R x a b in
      elim (decided (member x p)) [
        | inl m ↦ m
        | inr f ↦ absurd (below_all (λ y. T (late y) → ⊥) (length E) none x (omega arith) (both (before R x a) (free p x) b (not_T (member x p) f)))
      ]

  ready_from : (p : List ℕ) (a : ℕ) → (T (member a p) → ⊥) → ((x : ℕ) → T (before R x a) → T (free p x) → ⊥) → T (ready E R p a)
  ready_from p a m h =
      let late : ℕ → Bool = λ y. before R y a && free p y in
      both (free p a) (not (any (map late (range_with_len 0 (length E))))) (not_T (member a p) m)
      (not_T _ (any_none late (range_with_len 0 (length E)) (all_below (λ y. T (late y) → ⊥) (length E) (λ y _ t. let r = and_parts (before R y a) (free p y) t in h y r.0 r.1))))

  once_more : (p : List ℕ) (a x : ℕ) → count p x ≤ 1 → (T (member a p) → ⊥) → count (p ++ (a ∷ [])) x ≤ 1
  once_more p a x h m =
      let s = count_append p (a ∷ []) x in
      let here : T (eqb a x) → count p x ≡ 0 = λ e. ap (count p) (sym (eqb→eq a x e)) ∙ count_out p a m in
      subst (λ n. n ≤ 1) (sym s) (cond_either (λ n. count p x + n ≤ 1) (eqb a x) (1 + 0) 0 (λ e. let z = here e in omega arith) (λ _. omega arith))

  push : (p : List ℕ) (a : ℕ) → Placed E R p → a < length E → T (ready E R p a) → Placed E R (p ++ (a ∷ []))
  push p a w l t =
      record {
        within = All-push (λ x. x < length E) p a w.within l;
        once = λ x. once_more p a x (w.once x) (ready_free p a t);
        respects = λ x b s m. elim (member_push_cases p a b m) [
          | inl n ↦
              let r = w.respects x b s n in
              let h = place_left p (a ∷ []) x r.0 in
              let k = place_left p (a ∷ []) b n in
              (member_left p (a ∷ []) x r.0, omega arith)
          | inr e ↦
              let n = ready_after p a x t (subst (λ y. T (before R x y)) e s) in
              let h = place_left p (a ∷ []) x n in
              let i = place_in p x n in
              let k = ap (place (p ++ (a ∷ []))) e ∙ place_last p a (ready_free p a t) in
              (member_left p (a ∷ []) x n, omega arith)
        ];
      }

  fewer : (p : List ℕ) (a : ℕ) → a < length E → (T (member a p) → ⊥) → tally (free p) (length E) ≡ suc (tally (free (p ++ (a ∷ []))) (length E))
  fewer p a l m = tally_less (free p) (free (p ++ (a ∷ []))) a (λ x d. ap not (same_truth (member x p) (member x (p ++ (a ∷ []))) (member_left p (a ∷ []) x) (λ t. elim (member_push_cases p a x t) [ inl n ↦ n | inr e ↦ absurd (d e) ]))) (not_T (member a p) m) (λ t. T_not (member a (p ++ (a ∷ []))) t (member_last p a)) (length E) l

  placing_full : (k : ℕ) (p : List ℕ) → Placed E R p → tally (free p) (length E) ≡ k → length p + k ≡ length E → Full E R (placing E k R p)
  placing_full zero p w e l =
      record {
        placed = w;
        long = omega arith;
        whole = λ a h. elim (decided (member a p)) [ inl m ↦ m | inr f ↦ absurd (tally_none (free p) (length E) e a h (not_T (member a p) f)) ];
      }
  placing_full (suc k) p w e l =
      either_way (Full E R) (first_by (ready E R p) (range_with_len 0 (length E))) (λ a. placing E k R (p ++ (a ∷ []))) p
      (λ a o. let r = first_some (ready E R p) (λ x. x < length E) (range_with_len 0 (length E)) a (all_below (λ x. x < length E) (length E) (λ x h. h)) o in
      placing_full k (p ++ (a ∷ [])) (push p a w r.1 r.0) (let s = fewer p a r.1 (ready_free p a r.0) in omega arith) (let s = length_push p a in omega arith))
      (λ o. absurd (elim (minimal R tr irr (free p) (length E)) [
        | inl n ↦ let z = tally_zero (free p) (length E) n in omega arith
        | inr s ↦
            below_all (λ x. T (ready E R p x) → ⊥) (length E) (first_none (ready E R p) (range_with_len 0 (length E)) o) s.0 s.1
            (ready_from p s.0 (T_not (member s.0 p) s.2) (λ x b v. s.3 x (let h = before_in R x s.0 b in omega arith) v b))
      ]))

  pub greedy_full : Full E R (greedy E R)
  greedy_full = placing_full (length E) [] (record { within = tt; once = λ a. omega arith; respects = λ x a b m. absurd m }) (tally_all (free []) (length E) (λ x. tt)) (omega arith)
