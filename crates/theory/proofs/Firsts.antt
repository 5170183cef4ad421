-- The first of a list that passes a test.
use Rattle.std.proofs.Common.{◌≡◌, ℕ, zero, suc, ◌+◌, ◌<◌, ◌≤◌, Bool, true, false, cond, T, List, [], ◌∷◌, ◌++◌, map, Some, None, refl, ap, ◌∙◌, subst, inl, inr, arith}
use Rattle.std.specs.List.{range_with_len, AllByRecursion}
use Rattle.std.proofs.lemmas.Bool.{cases_eq}
use Rattle.theory.specs.Lists.{join, over, first_by}
use Rattle.theory.proofs.Tests.{cond_cases, cond_no, some_none, same_some}

module _ {A : Type 0} (f : A → Bool) where
  abbrev pub Fails : List A → Type 0
  Fails xs = AllByRecursion (λ x. T (f x) → ⊥) xs

  pub first_none : (xs : List A) → first_by f xs ≡ None → Fails xs
  first_none [] e = tt
  first_none (x ∷ xs) e = elim (cond_cases (λ o. o ≡ None) (f x) (Some x) (first_by f xs) e) [ inl s ↦ absurd (some_none s.1 refl) | inr s ↦ (s.0, first_none xs s.1) ]

  pub none_first : (xs : List A) → Fails xs → first_by f xs ≡ None
  none_first [] h = refl
  none_first (x ∷ xs) h = cond_no (f x) (Some x) (first_by f xs) h.0 ∙ none_first xs h.1

  -- the first passes, and has what all have
  pub first_some : (P : A → Type 0) (xs : List A) (a : A) → AllByRecursion P xs → first_by f xs ≡ Some a → T (f a) × P a
  first_some P [] a h e = absurd (some_none refl e)
  first_some P (x ∷ xs) a h e =
      elim (cond_cases (λ o. o ≡ Some a) (f x) (Some x) (first_by f xs) e) [
        | inl s ↦ let q = same_some refl s.1 in (subst (λ y. T (f y)) q s.0, subst P q h.0)
        | inr s ↦ first_some P xs a h.1 s.1
      ]

  pub first_left : (xs ys : List A) (a : A) → first_by f xs ≡ Some a → first_by f (xs ++ ys) ≡ Some a
  first_left [] ys a e = absurd (some_none refl e)
  first_left (x ∷ xs) ys a e = go (f x) (first_left xs ys a) e
    where
      go : (b : Bool) → (first_by f xs ≡ Some a → first_by f (xs ++ ys) ≡ Some a) → cond b (Some x) (first_by f xs) ≡ Some a → cond b (Some x) (first_by f (xs ++ ys)) ≡ Some a
      go true r e = e
      go false r e = r e

  pub first_right : (xs ys : List A) → first_by f xs ≡ None → first_by f (xs ++ ys) ≡ first_by f ys
  first_right [] ys e = refl
  first_right (x ∷ xs) ys e = go (f x) (first_right xs ys) e
    where
      go : (b : Bool) → (first_by f xs ≡ None → first_by f (xs ++ ys) ≡ first_by f ys) → cond b (Some x) (first_by f xs) ≡ None → cond b (Some x) (first_by f (xs ++ ys)) ≡ first_by f ys
      go true r e = absurd (some_none e refl)
      go false r e = r e

  from_none : (g : ℕ → List A) (i k : ℕ) → ((x : ℕ) → i ≤ x → x < i + k → first_by f (g x) ≡ None) → first_by f (join (map g (range_with_len i k))) ≡ None
  from_none g i zero h = refl
  from_none g i (suc k) h = first_right (g i) _ (h i (omega arith) (omega arith)) ∙ from_none g (i + 1) k (λ x l m. h x (omega arith) (omega arith))

  from_some : (g : ℕ → List A) (i k j : ℕ) (a : A) → i ≤ j → j < i + k → ((x : ℕ) → i ≤ x → x < j → first_by f (g x) ≡ None) → first_by f (g j) ≡ Some a → first_by f (join (map g (range_with_len i k))) ≡ Some a
  from_some g i zero j a l m h e = absurd (omega arith)
  from_some g i (suc k) j a l m h e =
      elim (cases_eq i j) [
        | inl p ↦ first_left (g i) _ a (ap (λ z. first_by f (g z)) p ∙ e)
        | inr d ↦ first_right (g i) _ (h i (omega arith) (omega arith)) ∙ from_some g (i + 1) k j a (omega arith) (omega arith) (λ x u v. h x (omega arith) (omega arith)) e
      ]

  -- a scan by a loop is a scan of the list: none, or the first at the place j
  pub over_none : (n : ℕ) (g : ℕ → List A) → ((x : ℕ) → x < n → first_by f (g x) ≡ None) → first_by f (over n g) ≡ None
  over_none n g h = from_none g 0 n (λ x _ l. h x (omega arith))

  pub first_over : (n : ℕ) (g : ℕ → List A) (j : ℕ) (a : A) → j < n → ((x : ℕ) → x < j → first_by f (g x) ≡ None) → first_by f (g j) ≡ Some a → first_by f (over n g) ≡ Some a
  first_over n g j a l h e = from_some g 0 n j a (omega arith) (omega arith) (λ x _ m. h x m) e
