-- Where a number stands in a list, and how often.
use Rattle.std.proofs.Common.{◌≡◌, ℕ, zero, suc, ◌+◌, ◌<◌, ◌≤◌, Bool, true, false, cond, T, eqb, ◌≢◌, ◌⊎◌, List, [], ◌∷◌, ◌++◌, length, sym, refl, ap, ◌∙◌, inl, inr, arith, eqb→eq}
use lib.Dec.{eqb_refl}
use Rattle.std.proofs.lemmas.Bool.{eqb-true, eqb-false, cases_order}
use Rattle.std.specs.List.{range_with_len}
use Rattle.theory.specs.Lists.{place, count, member}
use Rattle.theory.proofs.Tests.{or_left, or_right, or_cases, or_else, cond_either, cond_two}

pub member_left : (p q : List ℕ) (a : ℕ) → T (member a p) → T (member a (p ++ q))
member_left [] q a t = absurd t
member_left (x ∷ p) q a t =
    elim (or_cases (eqb x a) (member a p) t) [ inl e ↦ or_left (eqb x a) (member a (p ++ q)) e | inr s ↦ or_right (eqb x a) (member a (p ++ q)) (member_left p q a s) ]

pub member_last : (p : List ℕ) (a : ℕ) → T (member a (p ++ (a ∷ [])))
member_last [] a = or_left (eqb a a) false (eqb_refl a)
member_last (x ∷ p) a = or_right (eqb x a) (member a (p ++ (a ∷ []))) (member_last p a)

pub member_push_cases : (p : List ℕ) (a x : ℕ) → T (member x (p ++ (a ∷ []))) → T (member x p) ⊎ (x ≡ a)
member_push_cases [] a x t = elim (or_cases (eqb a x) false t) [ inl e ↦ inr (sym (eqb→eq a x e)) | inr s ↦ absurd s ]
member_push_cases (y ∷ p) a x t =
    elim (or_cases (eqb y x) (member x (p ++ (a ∷ []))) t) [
      | inl e ↦ inl (or_left (eqb y x) (member x p) e)
      | inr s ↦ elim (member_push_cases p a x s) [ inl m ↦ inl (or_right (eqb y x) (member x p) m) | inr e ↦ inr e ]
    ]

pub place_in : (p : List ℕ) (a : ℕ) → T (member a p) → place p a < length p
place_in [] a t = absurd t
place_in (x ∷ p) a t =
    cond_either (λ n. n < suc (length p)) (eqb x a) 0 (1 + place p a) (λ _. omega arith) (λ f. let h = place_in p a (or_else (eqb x a) (member a p) f t) in omega arith)

pub place_left : (p q : List ℕ) (a : ℕ) → T (member a p) → place (p ++ q) a ≡ place p a
place_left [] q a t = absurd t
place_left (x ∷ p) q a t =
    cond_two (λ m n. m ≡ n) (eqb x a) 0 (1 + place (p ++ q) a) 0 (1 + place p a) (λ _. refl) (λ f. ap (λ n. 1 + n) (place_left p q a (or_else (eqb x a) (member a p) f t)))

pub place_last : (p : List ℕ) (a : ℕ) → (T (member a p) → ⊥) → place (p ++ (a ∷ [])) a ≡ length p
place_last [] a h = cond_either (λ n. n ≡ 0) (eqb a a) 0 1 (λ _. refl) (λ f. absurd (f (eqb_refl a)))
place_last (x ∷ p) a h =
    cond_either (λ n. n ≡ suc (length p)) (eqb x a) 0 (1 + place (p ++ (a ∷ [])) a) (λ s. absurd (h (or_left (eqb x a) (member a p) s)))
    (λ _. let e = place_last p a (λ t. h (or_right (eqb x a) (member a p) t)) in omega arith)

pub count_out : (p : List ℕ) (a : ℕ) → (T (member a p) → ⊥) → count p a ≡ 0
count_out [] a h = refl
count_out (x ∷ p) a h =
    cond_either (λ n. n ≡ 0) (eqb x a) (1 + count p a) (count p a) (λ s. absurd (h (or_left (eqb x a) (member a p) s))) (λ _. count_out p a (λ t. h (or_right (eqb x a) (member a p) t)))

pub count_in : (p : List ℕ) (a : ℕ) → T (member a p) → 1 ≤ count p a
count_in [] a t = absurd t
count_in (x ∷ p) a t =
    cond_either (λ n. 1 ≤ n) (eqb x a) (1 + count p a) (count p a) (λ _. omega arith) (λ f. count_in p a (or_else (eqb x a) (member a p) f t))

pub count_append : (p q : List ℕ) (a : ℕ) → count (p ++ q) a ≡ count p a + count q a
count_append [] q a = omega arith
count_append (x ∷ p) q a =
    let e = count_append p q a in
    cond_two (λ m n. m ≡ n + count q a) (eqb x a) (1 + count (p ++ q) a) (count (p ++ q) a) (1 + count p a) (count p a) (λ _. omega arith) (λ _. e)

-- what stands in a list stands at its place
one_place : (σ : List ℕ) (a b : ℕ) → 0 < count σ a → place σ a ≡ place σ b → a ≡ b
one_place [] a b h e = absurd (omega arith)
one_place (x ∷ σ) a b h e = go (eqb x a) (eqb x b) refl refl (one_place σ a b) h e
  where
    go : (p q : Bool) → eqb x a ≡ p → eqb x b ≡ q → (0 < count σ a → place σ a ≡ place σ b → a ≡ b)
        → 0 < cond p (1 + count σ a) (count σ a)
        → cond p 0 (1 + place σ a) ≡ cond q 0 (1 + place σ b)
        → a ≡ b
    go true true i j r h e = sym (eqb-true x a i) ∙ eqb-true x b j
    go true false i j r h e = absurd (omega arith)
    go false true i j r h e = absurd (omega arith)
    go false false i j r h e = r h (omega arith)

pub placed_apart : (σ : List ℕ) (a b : ℕ) → count σ a ≡ 1 → a ≢ b → (place σ a < place σ b) ⊎ (place σ b < place σ a)
placed_apart σ a b c d = elim (cases_order (place σ a) (place σ b)) [ inl e ↦ absurd (d (one_place σ a b (omega arith) e)) | inr o ↦ o ]

-- the order of the numbers themselves
pub place_upto : (i n a : ℕ) → i ≤ a → a < i + n → i + place (range_with_len i n) a ≡ a
place_upto i zero a h k = absurd (omega arith)
place_upto i (suc n) a h k = go (eqb i a) refl (place_upto (i + 1) n a)
  where
    go : (p : Bool) → eqb i a ≡ p → (i + 1 ≤ a → a < i + 1 + n → i + 1 + place (range_with_len (i + 1) n) a ≡ a)
        → i + cond p 0 (1 + place (range_with_len (i + 1) n) a) ≡ a
    go true e r = omega (arith, eqb-true i a e)
    go false e r = let d : i ≢ a = eqb-false i a e in omega (arith, r (omega arith) (omega arith))

count_below : (i n a : ℕ) → a < i → count (range_with_len i n) a ≡ 0
count_below i zero a h = refl
count_below i (suc n) a h = go (eqb i a) refl (count_below (i + 1) n a (omega arith))
  where
    go : (p : Bool) → eqb i a ≡ p → count (range_with_len (i + 1) n) a ≡ 0
        → cond p (1 + count (range_with_len (i + 1) n) a) (count (range_with_len (i + 1) n) a) ≡ 0
    go true e r = absurd (omega (arith, eqb-true i a e))
    go false e r = r

pub count_upto : (i n a : ℕ) → i ≤ a → a < i + n → count (range_with_len i n) a ≡ 1
count_upto i zero a h k = absurd (omega arith)
count_upto i (suc n) a h k = go (eqb i a) refl (count_upto (i + 1) n a)
  where
    go : (p : Bool) → eqb i a ≡ p → (i + 1 ≤ a → a < i + 1 + n → count (range_with_len (i + 1) n) a ≡ 1)
        → cond p (1 + count (range_with_len (i + 1) n) a) (count (range_with_len (i + 1) n) a) ≡ 1
    go true e r = omega (arith, count_below (i + 1) n a (omega (arith, eqb-true i a e)))
    go false e r = let d : i ≢ a = eqb-false i a e in r (omega arith) (omega arith)
