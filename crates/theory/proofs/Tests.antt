-- Tests as types.
use Rattle.std.proofs.Common.{◌≡◌, ℕ, ◌<◌, ◌≤◌, Bool, true, false, cond, not, ◌&&◌, ◌||◌, T, eqb, ◌≢◌, ◌⊎◌, Some, None, Option, refl, subst, inl, inr, le_refl, arith, T_not}
use lib.Dec.{eqb_refl}

pub and_parts : (a b : Bool) → T (a && b) → T a × T b
and_parts true b t = (tt, t)
and_parts false b t = absurd t

pub three : (a b c : Bool) → T (a && b && c) → T a × T b × T c
three a b c t = let p = and_parts (a && b) c t in let q = and_parts a b p.0 in (q.0, q.1, p.1)

pub four : (a b c d : Bool) → T (a && b && c && d) → T a × T b × T c × T d
four a b c d t = let p = and_parts (a && b && c) d t in let q = three a b c p.0 in (q.0, q.1, q.2, p.1)

pub six : (a b c d e f : Bool) → T (a && b && c && d && e && f) → T a × T b × T c × T d × T e × T f
six a b c d e f t =
    let p = and_parts (a && b && c && d && e) f t in
    let q = and_parts (a && b && c && d) e p.0 in
    let r = four a b c d q.0 in
    (r.0, r.1, r.2, r.3, q.1, p.1)

pub eight : (a b c d e f g h : Bool) → T (a && b && c && d && e && f && g && h) → T a × T b × T c × T d × T e × T f × T g × T h
eight a b c d e f g h t =
    let p = and_parts (a && b && c && d && e && f && g) h t in
    let q = and_parts (a && b && c && d && e && f) g p.0 in
    let r = six a b c d e f q.0 in
    (r.0, r.1, r.2, r.3, r.4, r.5, q.1, p.1)

pub both : (a b : Bool) → T a → T b → T (a && b)
both true b s t = t
both false b s t = s

pub or_cases : (a b : Bool) → T (a || b) → T a ⊎ T b
or_cases true b t = inl tt
or_cases false b t = inr t

pub or_left : (a b : Bool) → T a → T (a || b)
or_left true b t = tt
or_left false b t = absurd t

pub or_right : (a b : Bool) → T b → T (a || b)
or_right true b t = tt
or_right false b t = t

pub or_none : (a b : Bool) → (T a → ⊥) → (T b → ⊥) → T (a || b) → ⊥
or_none true b f g t = f t
or_none false b f g t = g t

pub or_else : (a b : Bool) → (T a → ⊥) → T (a || b) → T b
or_else true b f t = absurd (f tt)
or_else false b f t = t

pub not_or : (a b : Bool) → T (not (a || b)) → T (not a) × T (not b)
not_or true b t = absurd t
not_or false b t = (tt, t)

pub not_not : (b : Bool) → T (not (not b)) → T b
not_not true t = tt
not_not false t = absurd t

pub not_mono : (a b : Bool) → (T a → T b) → T (not b) → T (not a)
not_mono true b h k = absurd (T_not b k (h tt))
not_mono false b h k = tt

pub if_then : (a b : Bool) → T (not a || b) → T a → T b
if_then true b t s = t
if_then false b t s = absurd s

pub then_if : (a b : Bool) → (T a → T b) → T (not a || b)
then_if true b f = f tt
then_if false b f = tt

pub decided : (b : Bool) → T b ⊎ (T b → ⊥)
decided true = inl tt
decided false = inr (λ t. t)

pub same_truth : (a b : Bool) → (T a → T b) → (T b → T a) → a ≡ b
same_truth true true f g = refl
same_truth true false f g = absurd (f tt)
same_truth false true f g = absurd (g tt)
same_truth false false f g = refl

pub eq-eqb : (m n : ℕ) → m ≡ n → T (eqb m n)
eq-eqb m n e = subst (λ x. T (eqb m x)) e (eqb_refl m)

pub apart : (m n : ℕ) → T (not (eqb m n)) → m ≢ n
apart m n h e = T_not (eqb m n) h (eq-eqb m n e)

module _ {A : Type 0} where
  pub cond_no : (b : Bool) (x y : A) → (T b → ⊥) → cond b x y ≡ y
  cond_no true x y f = absurd (f tt)
  cond_no false x y f = refl

  pub cond_yes : (b : Bool) (x y : A) → T b → cond b x y ≡ x
  cond_yes true x y t = refl
  cond_yes false x y t = absurd t

  pub cond_cases : (P : A → Type 0) (b : Bool) (x y : A) → P (cond b x y) → (T b × P x) ⊎ ((T b → ⊥) × P y)
  cond_cases P true x y p = inl (tt, p)
  cond_cases P false x y p = inr ((λ t. t), p)

  pub cond_either : (P : A → Type 0) (b : Bool) (x y : A) → (T b → P x) → ((T b → ⊥) → P y) → P (cond b x y)
  cond_either P true x y f g = f tt
  cond_either P false x y f g = g (λ t. t)

  pub cond_two : (P : A → A → Type 0) (b : Bool) (x y x' y' : A) → (T b → P x x') → ((T b → ⊥) → P y y') → P (cond b x y) (cond b x' y')
  cond_two P true x y x' y' f g = f tt
  cond_two P false x y x' y' f g = g (λ t. t)

pub cond_mono : (a b : Bool) → (T a → T b) → cond {A = ℕ} a 1 0 ≤ cond b 1 0
cond_mono true true h = le_refl 1
cond_mono true false h = absurd (h tt)
cond_mono false true h = omega arith
cond_mono false false h = le_refl 0

pub cond_strict : (a b : Bool) → (T a → ⊥) → T b → cond {A = ℕ} a 1 0 < cond b 1 0
cond_strict true b h k = absurd (h tt)
cond_strict false true h k = le_refl 1
cond_strict false false h k = absurd k

pub some_none : {A : Type 0} {o : Option A} {k : A} → o ≡ None → o ≡ Some k → ⊥
some_none e f = let z : ◌≡◌ {A = ℕ} 0 1 = cc in omega arith

pub same_some : {A : Type 0} {o : Option A} {j k : A} → o ≡ Some j → o ≡ Some k → j ≡ k
same_some e f = cc
