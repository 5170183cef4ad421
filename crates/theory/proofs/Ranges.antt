-- What holds of each element of the lists that a case is made of.
use Rattle.std.proofs.Common.{ℕ, zero, suc, ◌+◌, ◌<◌, ◌≤◌, Bool, not, T, List, [], ◌∷◌, ◌++◌, map, subst, inl, inr, arith, T_not}
use lib.Dec.{not_T}
use Rattle.std.specs.List.{AllByRecursion, range_with_len}
use Rattle.std.proofs.ByRecursion.{All-append}
use Rattle.std.proofs.lemmas.Bool.{cases_eq}
use Rattle.theory.specs.Lists.{join, over, any, every}
use Rattle.theory.proofs.Tests.{or_left, or_right, or_none, not_not}

all_from : (P : ℕ → Type 0) (i k : ℕ) → ((x : ℕ) → i ≤ x → x < i + k → P x) → AllByRecursion P (range_with_len i k)
all_from P i zero f = tt
all_from P i (suc k) f = (f i (omega arith) (omega arith), all_from P (i + 1) k (λ x h g. f x (omega arith) (omega arith)))

from_all : (P : ℕ → Type 0) (i k : ℕ) → AllByRecursion P (range_with_len i k) → (x : ℕ) → i ≤ x → x < i + k → P x
from_all P i zero a x h g = absurd (omega arith)
from_all P i (suc k) a x h g = elim (cases_eq i x) [ inl e ↦ subst P e a.0 | inr d ↦ from_all P (i + 1) k a.1 x (omega arith) (omega arith) ]

pub all_below : (P : ℕ → Type 0) (n : ℕ) → ((x : ℕ) → x < n → P x) → AllByRecursion P (range_with_len 0 n)
all_below P n f = all_from P 0 n (λ x _ h. f x (omega arith))

pub below_all : (P : ℕ → Type 0) (n : ℕ) → AllByRecursion P (range_with_len 0 n) → (x : ℕ) → x < n → P x
below_all P n a x h = from_all P 0 n a x (omega arith) (omega arith)

module _ {A : Type 0} where
  pub append_parts : (P : A → Type 0) (xs ys : List A) → AllByRecursion P (xs ++ ys) → AllByRecursion P xs × AllByRecursion P ys
  append_parts P [] ys a = (tt, a)
  append_parts P (x ∷ xs) ys a = let r = append_parts P xs ys a.1 in ((a.0, r.0), r.1)

  pub any_none : (f : A → Bool) (xs : List A) → AllByRecursion (λ x. T (f x) → ⊥) xs → T (any (map f xs)) → ⊥
  any_none f [] a t = t
  any_none f (x ∷ xs) a t = or_none (f x) (any (map f xs)) a.0 (any_none f xs a.1) t

  pub none_any : (f : A → Bool) (xs : List A) → (T (any (map f xs)) → ⊥) → AllByRecursion (λ x. T (f x) → ⊥) xs
  none_any f [] h = tt
  none_any f (x ∷ xs) h = (λ t. h (or_left (f x) (any (map f xs)) t), none_any f xs (λ t. h (or_right (f x) (any (map f xs)) t)))

  all_join : (P : A → Type 0) (f : ℕ → List A) (xs : List ℕ) → AllByRecursion (λ x. AllByRecursion P (f x)) xs → AllByRecursion P (join (map f xs))
  all_join P f [] a = tt
  all_join P f (x ∷ xs) a = All-append P (f x) (join (map f xs)) a.0 (all_join P f xs a.1)

  join_all : (P : A → Type 0) (f : ℕ → List A) (xs : List ℕ) → AllByRecursion P (join (map f xs)) → AllByRecursion (λ x. AllByRecursion P (f x)) xs
  join_all P f [] a = tt
  join_all P f (x ∷ xs) a = let r = append_parts P (f x) (join (map f xs)) a in (r.0, join_all P f xs r.1)

  pub all_over : (n : ℕ) (P : A → Type 0) (f : ℕ → List A) → ((x : ℕ) → x < n → AllByRecursion P (f x)) → AllByRecursion P (over n f)
  all_over n P f h = all_join P f (range_with_len 0 n) (all_below (λ x. AllByRecursion P (f x)) n h)

  pub over_all : (n : ℕ) (P : A → Type 0) (f : ℕ → List A) → AllByRecursion P (over n f) → (x : ℕ) → x < n → AllByRecursion P (f x)
  over_all n P f a = below_all (λ x. AllByRecursion P (f x)) n (join_all P f (range_with_len 0 n) a)

pub every_at : (n : ℕ) (f : ℕ → Bool) → T (every n f) → (x : ℕ) → x < n → T (f x)
every_at n f t x h =
    let g : ℕ → Bool = λ x. not (f x) in
    not_not (f x) (not_T (g x) (below_all (λ x. T (g x) → ⊥) n (none_any g (range_with_len 0 n) (T_not (any (map g (range_with_len 0 n))) t)) x h))

pub at_every : (n : ℕ) (f : ℕ → Bool) → ((x : ℕ) → x < n → T (f x)) → T (every n f)
at_every n f h =
    let g : ℕ → Bool = λ x. not (f x) in
    not_T (any (map g (range_with_len 0 n))) (any_none g (range_with_len 0 n) (all_below (λ x. T (g x) → ⊥) n (λ x l t. T_not (f x) t (h x l))))
