-- Sums over the numbers below a bound, compared place by place.
use Rattle.std.proofs.Common.{◌≡◌, ℕ, zero, suc, ◌+◌, ◌*◌, ◌<◌, ◌≤◌, List, [], ◌∷◌, map, length, get_or, fold, sum_by, sym, refl, ap, ◌∙◌, ap₂, inl, inr, zero-le, le_refl, add_assoc, suc-mul, zero-add, add-one, arith}
use Rattle.std.proofs.lemmas.Bool.{cases_eq, cases_lt}
use Rattle.std.specs.List.{range_with_len}

-- the numbers together
abbrev pub sum : List ℕ → ℕ
sum [] = 0
sum (x ∷ xs) = x + sum xs

-- what f gives at the numbers from i on, k of them, together
abbrev pub from : ℕ → ℕ → (ℕ → ℕ) → ℕ
from i k f = sum (map f (range_with_len i k))

pub map_same : {A B : Type 0} (f g : A → B) → ((x : A) → f x ≡ g x) → (xs : List A) → map f xs ≡ map g xs
map_same f g h [] = refl
map_same f g h (x ∷ xs) = ap₂ (λ y ys. y ∷ ys) (h x) (map_same f g h xs)

pub map_shift : {B : Type 0} (f : ℕ → B) (i k : ℕ) → map f (range_with_len (i + 1) k) ≡ map (λ x. f (suc x)) (range_with_len i k)
map_shift f i zero = refl
map_shift f i (suc k) = ap₂ (λ y ys. f y ∷ ys) (add-one i) (map_shift f (i + 1) k)

pub map_get_or : {B : Type 0} (f : ℕ → B) (R : List ℕ) → map f R ≡ map (λ x. f (get_or R x 0)) (range_with_len 0 (length R))
map_get_or f [] = refl
map_get_or f (r ∷ R) = ap (λ ys. f r ∷ ys) (map_get_or f R ∙ sym (map_shift (λ x. f (get_or (r ∷ R) x 0)) 0 (length R)))

pub length_upto : {B : Type 0} (f : ℕ → B) (i k : ℕ) → length (map f (range_with_len i k)) ≡ k
length_upto f i zero = refl
length_upto f i (suc k) = ap suc (length_upto f (i + 1) k)

pub get_or_upto : (f : ℕ → ℕ) (i k x : ℕ) → x < k → get_or (map f (range_with_len i k)) x 0 ≡ f (i + x)
get_or_upto f i zero x h = absurd (omega arith)
get_or_upto f i (suc k) zero h = ap f (omega arith)
get_or_upto f i (suc k) (suc x) h = get_or_upto f (i + 1) k x (omega arith) ∙ ap f (omega arith)

-- what holds of f everywhere holds of map entry
pub get_or_map_all : {A B : Type 0} (P : B → Type 0) (f : A → B) (d : B) → ((x : A) → P (f x)) → P d → (xs : List A) (i : ℕ) → P (get_or (map f xs) i d)
get_or_map_all P f d h z [] i = z
get_or_map_all P f d h z (x ∷ xs) zero = h x
get_or_map_all P f d h z (x ∷ xs) (suc i) = get_or_map_all P f d h z xs i

folded_sum : {A : Type 0} (f : A → ℕ) (a : ℕ) (xs : List A) → fold (λ b x. b + f x) a xs ≡ a + sum (map f xs)
folded_sum f a [] = omega arith
folded_sum f a (x ∷ xs) = folded_sum f (a + f x) xs ∙ add_assoc a (f x) (sum (map f xs))

pub sum_by_is : {A : Type 0} (f : A → ℕ) (xs : List A) → sum_by f xs ≡ sum (map f xs)
sum_by_is f xs = folded_sum f 0 xs ∙ zero-add (sum (map f xs))

pub from_mono : (f g : ℕ → ℕ) (i k : ℕ) → ((x : ℕ) → i ≤ x → x < i + k → f x ≤ g x) → from i k f ≤ from i k g
from_mono f g i zero h = le_refl 0
from_mono f g i (suc k) h =
    let here : f i ≤ g i = h i (omega arith) (omega arith) in
    let rest = from_mono f g (i + 1) k (λ x p q. h x (omega arith) (omega arith)) in
    omega arith

pub from_strict : (f g : ℕ → ℕ) (i k : ℕ) → ((x : ℕ) → i ≤ x → x < i + k → f x ≤ g x) → (x : ℕ) → i ≤ x → x < i + k → f x < g x → from i k f < from i k g
from_strict f g i zero h x p q l = absurd (omega arith)
from_strict f g i (suc k) h x p q l =
    let here : f i ≤ g i = h i (omega arith) (omega arith) in
    let more : (y : ℕ) → i + 1 ≤ y → y < (i + 1) + k → f y ≤ g y = λ y r s. h y (omega arith) (omega arith) in
    elim (cases_eq x i) [
      | inl e ↦
          let first : f i < g i = rw e at l in
          let rest = from_mono f g (i + 1) k more in
          omega arith
      | inr e ↦
          let rest = from_strict f g (i + 1) k more x (omega arith) (omega arith) l in
          omega arith
    ]

pub from_below : (f : ℕ → ℕ) (m i k : ℕ) → ((x : ℕ) → f x ≤ m) → from i k f ≤ k * m
from_below f m i zero h = zero-le
from_below f m i (suc k) h =
    let here = h i in
    let rest = from_below f m (i + 1) k h in
    rw suc-mul (omega arith)

-- of at most one map, and none up to s
pub from_past : (f : ℕ → ℕ) (s i k : ℕ) → ((x : ℕ) → f x ≤ 1) → ((x : ℕ) → x ≤ s → f x ≡ 0) → i ≤ s + 1 → s < i + k → from i k f + (s + 1) ≤ i + k
from_past f s i zero h z p q = omega arith
from_past f s i (suc k) h z p q =
    elim (cases_lt s i) [
      | inl l ↦
          let here = h i in
          let rest : from (i + 1) k f ≤ k * 1 = from_below f 1 (i + 1) k h in
          omega arith
      | inr l ↦
          let here = z i l in
          let rest = from_past f s (i + 1) k h z (omega arith) (omega arith) in
          omega arith
    ]

-- 0 + 1 + .. up to k - 1
abbrev pub triangle : ℕ → ℕ
triangle zero = 0
triangle (suc k) = k + triangle k

pub triangle_mono : (j k : ℕ) → j ≤ k → triangle j ≤ triangle k
triangle_mono zero k h = zero-le
triangle_mono (suc j) zero h = absurd (omega arith)
triangle_mono (suc j) (suc k) h =
    let rest = triangle_mono j k (omega arith) in
    omega arith

pub from_falling : (f : ℕ → ℕ) (i k : ℕ) → ((x : ℕ) → i ≤ x → x < i + k → f x + (x + 1) ≤ i + k) → from i k f ≤ triangle k
from_falling f i zero h = le_refl 0
from_falling f i (suc k) h =
    let here = h i (omega arith) (omega arith) in
    let rest = from_falling f (i + 1) k (λ x p q. let l = h x (omega arith) (omega arith) in omega arith) in
    omega arith
