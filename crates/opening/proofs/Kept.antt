-- The rows of the local order, bit by bit.
use Rattle.std.proofs.Common.{◌≡◌, ℕ, zero, suc, ◌+◌, ◌*◌, ◌/◌, ◌%◌, ◌^◌, ◌<◌, ◌≤◌, ◌≢◌, Bool, true, false, ◌&&◌, ◌||◌, T, eqb, ltb, List, ◌∷◌, cond, filter, fold, length, get_or, set, take, replicate, sym, refl, ap, ◌∙◌, subst, inl, inr, pow-suc, arith, eqb→eq, ltb→lt, lt→ltb}
use lib.Bits.{bit_or}
use lib.Dec.{eqb-zero-suc, eqb-suc-zero, eqb-suc-suc}
use Rattle.std.specs.List.{range_with_len}
use Rattle.std.proofs.lemmas.Nat.{one_shl}
use Rattle.std.proofs.lemmas.List.{get_or_past, get_or-replicate, length-replicate, length-take-le, get_or-set_same, get_or-set_other}
use Rattle.std.proofs.lemmas.Bool.{cases_eq, cases_lt, le-ltb}
use Rattle.execution.specs.declared.operation.Operation.{Operation}
use Rattle.rulebook.specs.declared.seen.Seen.{Seen}
use Rattle.rulebook.specs.Books.{Law}
use Rattle.theory.specs.Order.{before}
use Rattle.theory.specs.Serial.{local}
use Rattle.theory.proofs.Tests.{and_parts, both, or_cases, or_left, or_right, same_truth, eq-eqb}
use Rattle.theory.proofs.Operations.{lawful, local_here}
use Rattle.theory.proofs.Cut.{cut_before}
use Rattle.order.specs.Bits.{bit}
use Rattle.order.proofs.Bitwise.{bit-or, bit_zero, bit_suc, bit_none}

pub bit_one : (b y : ℕ) → bit (2 ^ b) y ≡ eqb y b
bit_one zero zero = refl
bit_one zero (suc y) = bit_suc 1 y ∙ bit_none y ∙ sym (eqb-suc-zero y)
bit_one (suc b) zero = let even : 2 ^ suc b % 2 ≡ 0 = omega (arith, pow-suc 2 b) in bit_zero (2 ^ suc b) ∙ ap (λ v. eqb v 1) even ∙ sym (eqb-zero-suc b)
bit_one (suc b) (suc y) = let half : 2 ^ suc b / 2 ≡ 2 ^ b = omega (arith, pow-suc 2 b) in bit_suc (2 ^ suc b) y ∙ ap (λ v. bit v y) half ∙ bit_one b y ∙ sym (eqb-suc-suc y b)

-- a row with the numbers below b that pass f
module _ (f : ℕ → Bool) (row b : ℕ) (inv : (y : ℕ) → bit row y ≡ (ltb y b && f y)) where
  old : (y : ℕ) → T (bit row y) → (y < b) × T (f y)
  old y t = let p = and_parts (ltb y b) (f y) (subst T (inv y) t) in (ltb→lt y b p.0, p.1)

  kept : (y : ℕ) → y < b → T (f y) → T (bit row y)
  kept y h t = subst T (sym (inv y)) (both (ltb y b) (f y) (lt→ltb y b h) t)

  wider : (y : ℕ) → y < b + 1 → T (f y) → T (ltb y (b + 1) && f y)
  wider y h t = both (ltb y (b + 1)) (f y) (lt→ltb y (b + 1) h) t

  -- b itself passes and is added
  pub row_yes : (row' : ℕ) → row' ≡ bit_or row (2 ^ b) → true ≡ f b → (y : ℕ) → bit row' y ≡ (ltb y (b + 1) && f y)
  row_yes row' e at y =
      let is : bit row' y ≡ (bit row y || eqb y b) = ap (λ r. bit r y) e ∙ bit-or row (2 ^ b) y ∙ ap (λ v. bit row y || v) (bit_one b y) in
      is
      ∙ same_truth (bit row y || eqb y b) (ltb y (b + 1) && f y)
      (λ t. elim (or_cases (bit row y) (eqb y b) t) [
        | inl p ↦ let q = old y p in let l = q.0 in wider y (omega arith) q.1
        | inr q ↦ let s = eqb→eq y b q in wider y (omega arith) (subst (λ z. T (f z)) (sym s) (subst T at tt))
      ])
      (λ t.
      let p = and_parts (ltb y (b + 1)) (f y) t in
      let l = ltb→lt y (b + 1) p.0 in
      elim (cases_eq y b) [
        | inl s ↦ or_right (bit row y) (eqb y b) (eq-eqb y b s)
        | inr d ↦ or_left (bit row y) (eqb y b) (kept y (omega arith) p.1)
      ])

  -- b does not pass, and the row stays
  pub row_no : (row' : ℕ) → row' ≡ row → false ≡ f b → (y : ℕ) → bit row' y ≡ (ltb y (b + 1) && f y)
  row_no row' e at y =
      ap (λ r. bit r y) e
      ∙ same_truth (bit row y) (ltb y (b + 1) && f y)
      (λ t. let q = old y t in let l = q.0 in wider y (omega arith) q.1)
      (λ t.
      let p = and_parts (ltb y (b + 1)) (f y) t in
      let l = ltb→lt y (b + 1) p.0 in
      elim (cases_eq y b) [
        | inl s ↦ absurd (subst T (sym at) (subst (λ z. T (f z)) s p.1))
        | inr d ↦ kept y (omega arith) p.1
      ])

  -- nothing from b on passes
  pub row_end : ((y : ℕ) → T (f y) → y < b) → bit row ≡ f
  row_end here = λ i y. same_truth (bit row y) (f y) (λ t. (old y t).1) (λ t. kept y (here y t) t) i

-- the numbers below n that pass f, set one by one
module _ (f : ℕ → Bool) where
  abbrev pub marks : ℕ → List ℕ → ℕ
  marks w xs = fold (λ v b. bit_or v ((1 * 2 ^ b) % 2 ^ 32)) w xs

  -- b is tried next, and m is where the range ends
  marked : (n b w m : ℕ) → b + n ≡ m → m ≤ 32 → ((y : ℕ) → bit w y ≡ (ltb y b && f y)) → (y : ℕ) → bit (marks w (filter f (range_with_len b n))) y ≡ (ltb y m && f y)
  marked zero b w m is h inv y = inv y ∙ ap (λ k. ltb y k && f y) (omega (arith, is))
  marked (suc n) b w m is h inv y =
      turn
      (λ at. marked n (b + 1) (bit_or w ((1 * 2 ^ b) % 2 ^ 32)) m (omega (arith, is)) h (row_yes f w b inv _ (ap (bit_or w) (one_shl b 32 (omega (arith, is, h)))) at) y)
      (λ at. marked n (b + 1) w m (omega (arith, is)) h (row_no f w b inv w refl at) y)
      (f b) refl
    where
      turn : (true ≡ f b → bit (marks w (b ∷ filter f (range_with_len (b + 1) n))) y ≡ (ltb y m && f y)) → (false ≡ f b → bit (marks w (filter f (range_with_len (b + 1) n))) y ≡ (ltb y m && f y))
          → (t : Bool) → t ≡ f b → bit (marks w (cond t (b ∷ filter f (range_with_len (b + 1) n)) (filter f (range_with_len (b + 1) n)))) y ≡ (ltb y m && f y)
      turn set left true at = set at
      turn set left false at = left at

  -- where nothing from n on passes
  pub marks_all : (n : ℕ) → n ≤ 32 → ((y : ℕ) → T (f y) → y < n) → bit (marks 0 (filter f (range_with_len 0 n))) ≡ f
  marks_all n h here = row_end f _ n (marked n 0 0 n (omega arith) h (λ y. bit_none y ∙ ap (λ t. t && f y) (sym (le-ltb y 0 (omega arith))))) here

-- a row more
pub rows_more : (f : ℕ → ℕ → Bool) (rows : List ℕ) (a row : ℕ) → a < length rows → ((x y : ℕ) → x < a → bit (get_or rows x 0) y ≡ f x y) → ((y : ℕ) → bit row y ≡ f a y)
    → (x y : ℕ) → x < a + 1 → bit (get_or (set rows a row) x 0) y ≡ f x y
rows_more f rows a row h before here x y l =
    elim (cases_eq x a) [
      | inl e ↦ subst (λ z. bit (get_or (set rows a row) z 0) y ≡ f z y) (sym e) (ap (λ r. bit r y) (get_or-set_same rows a row 0 h) ∙ here y)
      | inr d ↦ ap (λ r. bit r y) (get_or-set_other rows a x row 0 d) ∙ before x y (omega arith)
    ]

pub rest_more : (rows : List ℕ) (a row : ℕ) → ((x : ℕ) → a ≤ x → get_or rows x 0 ≡ 0) → (x : ℕ) → a + 1 ≤ x → get_or (set rows a row) x 0 ≡ 0
rest_more rows a row rest x l = let d : x ≢ a = omega arith in get_or-set_other rows a x row 0 d ∙ rest x (omega arith)

pub zeros : (n x : ℕ) → get_or {A = ℕ} (replicate n 0) x 0 ≡ 0
zeros n x = elim (cases_lt x n) [ inl l ↦ get_or-replicate n x 0 0 l | inr l ↦ get_or_past (replicate n 0) x 0 (omega (arith, length-replicate {A = ℕ} n 0)) ]

not_so : (t : Bool) → (T t → ⊥) → false ≡ t
not_so true h = absurd (h tt)
not_so false h = refl

module _ (keeps : Seen → Seen → Bool) (law : Law keeps) (E : List Operation) where
  pub kept_here : (a b : ℕ) → T (local keeps E a b) → (a < length E) × (b < length E)
  kept_here = local_here (local keeps E) E (lawful keeps law E)

  past : (rows : List ℕ) (a b : ℕ) → length E ≤ a → get_or rows a 0 ≡ 0 → before rows a b ≡ local keeps E a b
  past rows a b l z = ap (λ r. bit r b) z ∙ bit_none b ∙ not_so (local keeps E a b) (λ t. let h = (kept_here a b t).0 in omega arith)

  module _ (rows : List ℕ) (long : length E ≤ length rows) (here : (x y : ℕ) → x < length E → bit (get_or rows x 0) y ≡ local keeps E x y) (rest : (x : ℕ) → length E ≤ x → get_or rows x 0 ≡ 0) where
    pub all_rows : (a b : ℕ) → before rows a b ≡ local keeps E a b
    all_rows a b = elim (cases_lt a (length E)) [ inl l ↦ here a b l | inr l ↦ past rows a b l (rest a l) ]

    pub cut_rows : (a b : ℕ) → before (take (length E) rows) a b ≡ local keeps E a b
    cut_rows a b =
        elim (cases_lt a (length E)) [
          | inl l ↦ cut_before (length E) a b rows l ∙ here a b l
          | inr l ↦ past (take (length E) rows) a b l (get_or_past (take (length E) rows) a 0 (omega (arith, length-take-le (length E) rows long)))
        ]
