-- What `|`, `&`, `!`, `1 << b` and the lowest bit come to, bit by bit.
use Rattle.std.proofs.Common.{◌≡◌, ℕ, zero, suc, ◌-◌, ◌/◌, ◌%◌, ◌^◌, ◌<◌, ◌≤◌, min, max, Bool, true, false, cond, not, ◌&&◌, ◌||◌, eqb, ◌⊎◌, Some, None, Option, sym, refl, ap, ◌∙◌, inl, inr, pow-suc, div-one, is_some, IfSome, subst, tests, arith}
use lib.Bits.{bit_or, bit_and, and_step, and_shr}
use lib.Count.{count_trailing_zeros, under}
use Rattle.std.proofs.lemmas.Bool.{cases_lt}
use Rattle.theory.proofs.Marks.{mark_half, mark_or, mark_zero}
use Rattle.order.specs.Bits.{bit, Lowest, LowestOf}

pub parity : (n : ℕ) → (n % 2 ≡ 0) ⊎ (n % 2 ≡ 1)
parity n = grind arith

-- a test of two bits, by the four cases
by_parity : (f : ℕ → ℕ → ℕ) (g : Bool → Bool → Bool) (m n : ℕ)
    → eqb (f 0 0) 1 ≡ g false false
    → eqb (f 0 1) 1 ≡ g false true
    → eqb (f 1 0) 1 ≡ g true false
    → eqb (f 1 1) 1 ≡ g true true
    → eqb (f (m % 2) (n % 2)) 1 ≡ g (eqb (m % 2) 1) (eqb (n % 2) 1)
by_parity f g m n p q r s = elim (parity m) [ inl a ↦ elim (parity n) [ inl b ↦ rw (a, b) p | inr b ↦ rw (a, b) q ] | inr a ↦ elim (parity n) [ inl b ↦ rw (a, b) r | inr b ↦ rw (a, b) s ] ]

pub bit-or : (m n k : ℕ) → bit (bit_or m n) k ≡ (bit m k || bit n k)
bit-or m n k = ap (λ v. eqb v 1) (mark_or m n k) ∙ by_parity max ◌||◌ (m / 2 ^ k) (n / 2 ^ k) refl refl refl refl

pub bit-and : (m n k : ℕ) → bit (bit_and m n) k ≡ (bit m k && bit n k)
bit-and m n k =
    ap (λ v. eqb (v % 2) 1) (and_shr m n k) ∙ ap (λ v. eqb v 1) (omega (arith, and_step (m / 2 ^ k) (n / 2 ^ k))) ∙ by_parity min ◌&&◌ (m / 2 ^ k) (n / 2 ^ k) refl refl refl refl

-- bit 0, and the bits above it
pub bit_zero : (n : ℕ) → bit n 0 ≡ eqb (n % 2) 1
bit_zero n = ap (λ v. eqb (v % 2) 1) (div-one n)

pub bit_suc : (n k : ℕ) → bit n (suc k) ≡ bit (n / 2) k
bit_suc n k = ap (λ v. eqb v 1) (mark_half n k)

pub bit_none : (k : ℕ) → bit 0 k ≡ false
bit_none k = ap (λ v. eqb v 1) (mark_zero k)

pub bit_high : (k n y : ℕ) → n < 2 ^ k → k ≤ y → bit n y ≡ false
bit_high zero n y h l = ap (λ v. bit v y) (omega arith) ∙ bit_none y
bit_high (suc k) n zero h l = absurd (omega arith)
bit_high (suc k) n (suc y) h l = bit_suc n y ∙ bit_high k (n / 2) y (omega (arith, pow-suc 2 k)) (omega arith)

-- the lowest bit
below_low : (n t : ℕ) → n % 2 ≡ 0 → ((j : ℕ) → j < t → bit (n / 2) j ≡ false) → (j : ℕ) → j < suc t → bit n j ≡ false
below_low n t e h zero l = bit_zero n ∙ ap (λ v. eqb v 1) e
below_low n t e h (suc j) l = bit_suc n j ∙ h j (omega arith)

pub lowest_set : (k n : ℕ) → n < 2 ^ k → 0 < n → (bit n (count_trailing_zeros k n) ≡ true) × ((j : ℕ) → j < count_trailing_zeros k n → bit n j ≡ false)
unfolding count_trailing_zeros
lowest_set zero n h p = absurd (omega arith)
lowest_set (suc k) n h p =
    elim (parity n) [
      | inl e ↦
          let rest : (bit (n / 2) (count_trailing_zeros k (n / 2)) ≡ true) × ((j : ℕ) → j < count_trailing_zeros k (n / 2) → bit (n / 2) j ≡ false) = lowest_set k (n / 2) (omega (arith, pow-suc 2 k)) (omega arith) in
          let at : under (n % 2) (count_trailing_zeros k (n / 2)) ≡ suc (count_trailing_zeros k (n / 2)) = ap (λ v. under v (count_trailing_zeros k (n / 2))) e in
          rw at (bit_suc n (count_trailing_zeros k (n / 2)) ∙ rest.0, below_low n (count_trailing_zeros k (n / 2)) e rest.1)
      | inr e ↦
          let at : under (n % 2) (count_trailing_zeros k (n / 2)) ≡ 0 = ap (λ v. under v (count_trailing_zeros k (n / 2))) e in
          rw at (bit_zero n ∙ ap (λ v. eqb v 1) e, λ j l. absurd (omega arith))
    ]

-- the lowest bit, asked of a number that is not 0
pub lowest_then : (n : ℕ) → n < 2 ^ 32 → (r : Option ℕ) → is_some r ≡ not (eqb n 0) → IfSome r (λ i. i ≡ count_trailing_zeros 32 n) → Lowest n r
lowest_then n h None e p = let z : n ≡ 0 = grind (arith, tests) in λ k. ap (λ v. bit v k) z ∙ bit_none k
lowest_then n h (Some i) e p = let d : 0 < n = grind (arith, tests) in subst (λ v. Lowest n (Some v)) (sym p) (lowest_set 32 n h d)

-- ! of k bits
flip : (k n : ℕ) → n < 2 ^ suc k → (2 ^ suc k - 1 - n) % 2 ≡ 1 - n % 2
flip k n h = omega (arith, pow-suc 2 k)

pub bit_not : (k n y : ℕ) → n < 2 ^ k → y < k → bit (2 ^ k - 1 - n) y ≡ not (bit n y)
bit_not zero n y h l = absurd (omega arith)
bit_not (suc k) n zero h l =
    bit_zero (2 ^ suc k - 1 - n) ∙ ap (λ v. eqb v 1) (flip k n h)
    ∙ elim (parity n) [
      | inl e ↦ ap (λ v. eqb (1 - v) 1) e ∙ sym (ap not (bit_zero n ∙ ap (λ v. eqb v 1) e))
      | inr e ↦ ap (λ v. eqb (1 - v) 1) e ∙ sym (ap not (bit_zero n ∙ ap (λ v. eqb v 1) e))
    ]
bit_not (suc k) n (suc y) h l =
    let half : (2 ^ suc k - 1 - n) / 2 ≡ 2 ^ k - 1 - n / 2 = omega (arith, pow-suc 2 k) in
    bit_suc (2 ^ suc k - 1 - n) y ∙ ap (λ v. bit v y) half ∙ bit_not k (n / 2) y (omega (arith, pow-suc 2 k)) (omega arith) ∙ ap not (sym (bit_suc n y))

-- m & !n
pub bit_less : (k m n y : ℕ) → m < 2 ^ k → n < 2 ^ k → bit (bit_and m (2 ^ k - 1 - n)) y ≡ (bit m y && not (bit n y))
bit_less k m n y h l =
    bit-and m (2 ^ k - 1 - n) y
    ∙ elim (cases_lt y k) [
      | inl u ↦ ap (λ v. bit m y && v) (bit_not k n y l u)
      | inr u ↦ ap (λ v. v && bit (2 ^ k - 1 - n) y) (bit_high k m y h u) ∙ sym (ap (λ v. v && not (bit n y)) (bit_high k m y h u))
    ]

pub lowest_less : (m n : ℕ) → m < 2 ^ 32 → n < 2 ^ 32 → (r : Option ℕ) → Lowest (bit_and m (4294967295 - n)) r → LowestOf (λ b. bit m b && not (bit n b)) r
lowest_less m n h l None p = λ k u. sym (bit_less 32 m n k h l) ∙ p k
lowest_less m n h l (Some i) p = (sym (bit_less 32 m n i h l) ∙ p.0, λ k u. sym (bit_less 32 m n k h l) ∙ p.1 k u)

-- tests that agree have one lowest number
pub lowest_same : (f g : ℕ → Bool) → ((k : ℕ) → f k ≡ g k) → (r : Option ℕ) → LowestOf f r → LowestOf g r
lowest_same f g e None p = λ k u. sym (e k) ∙ p k u
lowest_same f g e (Some i) p = (sym (e i) ∙ p.0, λ k u. sym (e k) ∙ p.1 k u)

-- numbers that agree bit by bit are one
pub same_bits : (k m n : ℕ) → m < 2 ^ k → n < 2 ^ k → ((j : ℕ) → j < k → bit m j ≡ bit n j) → m ≡ n
same_bits zero m n hm hn h = omega arith
same_bits (suc k) m n hm hn h =
    let halves : m / 2 ≡ n / 2 = same_bits k (m / 2) (n / 2) (omega (arith, pow-suc 2 k)) (omega (arith, pow-suc 2 k)) (λ j l. sym (bit_suc m j) ∙ h (suc j) (omega arith) ∙ bit_suc n j) in
    let low : m % 2 ≡ n % 2 = low_digit m ∙ ap (λ t. cond t 1 0) (h 0 (omega arith)) ∙ sym (low_digit n) in
    omega arith
  where
    low_digit : (n : ℕ) → n % 2 ≡ cond (bit n 0) 1 0
    low_digit n = elim (parity n) [ inl e ↦ e ∙ sym (ap (λ t. cond t 1 0) (bit_zero n ∙ ap (λ v. eqb v 1) e)) | inr e ↦ e ∙ sym (ap (λ t. cond t 1 0) (bit_zero n ∙ ap (λ v. eqb v 1) e)) ]
