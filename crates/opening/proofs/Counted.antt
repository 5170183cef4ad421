-- Counting the numbers below a bound, one more at a time.
use Rattle.std.proofs.Common.{◌≡◌, ℕ, ◌+◌, Bool, true, false, cond, sum_by, count_by, sym, ap, ◌∙◌, arith}
use Rattle.std.specs.List.{range_with_len}
use Rattle.std.proofs.lemmas.List.FromFn.{sum_by-map-range_with_len_more}
use Rattle.std.proofs.lemmas.List.Sums.{sum-map}

-- the sum over the numbers below n + 1 is that over those below n, and one term more
pub sum_upto : (f : ℕ → ℕ) (n : ℕ) → sum_by f (range_with_len 0 (n + 1)) ≡ sum_by f (range_with_len 0 n) + f n
sum_upto f n = sym (sum-map f (range_with_len 0 (n + 1))) ∙ sum_by-map-range_with_len_more (λ x. x) f 0 n n (omega arith) ∙ ap (λ v. v + f n) (sum-map f (range_with_len 0 n))

-- where n passes, one more passes below n + 1
pub count_yes : (p : ℕ → Bool) (n : ℕ) → true ≡ p n → count_by p (range_with_len 0 (n + 1)) ≡ count_by p (range_with_len 0 n) + 1
count_yes p n e = sum_upto (λ x. cond (p x) 1 0) n ∙ ap (λ t. count_by p (range_with_len 0 n) + cond t 1 0) (sym e)

-- where n does not pass, no more do
pub count_no : (p : ℕ → Bool) (n : ℕ) → false ≡ p n → count_by p (range_with_len 0 (n + 1)) ≡ count_by p (range_with_len 0 n)
count_no p n e = let s = sum_upto (λ x. cond (p x) 1 0) n ∙ ap (λ t. count_by p (range_with_len 0 n) + cond t 1 0) (sym e) in omega arith
