use Rattle.std.proofs.Common.{◌≡◌, ℕ, ◌<◌, ◌≤◌, Bool, true, false, MatchBool, length, take, rules, tests, refl, arith, subst, zero-add, ◌∙◌}
use Rattle.std.specs.List.{HoldsAt, AllWithin, range_with_len}
use Rattle.std.proofs.lemmas.List.FromFn.{length-range_with_len, get_or-range_with_len}
use Rattle.theory.specs.Order.{Rows, before, cyclic}
use Rattle.theory.proofs.Cut.{cut_cycle, cut_no_cycle}
use Rattle.std.proofs.lemmas.Iterator.{cases_from_any, YieldsList-from_range}
use Rattle.order.proofs.order.Order.cyclic.Goals as goal

abbrev Yes : Rows → ℕ → Type 0
Yes R x = before R x x ≡ true

abbrev No : Rows → ℕ → Type 0
No R x = before R x x ≡ false

-- what `any` found of the first n is what the first n rows say
found : (n : ℕ) (R : Rows) → n ≤ length R → (r : Bool) → MatchBool r ((k : ℕ) × (k < length (range_with_len 0 n)) × HoldsAt (Yes R) (range_with_len 0 n) k) (AllWithin (No R) (range_with_len 0 n) 0 (length (range_with_len 0 n))) → r ≡ cyclic (take n R)
found n R h true e = let l : e.0 < n = omega (arith, length-range_with_len 0 n) in cut_cycle n R h e.0 l (subst (Yes R) (get_or-range_with_len 0 n e.0 0 l ∙ zero-add e.0) (e.2 0))
found n R h false e = cut_no_cycle n R h (λ x l. subst (No R) (get_or-range_with_len 0 n x 0 l ∙ zero-add x) (e x 0 (search rules) (omega (arith, length-range_with_len 0 n))))

pub returns : goal.returns
returns c =
    let rows = c.args.self.now.rows in
    found c.args.n rows (search rules) _ (cases_from_any _ _ _ (Yes rows) (No rows) c.any.ensures.ran (YieldsList-from_range 0 c.args.n c.args.n refl (search rules)) (λ x q k. search (rules, tests)) (λ x q k. search (rules, tests)))
