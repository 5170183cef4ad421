-- Tests over the numbers below one.
use Rattle.std.proofs.Common.{◌≡◌, ℕ, zero, suc, ◌+◌, ◌<◌, ◌≤◌, Bool, true, false, ◌||◌, List, length, take, sym, refl, ap, ◌∙◌, add-one, arith}
use Rattle.std.specs.List.{list_any}
use Rattle.std.proofs.lemmas.List.{take_all}
use Rattle.std.proofs.lemmas.List.Folds.{list_any_more}
use Rattle.execution.specs.declared.operation.Operation.{Operation}
use Rattle.execution.specs.Operations.{idle, op}
use Rattle.execution.specs.Formed.{some}

pub some_at : (p : ℕ → Bool) (n k : ℕ) → k < n → p k ≡ true → some n p ≡ true
some_at p zero k h e = absurd (omega arith)
some_at p (suc n) k h e = grind (arith, some_at p n)

pub some_false : (p : ℕ → Bool) (n : ℕ) → some n p ≡ false → (k : ℕ) → k < n → p k ≡ false
some_false p zero h k l = absurd (omega arith)
some_false p (suc n) h k l = grind (arith, some_false p n)

pub some_none : (p : ℕ → Bool) (n : ℕ) → ((k : ℕ) → k < n → p k ≡ false) → some n p ≡ false
some_none p zero h = refl
some_none p (suc n) h = grind (arith, some_none p n, h)

-- of no number below n and not of n is of no number below n + 1
pub some_more : (p : ℕ → Bool) (n : ℕ) → some n p ≡ false → p n ≡ false → some (n + 1) p ≡ false
some_more p n h e = rw add-one (ap (λ v. v || some n p) e ∙ h)

-- a test of operations holds of some number exactly if it holds of some operation
some_before : (f : Operation → Bool) (E : List Operation) (n : ℕ) → n ≤ length E → some n (λ k. f (op E k)) ≡ list_any f (take n E)
some_before f E zero h = refl
some_before f E (suc n) h =
    let again = some_before f E n (omega arith) in
    let more = list_any_more f E n idle (omega arith) in
    let e = ap (λ m. list_any f (take m E)) (add-one n) in
    let swap : (f (op E n) || list_any f (take n E)) ≡ (list_any f (take n E) || f (op E n)) = grind arith in
    ap (λ b. f (op E n) || b) again ∙ swap ∙ sym more ∙ e

pub some_any : (f : Operation → Bool) (E : List Operation) → some (length E) (λ k. f (op E k)) ≡ list_any f E
some_any f E = some_before f E (length E) (omega arith) ∙ ap (list_any f) (take_all (length E) E (omega arith))
