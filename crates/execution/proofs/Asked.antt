-- What the rules tell of an operation that was found, or was not.
use Rattle.std.proofs.Common.{◌≡◌, ℕ, ◌<◌, true, false, T, cond, ltb, List, length, if◌then◌else◌, Some, None, Option, MatchOption, IsSomeAnd, nat_lt, arith}
use Rattle.std.proofs.lemmas.Bool.Decides.{nat_tests}
use Rattle.std.proofs.lemmas.List.{get_or_past}
use Rattle.execution.specs.declared.operation.Operation.{Operation}
use Rattle.execution.specs.Operations.{idle, op, is_load, source_of, load_at, source, touches}
use Rattle.execution.specs.Formed.{formed?}
use Rattle.execution.proofs.Tested.{well_formed}

touches_one : (E : List Operation) (s l : ℕ) → T (touches E s l) → s < length E
touches_one E s l t = grind (arith, nat_tests)

-- the source of a load is the number of an operation
source_inside : (E : List Operation) (l : ℕ) → T (formed? E) → T (load_at E l) → source E l < length E
source_inside E l f t = touches_one E (source E l) l ((well_formed E f).sources l t)

-- of an operation that was found, the source that its action tells is the one that a load has
pub source_asked : (E : List Operation) (l : ℕ) (o : Operation) (s r : Option ℕ) → T (formed? E) → (if nat_lt l (length E) then Some (op E l) else None) ≡ Some o → s ≡ (if is_load o.action then Some (source_of o.action) else None) → MatchOption s (r ≡ None) (λ x. IsSomeAnd r (λ y. y ≡ x)) → MatchOption r (load_at E l ≡ false) (λ x. (load_at E l ≡ true) × (x ≡ source E l) × (x < length E))
source_asked E l o None None f p q m = grind (arith, nat_tests)
source_asked E l o None (Some y) f p q m = absurd cc
source_asked E l o (Some x) None f p q m = absurd m
source_asked E l o (Some x) (Some y) f p q m =
    let i = source_inside E l f in
    (grind (arith, nat_tests), grind (arith, nat_tests), grind (arith, nat_tests, i))

-- where no operation is found, the idle one stands
pub not_found : (E : List Operation) (k : ℕ) → None ≡ cond (ltb k (length E)) (Some (op E k)) None → op E k ≡ idle
not_found E k h = grind (arith, nat_tests, get_or_past E k idle)
