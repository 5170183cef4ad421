-- The claims of the program as calls of a case.
use Rattle.std.specs.Prelude.{ℕ, Bool, not, ◌&&◌, List, Some, None, Option, ◌==◌}
use Rattle.execution.specs.declared.operation.Operation.{Operation}
use Rattle.execution.specs.Operations.{load_at, same_address, source}
use Rattle.theory.specs.Case.{Call, claim_a, claim_b, claim_c, split, close}
use Rattle.rules.specs.declared.claim.Claim.{Claim}
use Rattle.rules.specs.declared.claim.Claim.TheVariants as claim

-- the call that a claim is
abbrev pub call_of : Claim → Call
call_of (claim.A l s) = claim_a l s
call_of (claim.B l s) = claim_b l s
call_of (claim.C l k a b) = claim_c l k a b
call_of (claim.Split s t) = split s t
call_of claim.Close = close

abbrev pub called : Option Claim → Option Call
called None = None
called (Some c) = Some (call_of c)

-- two loads of one address that saw different stores
abbrev pub crossed : List Operation → ℕ → ℕ → Bool
crossed E l k = load_at E l && load_at E k && same_address E l k && not (source E l == source E k)
