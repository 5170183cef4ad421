-- What the house does on a desk.
use Rattle.std.specs.Prelude.{◌≡◌, ℕ, false, Some, None, Ok, Err, Option, Result}
use Rattle.field.specs.declared.refusal.Refusal.{Refusal}
use Rattle.theory.specs.Lists.{first_by}
use Rattle.theory.specs.Order.{cyclic}
use Rattle.theory.specs.Case.{Call, Answer, refused, made, lacks, claims, splits, next_call, Turn}
use Rattle.theory.specs.Promises.{Reached}
use Rattle.rules.specs.declared.claim.Claim.{Claim}
use Rattle.rules.specs.Claims.{call_of}
use Rattle.desk.specs.declared.state.State.{State}
use Rattle.desk.specs.declared.given.Given.{Given}
use Rattle.desk.specs.declared.desk.Desk.{Desk}
use Rattle.desk.specs.Model.{events, locally, at_first, state_of, model}

-- the desk holds what a new case has come to by some calls
abbrev pub Come : Given → Desk → Type 0
Come g d = ∥ Reached (locally g) (events g) (at_first g) (model g d) ∥₁

-- the claim is the house's next call; where there is none, no claim is left: there is no cycle, no rule asks for more, and there is nothing to decide
abbrev pub Next : Given → Desk → Option Claim → Type 0
Next g d (Some c) = next_call (events g) (model g d) ≡ Some (call_of c)
Next g d None =
    (cyclic (model g d).order ≡ false)
    × (first_by (lacks (events g) (model g d).order) (claims (events g)) ≡ None)
    × (first_by (lacks (events g) (model g d).order) (splits (events g)) ≡ None)

-- the house took a turn
abbrev pub Turned : Given → Desk → Desk → Type 0
Turned g pre post = (q : Call) × Turn (locally g) (events g) (model g pre) q (model g post)

-- the answer of a case whose house was asked
abbrev pub house_answer : Result (ℕ × State) Refusal → Answer
house_answer (Ok p) = made p.0 (state_of p.1)
house_answer (Err e) = refused e
