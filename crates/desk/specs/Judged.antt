-- What a claim does to a desk, on both ways out, and what it can count on.
use Rattle.std.specs.Prelude.{◌≡◌, ℕ, ◌<◌, List, length, Some, None, Ok, Err, Option, Result}
use Rattle.std.specs.List.{AllByRecursion}
use Rattle.field.specs.declared.refusal.Refusal.{Refusal}
use Rattle.execution.specs.declared.operation.Operation.{Operation}
use Rattle.theory.specs.Case as theory
use Rattle.theory.specs.Case.{Model, Call, split, Answer, admitted, refused, refusal, after}
use Rattle.rules.specs.declared.claim.Claim.{Claim}
use Rattle.rules.specs.declared.claim.Claim.TheVariants as claim
use Rattle.desk.specs.declared.given.Given.{Given}
use Rattle.desk.specs.declared.desk.Desk.{Desk}
use Rattle.desk.specs.Model.{events, model}

-- refused for this reason, with the desk as it was; or, with no reason to refuse, admitted, and the desk then holds the model N
abbrev pub By : Option Refusal → Given → Model → Desk → Result (Unit {0}) Refusal → Desk → Type 0
By (Some e) g N pre r post = (r ≡ Err e) × (post ≡ pre)
By None g N pre r post = (r ≡ Ok tt) × (model g post ≡ N)

-- the answer to a claim and what it leaves, as the theory has them
abbrev pub Judged : Given → Call → Desk → Result (Unit {0}) Refusal → Desk → Type 0
Judged g q pre r post = By (refusal (events g) (model g pre) q) g (after (events g) (model g pre) q) pre r post

-- the answer that a case gives
abbrev pub answer_of : Result (Unit {0}) Refusal → Answer
answer_of (Ok u) = admitted
answer_of (Err e) = refused e

-- the choices are between operations
abbrev pub Named : ℕ → List theory.Choice → Type 0
Named n cs = AllByRecursion (λ (c : theory.Choice). (c.one < n) × (c.other < n)) cs

-- what a claim can count on: the choices that stand are between operations, and for a split that is not refused there is room
pub record Fit (E : List Operation) (M : Model) : Type 0 where
  pub within : Named (length E) M.choices
  pub room : (s t : ℕ) → refusal E M (split s t) ≡ None → length M.choices < 496

-- the numbers of a claim are those of operations
abbrev pub Ranged : ℕ → Claim → Type 0
Ranged n (claim.A l s) = (l < n) × (s < n)
Ranged n (claim.B l s) = (l < n) × (s < n)
Ranged n (claim.C l k a b) = (l < n) × (k < n) × (a < n) × (b < n)
Ranged n (claim.Split s t) = (s < n) × (t < n)
Ranged n claim.Close = Unit {0}
