-- One operation: its body is not refused exactly if the operation may stand there.
use Rattle.std.proofs.Common.{◌≡◌, ℕ, ◌<◌, true, List, length, None, Option, arith}
use Rattle.std.proofs.lemmas.Bool.Decides.{nat_tests}
use Rattle.execution.specs.declared.operation.Action.{Action}
use Rattle.execution.specs.declared.operation.Action.TheVariants as act
use Rattle.execution.specs.declared.operation.Operation.{Operation}
use Rattle.execution.specs.Formed.{follows}
use Rattle.execution.specs.Writing.{kind_byte, address_number, dependence_byte}
use Rattle.execution.specs.Reading.{thread_in, kind_in, address_in, dependence_in, operation_of, body_refusal}

-- a body that is not refused after E
abbrev pub Free : List Operation → List ℕ → Type 0
Free E b = body_refusal E (thread_in b) (kind_in b) (address_in b) (dependence_in b) ≡ None

-- there is room for what it says, which may stand there, and is written as the body was
module _ (E : List Operation) (b : List ℕ) (h : Free E b) where
  pub room : length E < 32
  room = grind (arith, nat_tests)

  pub stands : follows E (operation_of b) ≡ true
  stands = grind (arith, nat_tests)

  pub kind_back : kind_byte (operation_of b).action ≡ kind_in b
  kind_back = grind (arith, nat_tests)

  pub address_back : address_number (operation_of b).action ≡ address_in b
  address_back = grind (arith, nat_tests)

  pub dependence_back : dependence_byte (operation_of b).dependence ≡ dependence_in b
  dependence_back = grind (arith, nat_tests)

-- the other way round
pub not_refused : (E : List Operation) (o : Operation) → length E < 32 → follows E o ≡ true → body_refusal E o.thread (kind_byte o.action) (address_number o.action) (dependence_byte o.dependence) ≡ None
not_refused E o few f = of_action o.thread o.action o.dependence few (grind arith)
  where
    of_action : (t : ℕ) (a : Action) (d : Option ℕ) → length E < 32 → follows E (record { thread = t; action = a; dependence = d }) ≡ true → body_refusal E t (kind_byte a) (address_number a) (dependence_byte d) ≡ None
    of_action t (act.Load x s) d few f = grind (arith, nat_tests)
    of_action t (act.Store x) d few f = grind (arith, nat_tests)
    of_action t act.Fence d few f = grind (arith, nat_tests)
    of_action t act.Branch d few f = grind (arith, nat_tests)
