-- An execution as bytes: the edition's field, then a field for each operation.
use Rattle.std.specs.Prelude.{ℕ, ◌/◌, ◌%◌, List, [], ◌∷◌, ◌++◌, Some, None, Option}
use Rattle.execution.specs.declared.operation.Action.{Action}
use Rattle.execution.specs.declared.operation.Action.TheVariants as act
use Rattle.execution.specs.declared.operation.Operation.{Operation}

abbrev pub kind_byte : Action → ℕ
kind_byte (act.Load x s) = 1
kind_byte (act.Store x) = 2
kind_byte act.Fence = 3
kind_byte act.Branch = 4

-- a fence or a branch has none, and 0 stands in its place
abbrev pub address_number : Action → ℕ
address_number (act.Load x s) = x
address_number (act.Store x) = x
address_number act.Fence = 0
address_number act.Branch = 0

-- 255 where there is none
abbrev pub source_byte : Action → ℕ
source_byte (act.Load x s) = s
source_byte (act.Store x) = 255
source_byte act.Fence = 255
source_byte act.Branch = 255

-- 255 where there is none
abbrev pub dependence_byte : Option ℕ → ℕ
dependence_byte (Some d) = d
dependence_byte None = 255

-- tag 17 (hexadecimal 11), length 6: thread, kind, address (high byte first), source, dependence
abbrev pub field_of : Operation → List ℕ
field_of o =
    17 ∷ 0 ∷ 6 ∷ o.thread ∷ kind_byte o.action ∷ address_number o.action / 256 ∷ address_number o.action % 256
    ∷ source_byte o.action ∷ dependence_byte o.dependence ∷ []

abbrev pub fields_of : List Operation → List ℕ
fields_of [] = []
fields_of (o ∷ E) = field_of o ++ fields_of E

-- tag 16 (hexadecimal 10), length 1, edition 1; then the operations
abbrev pub writing : List Operation → List ℕ
writing E = 16 ∷ 0 ∷ 1 ∷ 1 ∷ fields_of E
