-- What proposing an order does to a desk.
use Rattle.std.specs.Prelude.{ℕ, Bool, List}
use Rattle.theory.specs.Serial.{serial?}
use Rattle.desk.specs.declared.given.Given.{Given}
use Rattle.desk.specs.Model.{events, locally}

-- the order is a serialization, by the theory's test
unfoldable pub is_serial : Given → List ℕ → Bool
is_serial g σ = serial? (locally g) (events g) σ
