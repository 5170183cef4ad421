-- What the test of an order says.
use Rattle.std.proofs.Common.{◌≡◌, ℕ, Bool, true, false, T, List, Decides, refl}
use Rattle.theory.specs.Serial.{Serialization, serial?}
use Rattle.theory.proofs.Kept.{serial_test}
use Rattle.desk.specs.declared.given.Given.{Given}
use Rattle.desk.specs.Model.{events, locally}
use Rattle.desk.proofs.Lawful.{lawful}
use Rattle.house.specs.Orders.{is_serial}

holds : (b : Bool) → T b → b ≡ true
holds true t = refl
holds false t = absurd t

-- it holds exactly of the serializations
pub tested : (g : Given) (σ : List ℕ) → Decides (is_serial g σ) (Serialization (locally g) (events g) σ)
unfolding is_serial
tested g σ =
    let t = serial_test (locally g) (events g) (lawful g) σ in
    (λ e. t.0 (rw e tt), λ s. holds (serial? (locally g) (events g) σ) (t.1 s))
