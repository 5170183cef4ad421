-- The local order that a case was given is lawful.
use Rattle.theory.specs.Serial.{LawfulOrder}
use Rattle.desk.specs.declared.given.Given.{Given}
use Rattle.desk.specs.Model.{events, locally}

pub lawful : (g : Given) → LawfulOrder (locally g) (events g)
lawful g = record { inside = g.inside; start = g.starts; one_address = λ a b. g.addresses (a, b) }
