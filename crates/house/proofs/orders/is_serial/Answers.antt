use Rattle.std.proofs.lemmas.Bool.Decides.{same_from_decides}
use Rattle.desk.specs.Model.{locally}
use Rattle.desk.proofs.Lawful.{lawful}
use Rattle.house.specs.Orders.{is_serial}
use Rattle.house.proofs.Weighing.{tested}
use Rattle.house.proofs.orders.is_serial.Goals as goal

pub returns : goal.returns
returns c =
    let g = c.args.given.now in
    let σ = c.args.order.now in
    same_from_decides _ (is_serial g σ) (c.is_serialization.ensures (locally g) (lawful g) c.opening_order-opening.ensures.says) (tested g σ)
