use Rattle.std.proofs.Common.{arith}
use Rattle.order.proofs.Bitwise.{lowest_less}
use Rattle.order.proofs.bits.lowest_without.Goals as goal

pub returns : goal.returns
returns c = lowest_less c.args.row c.args.other (omega arith) (omega arith) c.lowest.result c.lowest.ensures
