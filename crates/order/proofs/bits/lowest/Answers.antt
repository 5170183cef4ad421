use Rattle.std.proofs.Common.{rules, arith}
use Rattle.order.proofs.Bitwise.{lowest_then}
use Rattle.order.proofs.bits.lowest.Goals as goal

pub returns : goal.returns
returns c = lowest_then c.args.row (omega arith) c.then.result c.then.ensures.variant (search rules)
