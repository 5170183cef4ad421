use Rattle.std.proofs.Common.{arith, rules}
use Rattle.serialization.proofs.Ready.{next_is}
use borrow.Author.Tests.{tests}
use Rattle.serialization.proofs.placing.lowest_ready.Goals as goal

pub returns-clause-first : goal.returns-clause-first
returns-clause-first c = next_is c.args.order.now.rows c.args.placed c.held_back.result c.args.n (omega arith) (omega arith) (omega arith) c.held_back.ensures c.lowest.result c.map.result c.lowest.ensures (search (rules, tests))
