use Rattle.std.proofs.Common.{arith}
use Rattle.rules.proofs.Executions.{few}
use Rattle.rules.proofs.size.size.Goals as goal

pub returns : goal.returns
returns c = let h = few c.args.execution.now in record { all = c.len.ensures; few = omega arith }
