use Rattle.std.proofs.Common.{rules}
use Rattle.caseroom.proofs.Written.{serial_written}
use Rattle.caseroom.proofs.case.Case.write_order.Goals as goal

pub returns-in-Serial : goal.returns-in-Serial
returns-in-Serial c = search (rules, serial_written)
