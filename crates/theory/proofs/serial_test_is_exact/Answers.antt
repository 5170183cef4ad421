use Rattle.theory.proofs.serial_test_is_exact.Goals as goal
use Rattle.theory.proofs.Kept.{serial_test}

pub returns : goal.returns
returns c = serial_test
