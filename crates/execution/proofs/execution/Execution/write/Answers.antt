use Rattle.std.proofs.Common.{◌+◌, ◌*◌, ◌∙◌, arith}
use Rattle.execution.specs.Calls.{ops}
use Rattle.execution.proofs.Written.{write_more, drop_further}
use Rattle.execution.proofs.execution.Execution.write.Goals as goal

pub loop-number-preserved : goal.loop-number-preserved
loop-number-preserved c =
    let k = c.loop-number.number in (
      write_more (ops c.args.self.now) c.held-operation-items.result.now _ c.loop-number.out c.put_operation.new.out k c.loop-number-test.true c.held-operation-items.ensures c.loop-number.invariant.0 c.put_operation.ensures.front,
      drop_further c.put_operation.new.out c.loop-number.out (4 + 9 * k + 9) (4 + 9 * (k + 1)) (omega arith) c.put_operation.ensures.rest ∙ drop_further c.loop-number.out c.put_edition.new.out (4 + 9 * k) (4 + 9 * (k + 1)) (omega arith) c.loop-number.invariant.1,
    )
