use Rattle.std.proofs.Common.{length, sym, ap, ◌∙◌}
use Rattle.std.proofs.lemmas.List.{get_or_default}
use Rattle.execution.specs.Operations.{idle}
use Rattle.execution.specs.Reading.{may_see, source_at}
use Rattle.execution.proofs.Walk.{source_more}
use Rattle.execution.proofs.read.check_sources.Goals as goal

pub loop-number-preserved : goal.loop-number-preserved
loop-number-preserved c =
    let E = c.args.operations.now in
    let s = c.args.bytes.now in
    let k = c.loop-number.number in
    sym (source_more E s (length E) k c.loop-number-test.true (ap (λ o. may_see E (source_at s k) o.action) (get_or_default E k idle _ c.loop-number-test.true) ∙ sym c.if-not-may_see.ensures)) ∙ c.loop-number.invariant
