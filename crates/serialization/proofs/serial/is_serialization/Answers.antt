use Rattle.std.proofs.Common.{refl, sym, ◌∙◌, take}
use Rattle.std.proofs.lemmas.Bool.{both_ways}
use Rattle.execution.specs.Calls.{ops}
use Rattle.serialization.proofs.Kept.{keeps_is, free_is}
use Rattle.serialization.proofs.Serials.{formed, tested}
use Rattle.serialization.proofs.serial.is_serialization.Goals as goal

pub returns-then-keeps : goal.returns-then-keeps
returns-then-keeps c = λ L lawful says.
    let t = tested L (ops c.args.execution.now) lawful (formed c.args.execution.now) c.args.opening.now.rows says c.args.order.now c.places-at.result c.len-n.result c.len-n.ensures c.places-at.ensures in
    let kept = keeps_is c.len-n.result (take c.len-n.result c.args.opening.now.rows) c.places-at.result in
    let free = free_is (ops c.args.execution.now) c.places-at.result in (
      λ f. t.0 c.if-order-n.false (c.if-not-each_once.ensures.0 refl) (kept.0 (sym c.if-keeps.ensures)) (free.0 (sym c.none_between.ensures ∙ f)),
      λ S. c.none_between.ensures ∙ free.1 (t.1 S).1,
    )

pub returns-else-keeps : goal.returns-else-keeps
returns-else-keeps c = λ L lawful says.
    let t = tested L (ops c.args.execution.now) lawful (formed c.args.execution.now) c.args.opening.now.rows says c.args.order.now c.places-at.result c.len-n.result c.len-n.ensures c.places-at.ensures in
    let kept = keeps_is c.len-n.result (take c.len-n.result c.args.opening.now.rows) c.places-at.result in (
      λ f. absurd (both_ways c.keeps.result c.if-keeps.false f),
      λ S. c.keeps.ensures ∙ kept.1 (t.1 S).0,
    )
