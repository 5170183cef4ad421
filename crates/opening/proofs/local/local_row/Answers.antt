use Rattle.std.proofs.Common.{ℕ, Bool, cond, ◌*◌, ◌%◌, ◌^◌, bit_or, ap, ◌∙◌, arith, rules}
use Rattle.std.specs.List.{range_with_len}
use Rattle.std.proofs.lemmas.Iterator.{YieldsList-from_range}
use Rattle.std.proofs.lemmas.Iterator.Consumers.{fold_from_yields_List}
use borrow.Author.Tests.{tests}
use Rattle.execution.specs.Calls.{ops}
use Rattle.order.specs.Bits.{bit}
use Rattle.theory.specs.Serial.{local}
use Rattle.order.proofs.Room.{few}
use Rattle.order.proofs.Folds.{fold_filter}
use Rattle.opening.proofs.Kept.{marks_all, kept_here}
use Rattle.opening.proofs.local.local_row.Goals as goal

pub returns : goal.returns
returns g c =
    let e = c.args.execution.now in
    let keeps = g.B.RuleBook.keeps c.args.book.now in
    let law = g.met.B.RuleBook.lawful c.args.book.now in
    let f : ℕ → Bool = local keeps (ops e) c.args.a in
    let with_bit : ℕ → ℕ → ℕ = λ v b. bit_or v ((1 * 2 ^ b) % 2 ^ 32) in
    let n = c.len.result in
    let at = c.len.ensures in
    let k = few e in
    ap bit
    (fold_from_yields_List _ (λ v b. cond (f b) (with_bit v b) v) 0 c.fold.result c.fold.ensures.ran
    (YieldsList-from_range 0 n n (cc) (omega arith))
    (λ v x w q k. search (rules, tests))
    ∙ fold_filter f with_bit 0 (range_with_len 0 n))
    ∙ marks_all f n (omega arith) (λ y t. let h = (kept_here keeps law (ops e) c.args.a y t).1 in omega arith)
