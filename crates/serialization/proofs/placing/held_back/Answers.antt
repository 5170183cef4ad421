use Rattle.std.proofs.Common.{ℕ, Bool, not, cond, get_or, bit_or, ap, ◌∙◌, arith, rules}
use Rattle.std.specs.List.{range_with_len}
use Rattle.std.proofs.lemmas.Iterator.{YieldsList-from_range}
use Rattle.std.proofs.lemmas.Iterator.Consumers.{fold_from_yields_List}
use borrow.Author.Tests.{tests}
use Rattle.order.specs.Bits.{bit}
use Rattle.order.proofs.Folds.{fold_filter}
use Rattle.serialization.proofs.Ready.{held_is}
use Rattle.serialization.proofs.placing.held_back.Goals as goal

pub returns : goal.returns
returns c = λ a.
    let R = c.args.order.now.rows in
    let n = c.args.n in
    let left : ℕ → Bool = λ x. not (bit c.args.placed x) in
    let with_row : ℕ → ℕ → ℕ = λ v x. bit_or v (get_or R x 0) in
    ap (λ (v : ℕ). bit v a)
    (fold_from_yields_List _ (λ v x. cond (left x) (with_row v x) v) 0 c.fold.result c.fold.ensures.ran
    (YieldsList-from_range 0 n n (cc) (omega arith))
    (λ v x w q k. search (rules, tests))
    ∙ fold_filter left with_row 0 (range_with_len 0 n))
    ∙ held_is R c.args.placed n a
