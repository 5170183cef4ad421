use Rattle.std.proofs.Common.{ℕ, Bool, rules, not, ◌&&◌, ltb, get_or, ap, ap₂, ◌∙◌, arith}
use Rattle.std.specs.List.{range_with_len, list_any}
use Rattle.std.proofs.lemmas.Iterator.{YieldsList-from_range}
use Rattle.std.proofs.lemmas.Iterator.Search.{any_from_yields_List}
use borrow.Author.Tests.{tests}
use Rattle.execution.specs.Calls.{ops}
use Rattle.execution.specs.Operations.{touches}
use Rattle.serialization.proofs.Kept.{no_load_free}
use Rattle.serialization.proofs.serial.sees_last.Goals as goal

pub returns-in_default : goal.returns-in_default
returns-in_default c = no_load_free (ops c.args.execution.now) c.args.at.now c.args.load c.in_default.ensures

-- the source and the number of operations, as the code has them, are those of the definition
pub returns : goal.returns
returns c =
    let at = c.args.at.now in
    let n = c.len.result in
    let between : ℕ → ℕ → Bool = λ s t. touches (ops c.args.execution.now) t c.args.load && ltb (get_or at s 0) (get_or at t 0) && ltb (get_or at t 0) (get_or at c.args.load 0) in
    ap not (any_from_yields_List (between c.in-Some.source) _ _ _ c.any.ensures.ran (YieldsList-from_range 0 n n (cc) (omega arith)) (λ x b q k. search (rules, tests)))
    ∙ ap₂ (λ s m. not (list_any (between s) (range_with_len 0 m))) c.in-Some.ensures.1 c.len.ensures
