use Rattle.std.proofs.Common.{◌≡◌, arith, rules}
use Rattle.std.proofs.lemmas.Iterator.{YieldsList-from_range, cases_from_all}
use borrow.Author.Tests.{tests}
use Rattle.theory.specs.Lists.{count}
use Rattle.serialization.proofs.Lists.{all_below}
use Rattle.serialization.proofs.serial.each_once.Goals as goal

pub returns : goal.returns
returns c =
    let σ = c.args.order.now in
    all_below (λ a. count σ a ≡ 1) (λ a. count σ a ≡ 1 → ⊥) c.args.n c.all.result (λ a e d. d e)
    (cases_from_all _ _ _ (λ a. count σ a ≡ 1) (λ a. count σ a ≡ 1 → ⊥) c.all.ensures.ran (YieldsList-from_range 0 c.args.n c.args.n (cc) (omega arith)) (λ x q k. search (rules, tests)) (λ x q k. search (rules, tests)))
