use Rattle.std.proofs.Common.{◌≡◌, ◌∙◌, sym, rules}
use Rattle.std.proofs.lemmas.Iterator.{YieldsList-from_slice, IsFirst-from_position}
use borrow.Author.Tests.{tests}
use Rattle.serialization.proofs.Lists.{place_by}
use Rattle.serialization.proofs.places.place.Goals as goal

pub returns : goal.returns
returns c =
    let first = IsFirst-from_position _ _ _ (λ x. x ≡ c.args.a) (λ x. x ≡ c.args.a → ⊥) c.position.ensures.ran (YieldsList-from_slice c.args.order.now cc)
    (λ x q k. search (rules, tests)) (λ x q k. search (rules, tests)) in
    c.unwrap_or.ensures ∙ sym (place_by c.args.order.now c.args.a c.position.result first)
