use Rattle.std.proofs.Common.{rules}
use Rattle.execution.specs.Calls.{ops}
use Rattle.theory.specs.Case.{claims_a, claims_b, claims_c}
use Rattle.rules.proofs.Lists.{of_three}
use Rattle.rules.proofs.missing.first_missing.Goals as goal

pub returns : goal.returns
returns c =
    let e = c.args.execution.now in
    of_three e c.args.order.now (claims_a (ops e)) (claims_b (ops e)) (claims_c (ops e)) _ _ _ _ _ c.first_a.ensures c.or_else.ensures c.or_else-2.ensures (λ p. search rules) (λ p. search rules)
