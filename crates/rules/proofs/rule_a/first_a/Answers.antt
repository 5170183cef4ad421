use Rattle.std.proofs.Common.{rules}
use Rattle.theory.specs.Case.{claim_a}
use Rattle.rules.proofs.Pairs.{first_claim, no_claim_a}
use Rattle.rules.proofs.rule_a.first_a.Goals as goal

pub returns : goal.returns
returns c =
    first_claim c.args.execution.now c.args.order.now claim_a _ _ _ _ c.first_pair.ensures c.map.ensures.cases (no_claim_a _ _) (λ l s b a p. search rules) (λ x d q. search rules)
