use Rattle.std.proofs.Common.{rules}
use Rattle.theory.specs.Case.{claim_b}
use Rattle.rules.proofs.Pairs.{first_claim, no_claim_b}
use Rattle.rules.proofs.rule_b.first_b.Goals as goal

pub returns : goal.returns
returns c =
    first_claim c.args.execution.now c.args.order.now claim_b _ _ _ _ c.first_pair.ensures c.map.ensures.cases (no_claim_b _ _) (λ l s b a p. search rules) (λ x d q. search rules)
