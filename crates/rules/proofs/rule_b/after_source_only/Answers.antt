use Rattle.std.proofs.Common.{not, ◌&&◌, ◌∙◌, ap₂, arith}
use Rattle.order.specs.Bits.{bit}
use Rattle.order.proofs.Bitwise.{bit_less}
use Rattle.rules.proofs.rule_b.after_source_only.Goals as goal

pub returns : goal.returns
returns c = λ s. bit_less 32 c.row.result c.row-2.result s (omega arith) (omega arith) ∙ ap₂ (λ x y. bit x s && not (bit y s)) c.row.ensures c.row-2.ensures
