use Rattle.std.proofs.Common.{◌≡◌, cond, ◌||◌, eqb, get_or, sym, ap, ◌∙◌, subst, arith}
use lib.Bits.{bit_or}
use Rattle.std.proofs.lemmas.Nat.{one_shl}
use Rattle.theory.specs.Order.{before, recorded, Spread}
use Rattle.theory.proofs.Cut.{as_recorded}
use Rattle.theory.proofs.Recording.{recorded_spreads}
use Rattle.order.proofs.order.Order.record.Goals as goal

pub returns : goal.returns
returns c =
    let rows = c.args.self.now.rows in
    let a = c.args.a in
    let b = c.args.b in
    let same : c.loop-x.row-items ≡ recorded a b rows =
    as_recorded a b rows _ c.loop-x.invariant.0
    (λ x h. c.loop-x.invariant.1 x (omega arith)
    ∙ ap (λ v. cond (eqb x a || before rows x a) (bit_or (get_or rows x 0) (bit_or (get_or rows b 0) v)) (get_or rows x 0)) (one_shl b 32 (omega arith))) in
    record { records = same; spreads = subst (Spread a b rows) (sym same) (recorded_spreads a b rows) }
