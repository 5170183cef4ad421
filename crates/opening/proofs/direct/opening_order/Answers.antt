use Rattle.std.proofs.Common.{ℕ, ◌+◌, ◌<◌, T, List, length, take, replicate, sym, ap, ◌∙◌, subst, arith}
use Rattle.std.proofs.lemmas.List.{length-take-le}
use Rattle.execution.specs.Calls.{ops}
use Rattle.execution.proofs.Tested.{well_formed}
use Rattle.order.specs.declared.order.Order.{Order}
use Rattle.theory.specs.Order.{before}
use Rattle.theory.proofs.Recording.{before_in}
use Rattle.theory.proofs.Cut.{cut_recorded}
use Rattle.theory.proofs.Closures.{Built, built_none, built_says}
use Rattle.order.specs.Rows.{rows_of}
use Rattle.order.proofs.Room.{few, rows_fit, rows_long}
use Rattle.opening.proofs.Recorded.{none_before, Above, Along, step_yes, step_no, row_done, says_settled}
use Rattle.opening.proofs.direct.opening_order.Goals as goal
use Rattle.opening.proofs.direct.opening_order.Goals.{then-is_direct, else-is_direct}

pub loop-a-init : goal.loop-a-init
loop-a-init c =
    let e = c.args.execution.now in
    let E = ops e in
    let n : ℕ = length E in
    let L = before (rows_of e c.args.local.now) in (
      subst (λ (rows : List ℕ). Built L E (take n rows)) (sym c.empty-order.ensures) (built_none L E (take n (replicate 32 0)) (length-take-le n (replicate 32 0) (few e)) (none_before n (few e))),
      λ x y h. absurd (omega arith),
    )

pub loop-b-preserved : goal.loop-b-preserved
loop-b-preserved c =
    let e = c.args.execution.now in
    let E = ops e in
    let n : ℕ = length E in
    let L = before (rows_of e c.args.local.now) in
    let o = c.loop-b.order in
    let a : ℕ = c.loop-a.a in
    let b : ℕ = c.loop-b.b in
    let R = rows_of e o in
    let inv = c.loop-b.invariant in
    let m = c.len-n.ensures in
    let a_in : a < n = omega arith in
    let b-in : b < n = omega arith in
    elim c.if-is_direct.branch [
      | then-is_direct w ↦ step_yes L E a b R (rows_of e c.if-is_direct.order) (ap (λ (x : Order). rows_of e x) w.order-is ∙ ap (take n) w.record.ensures.records ∙ cut_recorded n a b o.rows (rows_fit e o) b-in) a_in w.if-is_direct.ensures inv.0 inv.1 inv.2
      | else-is_direct w ↦ subst (λ (x : Order). Built L E (rows_of e x) × Above L E a (rows_of e x) × Along L E a (b + 1) (rows_of e x)) (sym w.order-is) (inv.0, inv.1, step_no L E a b R w.if-is_direct.ensures inv.2)
    ]

pub loop-a-preserved : goal.loop-a-preserved
loop-a-preserved c =
    let e = c.args.execution.now in
    let inv = c.loop-b.invariant in
    let m = c.len-n.ensures in
    (inv.0, row_done (before (rows_of e c.args.local.now)) (ops e) c.loop-a.a c.loop-b.b (rows_of e c.loop-b.order) (omega arith) inv.1 inv.2)

pub returns : goal.returns
returns c =
    let e = c.args.execution.now in
    let E = ops e in
    let l = c.args.local.now in
    let L = before (rows_of e l) in
    let R = rows_of e c.loop-a.order in
    let inv = c.loop-a.invariant in
    let m = c.len-n.ensures in
    let W = well_formed E e.formed in
    let here : (a b : ℕ) → T (L a b) → (a < length E) × (b < length E) = λ a b t. (let h = before_in (rows_of e l) a b t in omega (arith, rows_long e l), c.requires a b t) in
    let says = built_says L E W here R inv.0 (λ a b h k t. inv.1 a b (omega arith) k t) in
    record { says = says; settled = says_settled L E W here R says }
