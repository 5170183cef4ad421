use Rattle.std.proofs.Common.{◌≡◌, ℕ, ◌<◌, ◌≤◌, Bool, T, List, length, get_or, sym, refl, ap, ◌∙◌, subst, arith}
use Rattle.std.proofs.lemmas.List.{length-set}
use Rattle.execution.specs.Calls.{ops}
use Rattle.order.specs.Bits.{bit}
use Rattle.theory.specs.Serial.{local, LawfulOrder}
use Rattle.theory.proofs.Operations.{lawful, same_order}
use Rattle.order.proofs.Room.{few, rows_fit}
use Rattle.opening.proofs.Kept.{zeros, rows_more, rest_more, all_rows, cut_rows, kept_here}
use Rattle.opening.proofs.local.local_order.Goals as goal

pub loop-a-init : goal.loop-a-init
loop-a-init g c = (refl, λ x y l. absurd (omega arith), λ x l. zeros 32 x)

pub loop-a-preserved : goal.loop-a-preserved
loop-a-preserved g c =
    let e = c.args.execution.now in
    let f = local (g.B.RuleBook.keeps c.args.book.now) (ops e) in
    let rows = c.loop-a.rows in
    let a = c.loop-a.a in
    let row = c.local_row.result in
    let inv = c.loop-a.invariant in
    let h = few e in
    let long = inv.0 in
    (length-set rows a row ∙ long, rows_more f rows a row (omega arith) inv.1 (λ y. ap (λ (g : ℕ → Bool). g y) c.local_row.ensures), rest_more rows a row inv.2)

pub returns : goal.returns
returns g c =
    let e = c.args.execution.now in
    let E = ops e in
    let keeps = g.B.RuleBook.keeps c.args.book.now in
    let law = g.met.B.RuleBook.lawful c.args.book.now in
    let o = c.from.result in
    let inv = c.loop-a.invariant in
    let n = c.len-a-end.ensures in
    let here : (x y : ℕ) → x < length E → bit (get_or o.rows x 0) y ≡ local keeps E x y = λ x y l. ap (λ (R : List ℕ). bit (get_or R x 0) y) c.from.ensures ∙ inv.1 x y (omega arith) in
    let rest : (x : ℕ) → length E ≤ x → get_or o.rows x 0 ≡ 0 = λ x l. ap (λ (R : List ℕ). get_or R x 0) c.from.ensures ∙ inv.2 x (omega arith) in
    let kept = cut_rows keeps law E o.rows (rows_fit e o) here rest in
    record {
      kept = kept;
      whole = all_rows keeps law E o.rows (rows_fit e o) here rest;
      within = λ a b t. (kept_here keeps law E a b (subst T (kept a b) t)).1;
      lawful = subst (λ (L : ℕ → ℕ → Bool). LawfulOrder L E) (sym (same_order kept)) (lawful keeps law E);
    }
