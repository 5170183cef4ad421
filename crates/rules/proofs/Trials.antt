-- An order with a pair supposed, and closed.
use Rattle.std.proofs.Common.{◌≡◌, ℕ, ◌<◌, ◌≤◌, length, sym, subst, arith}
use Rattle.execution.specs.declared.execution.Execution.{Execution}
use Rattle.execution.specs.Calls.{ops}
use Rattle.order.specs.declared.order.Order.{Order}
use Rattle.theory.specs.Order.{Rows, before, recorded, Settled, pairs, Says}
use Rattle.theory.specs.Serial.{Derived, Supposed}
use Rattle.theory.proofs.Counting.{settled_recorded}
use Rattle.theory.proofs.Supposing.{derived_supposed, supposed_grows}
use Rattle.order.specs.Rows.{rows_of}
use Rattle.rules.proofs.Executions.{formed, rows_long, cut}

-- o is the order that was lent, p has a before b recorded
module _ (e : Execution) (o p : Order) (s : Settled (length (ops e)) (rows_of e o)) (a b : ℕ) (a_in : a < length (ops e)) (b-in : b < length (ops e)) (noted : p.rows ≡ recorded a b o.rows) where
  same : rows_of e p ≡ recorded a b (rows_of e o)
  same = cut e o p a b b-in noted

  pub still_settled : Settled (length (ops e)) (rows_of e p)
  still_settled = subst (Settled (length (ops e))) (sym same) (settled_recorded (length (ops e)) a b (rows_of e o) s b-in)

  -- q is closed
  module _ (q : Order) (closed : Says (ops e) (rows_of e q) (Derived (ops e) (before (rows_of e p)))) where
    pub supposes : Says (ops e) (rows_of e q) (Supposed (ops e) (rows_of e o) a b)
    supposes =
        let l = rows_long e o in
        derived_supposed (ops e) (rows_of e o) a b (omega arith) (rows_of e q) (subst (λ (R : Rows). Says (ops e) (rows_of e q) (Derived (ops e) (before R))) same closed)

    pub grows : pairs (rows_of e o) ≤ pairs (rows_of e q)
    grows = supposed_grows (ops e) (formed e) (rows_of e o) s a b a_in b-in (rows_of e q) supposes
