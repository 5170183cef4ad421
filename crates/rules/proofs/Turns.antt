-- Recording the first claim that is missing until there is none closes an order.
use Rattle.std.proofs.Common.{◌≡◌, ℕ, ◌<◌, T, not, eqb, length, Some, None, sym, subst, arith}
use Rattle.execution.specs.declared.execution.Execution.{Execution}
use Rattle.execution.specs.Operations.{source, touches}
use Rattle.execution.specs.Calls.{ops}
use Rattle.order.specs.declared.order.Order.{Order}
use Rattle.theory.specs.Lists.{first_by}
use Rattle.theory.specs.Order.{Rows, before, recorded, Settled, missing, Says}
use Rattle.theory.specs.Serial.{Derived}
use Rattle.theory.specs.Case.{Call, pair, lacks, claim_a, premise, stands, claims}
use Rattle.theory.proofs.Tests.{and_parts, three}
use Rattle.theory.proofs.Firsts.{first_some}
use Rattle.theory.proofs.Tries.{all_claims}
use Rattle.theory.proofs.Operations.{source_here, touch_parts}
use Rattle.theory.proofs.Recording.{recorded_keeps}
use Rattle.theory.proofs.Saturation.{none_lacks, Gain, gain, gain_part, gain_falls}
use Rattle.theory.proofs.Supposing.{derived_ruled, Between, closed_says, closing_starts}
use Rattle.rules.specs.declared.claim.Claim.{Claim}
use Rattle.order.specs.Rows.{rows_of}
use Rattle.rules.specs.Claims.{call_of}
use Rattle.rules.proofs.Executions.{formed, few, cut}

-- the first claim that is missing is of operations
module _ (e : Execution) (o : Order) where
  abbrev Fits : Call → Type 0
  Fits c = T (lacks (ops e) (rows_of e o) c) → ((pair (ops e) c).0 < length (ops e)) × ((pair (ops e) c).1 < length (ops e))

  pub fits : (c : Claim) → Some (call_of c) ≡ first_by (lacks (ops e) (rows_of e o)) (claims (ops e)) → ((pair (ops e) (call_of c)).0 < 32) × ((pair (ops e) (call_of c)).1 < 32)
  fits c found =
      let n = few e in
      let p = first_some (lacks (ops e) (rows_of e o)) Fits (claims (ops e)) (call_of c) (all_claims (ops e) Fits fits_a (λ l s p q _. (p, q)) (λ l k a b _ _ p q _. (p, q))) (sym found) in
      let h = p.1 p.0 in
      (omega (arith, h.0), omega (arith, h.1))
    where
      fits_a : (l s : ℕ) → l < length (ops e) → s < length (ops e) → Fits (claim_a l s)
      fits_a l s p q h =
          let E = ops e in
          let R = rows_of e o in
          let r = and_parts (premise E R (claim_a l s)) (not (stands E R (claim_a l s))) h in
          let t = three (touches E s l) (not (eqb s (source E l))) (before R s l) r.0 in
          (q, source_here E (formed e) l (touch_parts E s l t.0).load)

module _ (e : Execution) (o : Order) where
  abbrev Base : ℕ → ℕ → Type 0
  Base = Derived (ops e) (before (rows_of e o))

  -- p is between the order o at the start and what follows from it
  pub record Closing (p : Order) : Type 0 where
    pub between : Between (ops e) (formed e) (before (rows_of e o)) (rows_of e p)
    pub more : (x y : ℕ) → T (before (rows_of e o) x y) → T (before (rows_of e p) x y)

  pub begun : Settled (length (ops e)) (rows_of e o) → Closing o
  begun s = record { between = closing_starts (ops e) (formed e) (rows_of e o) s; more = λ x y t. t }

  -- one turn, from p, with the first claim that is missing
  module _ (p : Order) (s : Closing p) (c : Claim) (found : Some (call_of c) ≡ first_by (lacks (ops e) (rows_of e p)) (claims (ops e))) where
    abbrev a : ℕ
    a = (pair (ops e) (call_of c)).0

    abbrev b : ℕ
    b = (pair (ops e) (call_of c)).1

    won : Gain (ops e) (formed e) Base (derived_ruled (ops e) (before (rows_of e o))) (rows_of e p) a b
    won = gain (ops e) (formed e) Base (derived_ruled (ops e) (before (rows_of e o))) (rows_of e p) s.between (call_of c) (sym found)

    module _ (q : Order) (noted : q.rows ≡ recorded a b p.rows) where
      same : rows_of e q ≡ recorded a b (rows_of e p)
      same = cut e p q a b won.to noted

      pub again : Closing q
      again = record {
        between = subst (Between (ops e) (formed e) (before (rows_of e o))) (sym same) (gain_part (ops e) (formed e) Base (derived_ruled (ops e) (before (rows_of e o))) (rows_of e p) s.between a b won);
        more = λ x y t. subst (λ (R : Rows). T (before R x y)) (sym same) (recorded_keeps a b (rows_of e p) x y (s.more x y t));
      }

      pub less : missing (ops e) (rows_of e q) < missing (ops e) (rows_of e p)
      less = subst (λ (R : Rows). missing (ops e) R < missing (ops e) (rows_of e p)) (sym same) (gain_falls (ops e) (formed e) Base (derived_ruled (ops e) (before (rows_of e o))) (rows_of e p) s.between a b won)

  -- where no claim is missing
  pub closed : (p : Order) → Closing p → None ≡ first_by (lacks (ops e) (rows_of e p)) (claims (ops e)) → Says (ops e) (rows_of e p) (Derived (ops e) (before (rows_of e o)))
  closed p s none = closed_says (ops e) (formed e) (before (rows_of e o)) (rows_of e p) s.between s.more (none_lacks (ops e) (rows_of e p) (sym none))
