-- What every execution keeps, and an order's rows of it.
use Rattle.std.proofs.Common.{◌≡◌, ℕ, ◌<◌, ◌≤◌, false, ◌&&◌, ltb, List, length, take, sym, refl, ap, ◌∙◌, inl, inr, arith}
use Rattle.std.proofs.lemmas.List.{length-take-le, get_or_past}
use Rattle.std.proofs.lemmas.Bool.{cases_Bool, ltb-false}
use Rattle.execution.specs.declared.operation.Action.{Action}
use Rattle.execution.specs.declared.operation.Action.TheVariants as act
use Rattle.execution.specs.declared.operation.Operation.{Operation}
use Rattle.execution.specs.Operations.{idle, op, is_load, source_of, load_at, source}
use Rattle.execution.specs.declared.execution.Execution.{Execution}
use Rattle.execution.specs.Calls.{ops}
use Rattle.execution.specs.Formed.{WellFormed}
use Rattle.execution.proofs.Tested.{well_formed}
use Rattle.order.specs.declared.order.Order.{Order}
use Rattle.theory.specs.Order.{recorded}
use Rattle.theory.proofs.Cut.{cut_recorded}
use Rattle.order.specs.Rows.{rows_of}

pub formed : (e : Execution) → WellFormed (ops e)
formed e = well_formed (ops e) e.formed

pub few : (e : Execution) → length (ops e) ≤ 32
few e = (formed e).few

-- there is a row for each operation
pub rows_long : (e : Execution) (o : Order) → length (rows_of e o) ≡ length (ops e)
rows_long e o = let full = o.full in let h = few e in length-take-le (length (ops e)) o.rows (omega arith)

-- what recording does to the rows of the operations
pub cut : (e : Execution) (o q : Order) (a b : ℕ) → b < length (ops e) → q.rows ≡ recorded a b o.rows → rows_of e q ≡ recorded a b (rows_of e o)
cut e o q a b h r = let full = o.full in let k = few e in ap (take (length (ops e))) r ∙ cut_recorded (length (ops e)) a b o.rows (omega arith) h

-- what is no load has the source 0
unloaded : (a : Action) → is_load a ≡ false → source_of a ≡ 0
unloaded (act.Load x s) e = absurd cc
unloaded (act.Store x) e = refl
unloaded act.Fence e = refl
unloaded act.Branch e = refl

-- so has a number that is no load's
pub no_source : (E : List Operation) (l : ℕ) → load_at E l ≡ false → source E l ≡ 0
no_source E l h =
    elim (cases_Bool (ltb l (length E))) [
      | inl t ↦ unloaded (op E l).action (ap (λ b. b && is_load (op E l).action) (sym t) ∙ h)
      | inr f ↦ ap (λ o. source_of o.action) (get_or_past E l idle (ltb-false l (length E) f))
    ]
