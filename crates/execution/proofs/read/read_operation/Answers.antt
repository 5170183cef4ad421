use Rattle.std.proofs.Common.{◌≡◌, Ok, Err, Option, Result, ap, sym, ◌∙◌, rules, arith, MatchResult}
use Rattle.field.specs.declared.refusal.Refusal.{Refusal}
use Rattle.field.specs.declared.fault.Layer.TheVariants as layer
use Rattle.field.specs.declared.fault.Fault.{Fault}
use Rattle.field.specs.Faults.{fault, unless, and_then}
use Rattle.execution.specs.declared.operation.Operation.{Operation}
use Rattle.execution.specs.Reading.{unless_refused, operation_from}
use Rattle.execution.proofs.read.read_operation.Goals as goal

as_fault : (n : Option Refusal) (o : Operation) (r : Result Operation Refusal) (t : Result Operation Fault) → r ≡ unless_refused n o → MatchResult r (λ x. t ≡ Ok x) (λ e. t ≡ Err (fault e layer.Record)) → t ≡ unless n layer.Record o
as_fault n o r t p h = grind arith

pub returns-clause-told : goal.returns-clause-told
returns-clause-told c =
    let E = c.args.operations.now in
    let same : c.unwrap-body.result ≡ c.in_ok-field.field.now = search rules in
    let m : MatchResult c.operation_after.result (λ x. c.map_err.result ≡ Ok x) (λ e. c.map_err.result ≡ Err (fault e layer.Record)) = search rules in
    as_fault _ _ c.operation_after.result c.map_err.result c.operation_after.ensures m
    ∙ ap (operation_from E) same
    ∙ sym (ap (λ r. and_then r (operation_from E)) c.in_ok-field.ensures.told)
