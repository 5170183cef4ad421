use Rattle.std.proofs.Common.{◌≡◌, ◌+◌, ap, arith, rules}
use Rattle.theory.specs.Case.{Turns, spent, single, housed, turned_away}
use Rattle.theory.proofs.Runs.{house_may, house_ended, turns_push, turns_left}
use Rattle.desk.specs.declared.state.State.TheVariants.{Open}
use Rattle.desk.specs.declared.desk.Desk.{Desk}
use Rattle.desk.specs.Model.{events, locally, at_first, model, state_of}
use Rattle.house.specs.Turns.{Come, Turned}
use Rattle.house.proofs.Come.{turns_on}
use Rattle.house.proofs.Ends.{not_open}
use Rattle.house.proofs.budget.house.Goals as goal

pub returns-then-ne-clause-heard : goal.returns-then-ne-clause-heard
returns-then-ne-clause-heard c =
    let g = c.args.given.now in
    single (turned_away (house_ended (locally g) (events g) (model g c.args.desk.now) c.args.budget (not_open c.args.desk.now.state (search rules))))

pub loop-made-init : goal.loop-made-init
loop-made-init c = record { taken = spent; come = c.requires }

pub returns-then-ne-2-clause-heard : goal.returns-then-ne-2-clause-heard
returns-then-ne-2-clause-heard c =
    let g = c.args.given.now in
    let first : c.args.desk.now.state ≡ Open = search rules in
    housed (house_may (locally g) (events g) (model g c.args.desk.now) c.args.budget (ap state_of first))
    (turns_left (locally g) (events g) c.args.budget c.loop-made.invariant.taken (not_open c.loop-made.desk.state (search rules)) (omega arith))

pub loop-made-preserved : goal.loop-made-preserved
loop-made-preserved c =
    let g = c.args.given.now in
    let inv = c.loop-made.invariant in
    let going : c.loop-made.desk.state ≡ Open = search rules in
    let n = c.loop-made.made + 1 in
    let taken : (d : Desk) → Turned g c.loop-made.desk d → Turns (locally g) (events g) (model g c.args.desk.now) n n (model g d) =
    λ d took. turns_push (locally g) (events g) inv.taken (ap state_of going) took.1 in
    let come : (d : Desk) → Turned g c.loop-made.desk d → Come g d = λ d took. turns_on (locally g) (events g) (at_first g) (ap state_of going) took.1 inv.come in
    search (rules, taken, come)

pub returns-clause-heard : goal.returns-clause-heard
returns-clause-heard c =
    let g = c.args.given.now in
    let first : c.args.desk.now.state ≡ Open = search rules in
    let all : c.loop-made.made ≡ c.args.budget = omega arith in
    housed (house_may (locally g) (events g) (model g c.args.desk.now) c.args.budget (ap state_of first)) (rw all at c.loop-made.invariant.taken)
