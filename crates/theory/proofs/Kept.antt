-- The statements of `specs/Promises.antt`, put together.
use Rattle.std.proofs.Common.{◌≡◌, ℕ, ◌<◌, Bool, false, T, ◌≢◌, List, length, take, None, refl, arith}
use Rattle.field.specs.declared.refusal.Refusal.{Refusal}
use Rattle.std.proofs.ByRecursion.{All-weaker}
use Rattle.execution.specs.declared.operation.Operation.{Operation}
use Rattle.theory.specs.Lists.{first_by}
use Rattle.theory.specs.Order.{Rows, Settled, cyclic}
use Rattle.theory.specs.Serial.{local, Opening, Serialization}
use Rattle.theory.specs.Case.{State, open', serial, impossible, Choice, Model, split, propose, refused, ended, refusal, lacks, after, greedy, splits, claims, Replies, taken, proposed, Turn, single}
use Rattle.theory.specs.Promises.{Reached, PromisesOfOrders, LawIsEnough, Promises, Sessions, Recording, Openings, OneRun, LeastIsTrue, SupposedIsTrue, SerialTest, OrdersStaySound, ChoicesFit}
use Rattle.theory.proofs.Operations.{lawful, local_here}
use Rattle.theory.proofs.Recording.{recorded_spreads}
use Rattle.theory.proofs.Counting.{Square, settled_square}
use Rattle.theory.proofs.Rules.{least_holds, supposed_holds}
use Rattle.theory.proofs.Coverage.{run_sound, opened_sound}
use Rattle.theory.proofs.OneThread.{serial_last, last_serial}
use Rattle.theory.proofs.Closures.{opening, opening_says}
use Rattle.theory.proofs.Reached.{Standing, Fit, opened_fit, reached}
use Rattle.theory.proofs.Tries.{no_tries, next_order}
use Rattle.theory.proofs.House.{last_order, turn_of}
use Rattle.theory.proofs.Serials.{is_serial, serial_is}
use Rattle.theory.proofs.Answered.{runs_exist}
use Rattle.theory.proofs.Determined.{same_rows, one_reply, admits_or_refuses, one_run}
use Rattle.theory.proofs.Bound.{bounds, few_undecided}
use Rattle.theory.proofs.Runs.{run_push, run_first}

not_impossible : (s : State) → T (ended s) → s ≢ impossible → s ≡ serial
not_impossible open' e d = absurd e
not_impossible serial e d = refl
not_impossible impossible e d = absurd (d refl)

module _ (L : ℕ → ℕ → Bool) (E : List Operation) (O : Rows) (M : Model) (x : Reached L E O M) where
  -- what the proofs keep of a reached case
  pub fit : Fit E O M
  fit = reached E O L x.formed x.lawful x.says x.run

  first_square : Square (length E) O
  first_square = settled_square (length E) O (opened_fit E O L x.formed x.lawful x.says).order.settled

  -- the last try of the house of an open case: where no other is left, its order is a serialization
  module _ (opn : M.state ≡ open') (acyclic : cyclic M.order ≡ false) (no_claim : first_by (lacks E M.order) (claims E) ≡ None) (no-split : first_by (lacks E M.order) (splits E) ≡ None) where
    pub last_try : (refusal E M (propose (greedy E M.order)) ≡ None) × Serialization L E (greedy E M.order)
    last_try = last_order L E x.lawful x.formed O x.says M fit opn (no_tries E M opn acyclic no_claim no-split)

    pub last_turn : Turn L E M (propose (greedy E M.order)) (after E M (propose (greedy E M.order)))
    last_turn = (next_order E M opn acyclic no_claim no-split last_try.0, proposed last_try.0 last_try.1)

    -- so it is not refused
    pub not_stuck : {e : Refusal} {M' : Model} → Replies L E M (propose (greedy E M.order)) (refused e) M' → ⊥
    not_stuck r = admits_or_refuses L E (one_reply L E last_turn.1 r).0

pub promises_of_orders : PromisesOfOrders
promises_of_orders L E O M x =
    let w = x.formed in
    let law = x.lawful in
    let m = run_sound L E w x.run (opened_sound L E w O x.says) in
    record {
      serial_is_true = m.served;
      impossible_is_true = λ e σ S. (m.covered σ S).0 e;
      house_goes_on = turn_of L E law w O x.says M (fit L E O M x);
      bounded = (bounds L E w O (first_square L E O M x) x.run).0;
      one_thread = λ one e. (
        (λ s l load. serial_last L E law w one l load M.witness (m.served s)),
        (λ lasts. not_impossible M.state e (m.covered _ (last_serial L E law w one lasts)).0),
      );
    }

pub law_is_enough : LawIsEnough
law_is_enough = lawful

pub promises : Promises
promises keeps law E w O says qs rs M run =
    promises_of_orders (local keeps E) E O M (record { lawful = lawful keeps law E; formed = w; says = says; calls = qs; answers = rs; run = run })

pub sessions : Sessions
sessions keeps law E w O says qs rs M run = record {
  says = says;
  run = run;
  kept = λ k h. let p = run_first (local keeps E) E run k in (p.0, p.1, promises keeps law E w O says (take k qs) (take k rs) p.0 p.1);
}

pub recording : Recording
recording = recorded_spreads

pub openings : Openings
openings L E law w = let s = opening_says L E law w in (opening L E, s, λ Q t. same_rows E (Opening L E) s t)

pub each_one_run : OneRun
each_one_run L E law w O says qs = let r = runs_exist L E law w O says qs in (r.0, r.1, r.2, λ rs M run. one_run L E r.2 run)

pub least_is_true : LeastIsTrue
least_is_true L E w σ S a b h = least_holds L E σ S w h

pub supposed_is_true : SupposedIsTrue
supposed_is_true L E w σ S R r a b p x y h = supposed_holds L E σ S w R r a b p h

pub serial_test : SerialTest
serial_test L E law σ = (is_serial L E σ (local_here L E law), serial_is L E σ)

pub orders_stay_sound : OrdersStaySound
orders_stay_sound L E O M x =
    let f = fit L E O M x in
    record {
      settled = f.order.settled;
      grown = f.order.grown;
      stood = All-weaker (Standing E O) (λ (c : Choice). Settled (length E) c.stood) (λ c s. s.order.settled) M.choices f.choices;
    }

pub choices_fit : ChoicesFit
choices_fit L E O M x =
    let square = first_square L E O M x in
    let few = few_undecided E O x.formed.few in
    let fits = (bounds L E x.formed O square x.run).1 in
    record {
      fit = fits;
      few = few;
      most = omega arith;
      room = λ s t h. omega (arith, (bounds L E x.formed O square (run_push L E x.run (single (taken {q = split s t} tt h)))).1, few);
      within = All-weaker (Standing E O) (λ (c : Choice). (c.one < length E) × (c.other < length E)) (λ c s. (s.one_in, s.other_in)) M.choices (fit L E O M x).choices;
    }
