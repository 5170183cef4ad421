-- The worked examples hold.
use Rattle.std.proofs.Common.{◌≡◌, ℕ, zero, suc, ◌-◌, ◌<◌, ◌≤◌, Bool, T, ◌≢◌, List, [], ◌∷◌, Some, None, Option, sym, refl, ap, ◌∙◌, subst, arith, lit<, rules}
use lib.Count.{ones, ones_in}
use Rattle.execution.specs.declared.operation.Operation.{Operation}
use Rattle.rulebook.specs.declared.seen.Seen.{Seen}
use Rattle.execution.specs.Operations.{op}
use Rattle.theory.specs.Lists.{first_by}
use Rattle.theory.specs.Order.{Rows, recorded, cyclic, pairs, missing, Says}
use Rattle.theory.specs.Serial.{local, Opening, Serialization, OneThread}
use Rattle.theory.specs.Case.{State, open', serial, impossible, Model, opened, Call, what_if, Answer, supposed, ended, lacks, refusal, claims, imagined, single, Run, done, more}
use Rattle.rulebook.specs.Books.{Law, sc, weak, dependent}
use Rattle.execution.specs.Formed.{WellFormed}
use Rattle.theory.specs.Examples.{message, message_dependent, two_stores, seen_both_ways, stale, Expected, counts, plays, no_serialization, ComesOut, Under, ExamplesHold}
use Rattle.execution.proofs.Tested.{well_formed}
use Rattle.theory.proofs.Operations.{lawful}
use Rattle.theory.proofs.OneThread.{serial_last}
use Rattle.theory.proofs.Refusals.{not_refused}
use Rattle.theory.proofs.Reached.{opened_fit}
use Rattle.theory.proofs.Supposing.{supposed_at_once}
use Rattle.theory.proofs.Kept.{promises}
use Rattle.theory.proofs.Closures.{opening, opening_says}
use Rattle.theory.proofs.Determined.{same_rows}
use Rattle.theory.proofs.Playing.{Ran, played}

abbrev outcome : {L : ℕ → ℕ → Bool} {E : List Operation} {O : Rows} {qs : List Call} → Option ((rs : List Answer) × (M : Model) × Run L E (opened O) qs rs M) → Option (List Answer × State)
outcome None = None
outcome (Some r) = Some (r.0, r.1.state)

module _ (keeps : Seen → Seen → Bool) (law : Law keeps) (E : List Operation) (w : WellFormed E) (O : Rows) (o : opening (local keeps E) E ≡ O) where
  -- what comes out at this opening order comes out at every one, since there is no other
  at_opening : (x : Expected) → ComesOut (local keeps E) E O x → Under keeps E x
  at_opening x c Q says = subst (λ R. ComesOut (local keeps E) E R x) (sym o ∙ same_rows E (Opening (local keeps E) E) (opening_says (local keeps E) E (lawful keeps law E) w) says) c

  told : (qs : List Call) (rs : List Answer) (s : State) (p : Option (Ran (local keeps E) E (lawful keeps law E) (opened O) qs)) → outcome p ≡ Some (rs, s) → ComesOut (local keeps E) E O (plays qs rs s)
  told qs rs s None e = let z : ◌≡◌ {A = ℕ} 0 1 = cc in absurd (omega arith)
  told qs rs s (Some r) e =
      let q : ◌≡◌ {A = List Answer × State} (r.0, r.1.state) (rs, s) = cc in
      (r.1, subst (λ z. Run (local keeps E) E (opened O) qs z.0 r.1) q r.2, ap (λ z. z.1) q)

  -- the calls of an example played out
  by_playing : (qs : List Call) (rs : List Answer) (s : State) → outcome (played (local keeps E) E (lawful keeps law E) qs (opened O)) ≡ Some (rs, s) → Under keeps E (plays qs rs s)
  by_playing qs rs s e = at_opening (plays qs rs s) (told qs rs s (played (local keeps E) E (lawful keeps law E) qs (opened O)) e)

  -- a what-if that makes no claim possible
  by_supposing : (a b : ℕ) → refusal E (opened O) (what_if a b) ≡ None
      → first_by (lacks E (recorded a b O)) (claims E) ≡ None
      → Under keeps E (plays (what_if a b ∷ []) (supposed (pairs (recorded a b O) - pairs O) (cyclic (recorded a b O)) ∷ []) open')
  by_supposing a b e t =
      let f = (opened_fit E O (local keeps E) w (lawful keeps law E) (subst (λ R. Says E R (Opening (local keeps E) E)) o (opening_says (local keeps E) E (lawful keeps law E) w))).order in
      let n = (not_refused E (opened O) (what_if a b) e).numbers in
      at_opening (plays (what_if a b ∷ []) (supposed (pairs (recorded a b O) - pairs O) (cyclic (recorded a b O)) ∷ []) open')
      (opened O, more (single (imagined (recorded a b O) e (supposed_at_once E w O f.settled a b n.0 n.1.0 t))) done, refl)

sc_law : Law sc
sc_law = search rules

weak_law : Law weak
weak_law = search rules

dependent_law : Law (dependent weak)
dependent_law = search rules

of_nothing : WellFormed []
of_nothing = well_formed [] tt

of_message : WellFormed message
of_message = well_formed message tt

of_message_dependent : WellFormed message_dependent
of_message_dependent = well_formed message_dependent tt

of_two_stores : WellFormed two_stores
of_two_stores = well_formed two_stores tt

of_seen_both_ways : WellFormed seen_both_ways
of_seen_both_ways = well_formed seen_both_ways tt

of_stale : WellFormed stale
of_stale = well_formed stale tt

message_order : opening (local weak message) message ≡ 62 ∷ 28 ∷ 24 ∷ 16 ∷ 0 ∷ 0 ∷ []
message_order = refl

two_stores_order : opening (local weak two_stores) two_stores ≡ 0 ∷ 0 ∷ []
two_stores_order = refl

seen_both_ways_order : opening (local sc seen_both_ways) seen_both_ways ≡ 44 ∷ 56 ∷ 8 ∷ 0 ∷ 32 ∷ 0 ∷ []
seen_both_ways_order = refl

stale_thread : (a : ℕ) → a < 3 → (op stale a).thread ≡ 1
stale_thread zero h = refl
stale_thread (suc zero) h = refl
stale_thread (suc (suc zero)) h = refl
stale_thread (suc (suc (suc a))) h = absurd (omega arith)

stale_has_none : (keeps : Seen → Seen → Bool) → Law keeps → (σ : List ℕ) → Serialization (local keeps stale) stale σ → ⊥
stale_has_none keeps law σ S =
    let one : OneThread stale = λ a b h k. stale_thread a h ∙ sym (stale_thread b k) in
    let last = serial_last (local keeps stale) stale (lawful keeps law stale) of_stale one 2 tt σ S in
    let least : 1 ≤ 0 = last.last 1 tt (lit< tt) in
    omega arith

not_serial : (s : State) → T (ended s) → s ≢ serial → s ≡ impossible
not_serial open' e d = absurd e
not_serial serial e d = absurd (d refl)
not_serial impossible e d = refl

stale_impossible : (keeps : Seen → Seen → Bool) → Law keeps → Under keeps stale no_serialization
stale_impossible keeps law O says = (
  stale_has_none keeps law,
  λ qs rs M run e. not_serial M.state e (λ s. stale_has_none keeps law M.witness ((promises keeps law stale of_stale O says qs rs M run).serial_is_true s)),
)

pub examples_hold : ExamplesHold
unfolding missing pairs ones ones_in
examples_hold = (
  (of_nothing, at_opening weak weak_law [] of_nothing [] refl (counts 0 0) (refl, refl)),
  (
    (of_nothing, by_playing weak weak_law [] of_nothing [] refl _ _ _ refl),
    (
      (of_message, at_opening weak weak_law message of_message _ message_order (counts 25 0) (refl, refl)),
      (
        (of_message, by_playing weak weak_law message of_message _ message_order _ _ _ refl),
        (
          (of_message, by_playing weak weak_law message of_message _ message_order _ _ _ refl),
          (
            (of_message_dependent, by_playing weak weak_law message_dependent of_message_dependent (62 ∷ 28 ∷ 24 ∷ 16 ∷ 0 ∷ 0 ∷ []) refl _ _ _ refl),
            (
              (of_message_dependent, by_playing (dependent weak) dependent_law message_dependent of_message_dependent (62 ∷ 60 ∷ 56 ∷ 48 ∷ 32 ∷ 0 ∷ []) refl _ _ _ refl),
              (
                (of_two_stores, at_opening weak weak_law two_stores of_two_stores _ two_stores_order (counts 4 1) (refl, refl)),
                (
                  (of_two_stores, by_playing weak weak_law two_stores of_two_stores _ two_stores_order _ _ _ refl),
                  (
                    (of_two_stores, by_supposing weak weak_law two_stores of_two_stores _ two_stores_order 0 1 refl refl),
                    (
                      (of_seen_both_ways, at_opening sc sc_law seen_both_ways of_seen_both_ways _ seen_both_ways_order (counts 28 1) (refl, refl)),
                      (
                        (of_seen_both_ways, by_playing sc sc_law seen_both_ways of_seen_both_ways _ seen_both_ways_order _ _ _ refl),
                        (
                          (of_stale, stale_impossible),
                          tt,
                        ),
                      ),
                    ),
                  ),
                ),
              ),
            ),
          ),
        ),
      ),
    ),
  ),
)
