-- Reading what was written: the writing of an execution that keeps the rules is accepted, and says that execution.
use Rattle.std.proofs.Common.{◌≡◌, ℕ, zero, suc, ◌+◌, ◌-◌, ◌*◌, ◌/◌, ◌%◌, ◌<◌, ◌≤◌, true, false, not, T, List, [], ◌∷◌, ◌++◌, length, get_or, None, Ok, Option, sym, refl, ap, ◌∙◌, append_assoc, append-nil, arith}
use Rattle.std.proofs.lemmas.List.{get_or-append-add, length_push}
use Rattle.std.proofs.lemmas.Bool.{and_parts, not-false}
use Rattle.std.proofs.lemmas.Bool.Decides.{nat_tests}
use Rattle.field.specs.declared.fault.Layer.TheVariants as layer
use Rattle.field.specs.Faults.{unless, and_then}
use Rattle.field.specs.Fields.{body_of, expected}
use Rattle.field.proofs.Expected.{ok_expected}
use Rattle.execution.specs.declared.operation.Action.{Action}
use Rattle.execution.specs.declared.operation.Operation.{Operation}
use Rattle.execution.specs.Operations.{op}
use Rattle.execution.specs.Formed.{some, follows, depends_well, in_turn, sourced, formed?}
use Rattle.execution.specs.Writing.{kind_byte, address_number, source_byte, dependence_byte, field_of, fields_of, writing}
use Rattle.execution.specs.Reading.{action_of, dependence_of, body_refusal, operation_from, operation_in, edition_from, edition_in, read_from, operations_in, may_see, source_at, sources_from, record_in}
use Rattle.execution.proofs.Walk.{walk_more, walk_end}
use Rattle.execution.proofs.Judged.{not_refused}
use Rattle.execution.proofs.Listed.{some_false}

action_back : (a : Action) → action_of (kind_byte a) (address_number a) (source_byte a) ≡ a
action_back a = grind arith

-- a dependence that may stand there is not written as none
dependence_back : (E : List Operation) (t : ℕ) (d : Option ℕ) → length E < 32 → depends_well E t d ≡ true → dependence_of (dependence_byte d) ≡ d
dependence_back E t d few h = grind (arith, nat_tests)

halves : (x : ℕ) → x / 256 * 256 + x % 256 ≡ x
halves x = omega arith

pub field_back : (E : List Operation) (o : Operation) (rest : List ℕ) → length E < 32 → follows E o ≡ true → operation_in E (field_of o ++ rest) ≡ Ok o
field_back E o rest few f =
    let s = field_of o ++ rest in
    let t = o.thread in
    let k = kind_byte o.action in
    let x = address_number o.action in
    let b = source_byte o.action in
    let d = dependence_byte o.dependence in
    let here : expected s 17 6 layer.Record ≡ Ok (body_of s) = ok_expected s 17 6 layer.Record (omega arith) refl refl in
    let dep : depends_well E t o.dependence ≡ true = grind arith in
    let none : body_refusal E t k x d ≡ None = not_refused E o few f in
    let same : operation_from E (body_of s) ≡ unless (body_refusal E t k (x / 256 * 256 + x % 256) d) layer.Record (record { thread = t; action = action_of k (x / 256 * 256 + x % 256) b; dependence = dependence_of d }) = refl in
    ap (λ r. and_then r (operation_from E)) here ∙ same ∙ ap (λ v. unless (body_refusal E t k v d) layer.Record (record { thread = t; action = action_of k v b; dependence = dependence_of d })) (halves x)
    ∙ ap (λ n. unless n layer.Record (record { thread = t; action = action_of k x b; dependence = dependence_of d })) none
    ∙ ap (λ a. Ok (record { thread = t; action = a; dependence = dependence_of d })) (action_back o.action) ∙ ap (λ e. Ok (record { thread = t; action = o.action; dependence = e })) (dependence_back E t o.dependence few dep)

pub walk_back : (E F : List Operation) (at n : ℕ) → length F ≤ n → length E + length F ≤ 32 → in_turn E F ≡ true → read_from n E (fields_of F) at ≡ Ok (E ++ F)
walk_back E [] at n h few f = walk_end E [] at n refl ∙ ap Ok (sym (append-nil E))
walk_back E (o ∷ F) at n h few f =
    let p = and_parts (follows E o) (in_turn (E ++ o ∷ []) F) f in
    let l = length_push E o in
    walk_more E (field_of o ++ fields_of F) at n (n - 1) (omega arith) (omega arith) o (field_back E o (fields_of F) (omega arith) p.0) ∙ walk_back (E ++ o ∷ []) F (at + 9) (n - 1) (omega arith) (omega arith) p.1 ∙ ap Ok (append_assoc E (o ∷ []) F)

-- the source byte of the operation k in the writing
source_written : (F : List Operation) (k : ℕ) → k < length F → get_or (fields_of F) (9 * k + 7) 0 ≡ source_byte (op F k).action
source_written [] k h = absurd (omega arith)
source_written (o ∷ F) zero h = refl
source_written (o ∷ F) (suc k) h =
    let n : 9 * suc k + 7 ≡ 9 + (9 * k + 7) = omega arith in
    ap (λ m. get_or (field_of o ++ fields_of F) m 0) n ∙ get_or-append-add (field_of o) (fields_of F) (9 * k + 7) 0 ∙ source_written F k (omega arith)

pub source_at_writing : (F : List Operation) (k : ℕ) → k < length F → source_at (writing F) k ≡ source_byte (op F k).action
source_at_writing F k h =
    let n : 4 + 9 * k + 7 ≡ 4 + (9 * k + 7) = omega arith in
    ap (λ m. get_or (writing F) m 0) n ∙ get_or-append-add (16 ∷ 0 ∷ 1 ∷ 1 ∷ []) (fields_of F) (9 * k + 7) 0 ∙ source_written F k h

seen_own : (F : List Operation) (a : Action) → sourced F a ≡ true → may_see F (source_byte a) a ≡ true
seen_own F a h = grind (arith, nat_tests)

sources_back : (n : ℕ) (E : List Operation) (s : List ℕ) (k : ℕ) → ((j : ℕ) → k ≤ j → j < k + n → may_see E (source_at s j) (op E j).action ≡ true) → sources_from n E s k ≡ Ok tt
sources_back zero E s k h = refl
sources_back (suc n) E s k h =
    let now = h k (omega arith) (omega arith) in
    let rest = sources_back n E s (k + 1) (λ j a b. h j (omega arith) (omega arith)) in
    grind arith

edition_back : (E : List Operation) → edition_in (writing E) ≡ Ok tt
edition_back E =
    let s = writing E in
    let here : expected s 16 1 layer.Record ≡ Ok (body_of s) = ok_expected s 16 1 layer.Record (omega arith) refl refl in
    ap (λ r. and_then r edition_from) here

pub round_trip : (E : List Operation) → T (formed? E) → (edition_in (writing E) ≡ Ok tt) × (operations_in (writing E) ≡ Ok E) × (sources_from (length E) E (writing E) 0 ≡ Ok tt)
round_trip E f =
    let few : length E ≤ 32 = grind (arith, nat_tests) in
    let turn : in_turn [] E ≡ true = grind arith in
    let none : some (length E) (λ k. not (sourced E (op E k).action)) ≡ false = grind arith in
    let sees : (j : ℕ) → j < length E → may_see E (source_at (writing E) j) (op E j).action ≡ true =
    λ j l. ap (λ v. may_see E v (op E j).action) (source_at_writing E j l) ∙ seen_own E (op E j).action (not-false _ (some_false (λ k. not (sourced E (op E k).action)) (length E) none j l)) in
    (edition_back E, walk_back [] E 4 33 (omega arith) (omega arith) turn, sources_back (length E) E (writing E) 0 (λ j a b. sees j (omega arith)))

-- as one reading
pub record_back : (E : List Operation) → T (formed? E) → record_in (writing E) ≡ Ok E
record_back E f =
    let p = round_trip E f in
    ap (λ r. and_then r (λ _. and_then (operations_in (writing E)) (λ F. and_then (sources_from (length F) F (writing E) 0) (λ _. Ok F)))) p.0
    ∙ ap (λ r. and_then r (λ F. and_then (sources_from (length F) F (writing E) 0) (λ _. Ok F))) p.1
    ∙ ap (λ r. and_then r (λ _. Ok E)) p.2
