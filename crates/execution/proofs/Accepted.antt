-- An accepted record: its operations keep the rules, and it is their writing.
use Rattle.std.proofs.Common.{◌≡◌, ℕ, zero, suc, ◌+◌, ◌*◌, ◌/◌, ◌%◌, ◌<◌, ◌≤◌, Bool, true, cond, not, T, eqb, List, [], ◌∷◌, ◌++◌, length, get_or, take, drop, Ok, Err, Result, sym, refl, ap, ◌∙◌, subst, inl, inr, append_assoc, append-nil, arith, rules}
use Rattle.std.proofs.lemmas.List.{same_lists, places, take-append-drop, get_or-drop, length_push, nil_from_length}
use Rattle.std.proofs.lemmas.Bool.{cases_eq, and_from, eqb-true}
use Rattle.std.proofs.lemmas.Bool.Decides.{nat_tests}
use Rattle.field.specs.declared.fault.Layer.TheVariants as layer
use Rattle.field.specs.declared.fault.Fault.{Fault}
use Rattle.field.specs.Fields.{body_of, expected}
use Rattle.field.specs.Faults.{moved, and_then}
use Rattle.field.proofs.Expected.{unless_ok, and_then_ok, Stands, expected_ok, body_at}
use Rattle.execution.specs.declared.operation.Operation.{Operation}
use Rattle.execution.specs.Operations.{op}
use Rattle.execution.specs.Formed.{follows, in_turn, sourced, formed?}
use Rattle.execution.specs.Writing.{kind_byte, address_number, source_byte, dependence_byte, field_of, fields_of, writing}
use Rattle.execution.specs.Reading.{action_of, thread_in, kind_in, address_in, source_in, dependence_in, operation_of, body_refusal, operation_from, operation_in, edition_from, edition_in, read_from, operations_in, may_see, source_at, sources_from, record_in}
use Rattle.execution.proofs.Walk.{walk_on, walk_end, wrong_source, moved_ok}
use Rattle.execution.proofs.Judged.{Free, room, stands, kind_back, address_back, dependence_back}
use Rattle.execution.proofs.Listed.{some_none}

-- a field that was read: all of it, what it says, and that it may stand there
pub record Read (E : List Operation) (s : List ℕ) (o : Operation) : Type 0 where
  pub stands : Stands s 17 6 (body_of s)
  pub free : Free E (body_of s)
  pub says : operation_of (body_of s) ≡ o

pub operation_ok : (E : List Operation) (s : List ℕ) (o : Operation) → operation_in E s ≡ Ok o → Read E s o
operation_ok E s o h =
    let r = and_then_ok (expected s 17 6 layer.Record) (operation_from E) o h in
    let b = r.0 in
    let x = expected_ok s 17 6 layer.Record b r.1 in
    let f : operation_from E (body_of s) ≡ Ok o = ap (operation_from E) (sym x.body) ∙ r.2 in
    let u = unless_ok (body_refusal E (thread_in (body_of s)) (kind_in (body_of s)) (address_in (body_of s)) (dependence_in (body_of s))) layer.Record (operation_of (body_of s)) o f in
    record { stands = record { long = x.long; tagged = x.tagged; sized = x.sized; body = refl }; free = u.0; says = u.1 }

-- the operations G, read one after the other from s, after E
abbrev pub Fields : List Operation → List Operation → List ℕ → Type 0
Fields E [] s = length s ≡ 0
Fields E (o ∷ G) s = Read E s o × Fields (E ++ o ∷ []) G (drop 9 s)

-- all that was read, as one list
abbrev Walked : ℕ → Type 0
Walked n =
    (E : List Operation) (s : List ℕ) (at : ℕ) (F : List Operation) → length E + n ≡ 33 → length E ≤ 32 → read_from n E s at ≡ Ok F
    → (G : List Operation) × (F ≡ E ++ G) × (length F ≤ 32) × Fields E G s

walked_end : (n : ℕ) (E : List Operation) (s : List ℕ) (at : ℕ) (F : List Operation) → length E ≤ 32 → read_from n E s at ≡ Ok F → length s ≡ 0 → (G : List Operation) × (F ≡ E ++ G) × (length F ≤ 32) × Fields E G s
walked_end n E s at F few h z =
    let w : Ok E ≡ Ok F = sym (walk_end E s at n z) ∙ h in
    let f : F ≡ E = cc in
    ([], f ∙ sym (append-nil E), subst (λ X. length X ≤ 32) (sym f) few, z)

walked_on : (n : ℕ) → Walked n → (E : List Operation) (s : List ℕ) (at : ℕ) (F : List Operation) → length E + suc n ≡ 33 → read_from (suc n) E s at ≡ Ok F → (length s ≡ 0 → ⊥) → (G : List Operation) × (F ≡ E ++ G) × (length F ≤ 32) × Fields E G s
walked_on n again E s at F e h z =
    let w = sym (walk_on E s at (suc n) n (omega arith) (omega arith)) ∙ h in
    let r = and_then_ok (moved at (operation_in E s)) (λ o. read_from n (E ++ o ∷ []) (drop 9 s) (at + 9)) F w in
    let o = r.0 in
    let read = operation_ok E s o (moved_ok at (operation_in E s) o r.1) in
    let l = length_push E o in
    let few = room E (body_of s) read.free in
    let next = again (E ++ o ∷ []) (drop 9 s) (at + 9) F (omega arith) (omega arith) r.2 in
    (o ∷ next.0, next.1 ∙ append_assoc E (o ∷ []) next.0, next.2, (read, next.3))

pub walked : (n : ℕ) → Walked n
walked zero E s at F e few h = absurd (omega arith)
walked (suc n) E s at F e few h = elim (cases_eq (length s) 0) [ inl z ↦ walked_end (suc n) E s at F few h z | inr z ↦ walked_on n (walked n) E s at F e h z ]

pub fields_in_turn : (E G : List Operation) (s : List ℕ) → Fields E G s → in_turn E G ≡ true
fields_in_turn E [] s f = refl
fields_in_turn E (o ∷ G) s f =
    and_from (follows E o) _ (subst (λ x. follows E x ≡ true) f.0.says (stands E (body_of s) f.0.free)) (fields_in_turn (E ++ o ∷ []) G (drop 9 s) f.1)

-- the source byte of the operation k
abbrev pub byte_of_source : List ℕ → ℕ → ℕ
byte_of_source s k = get_or s (9 * k + 7) 0

-- the action of each operation has the source byte that stands there
pub fields_sources : (E G : List Operation) (s : List ℕ) → Fields E G s → (k : ℕ) → k < length G → (i : ℕ) × (x : ℕ) × ((op G k).action ≡ action_of i x (byte_of_source s k))
fields_sources E [] s f k h = absurd (omega arith)
fields_sources E (o ∷ G) s f zero h =
    let e = f.0.stands.sized in
    let b : source_in (body_of s) ≡ get_or s 7 0 = body_at s 4 (omega arith) in
    (kind_in (body_of s), address_in (body_of s), ap (λ x. x.action) (sym f.0.says) ∙ ap (action_of (kind_in (body_of s)) (address_in (body_of s))) b)
fields_sources E (o ∷ G) s f (suc k) h =
    let r = fields_sources (E ++ o ∷ []) G (drop 9 s) f.1 k (omega arith) in
    let n : 9 + (9 * k + 7) ≡ 9 * suc k + 7 = omega arith in
    (r.0, r.1, r.2 ∙ ap (action_of r.0 r.1) (get_or-drop 9 s (9 * k + 7) 0 ∙ ap (λ m. get_or s m 0) n))

-- sources that are all right
source_first : (E : List Operation) (s : List ℕ) (k : ℕ) (rest : Result (Unit {0}) Fault) (t : Bool) → cond t rest (Err (wrong_source k)) ≡ Ok tt → (t ≡ true) × (rest ≡ Ok tt)
source_first E s k rest t h = (grind arith, grind arith)

pub sources_ok : (n : ℕ) (E : List Operation) (s : List ℕ) (k : ℕ) → sources_from n E s k ≡ Ok tt → (j : ℕ) → k ≤ j → j < k + n → may_see E (source_at s j) (op E j).action ≡ true
sources_ok zero E s k h j a b = absurd (omega arith)
sources_ok (suc n) E s k h j a b =
    let p = source_first E s k (sources_from n E s (k + 1)) (may_see E (source_at s k) (op E k).action) h in
    elim (cases_eq k j) [ inl e ↦ subst (λ m. may_see E (source_at s m) (op E m).action ≡ true) e p.0 | inr d ↦ sources_ok n E s (k + 1) p.1 j (omega arith) (omega arith) ]

-- a byte that may stand for the source of an action is the action's own
seen_right : (F : List Operation) (i x b : ℕ) → may_see F b (action_of i x b) ≡ true → (source_byte (action_of i x b) ≡ b) × (sourced F (action_of i x b) ≡ true)
seen_right F i x b h = (grind (arith, nat_tests), grind (arith, nat_tests))

nine : (s : List ℕ) → 9 ≤ length s → take 9 s ≡ get_or s 0 0 ∷ get_or s 1 0 ∷ get_or s 2 0 ∷ get_or s 3 0 ∷ get_or s 4 0 ∷ get_or s 5 0 ∷ get_or s 6 0 ∷ get_or s 7 0 ∷ get_or s 8 0 ∷ []
nine s h = same_lists _ _ (search (rules, places)) (λ k d l. grind (arith, places))

-- nine bytes are the field of the operation that they say, once its source is right
block : (E : List Operation) (s : List ℕ) (o : Operation) → Read E s o → ((i : ℕ) → get_or s i 0 < 256) → source_byte o.action ≡ get_or s 7 0 → take 9 s ≡ field_of o
block E s o r fit src =
    let b = body_of s in
    let e = r.stands.sized in
    let t = r.stands.tagged in
    let s1 : get_or s 1 0 ≡ 0 = omega arith in
    let s2 : get_or s 2 0 ≡ 6 = omega arith in
    let b0 = body_at s 0 (omega arith) in
    let b1 = body_at s 1 (omega arith) in
    let b2 = body_at s 2 (omega arith) in
    let b3 = body_at s 3 (omega arith) in
    let b5 = body_at s 5 (omega arith) in
    let o3 : o.thread ≡ get_or s 3 0 = ap (λ x. x.thread) (sym r.says) ∙ b0 in
    let o4 : kind_byte o.action ≡ get_or s 4 0 = ap (λ x. kind_byte x.action) (sym r.says) ∙ kind_back E b r.free ∙ b1 in
    let ad : address_number o.action ≡ address_in b = ap (λ x. address_number x.action) (sym r.says) ∙ address_back E b r.free in
    let f6 = fit 6 in
    let o5 : address_number o.action / 256 ≡ get_or s 5 0 = omega arith in
    let o6 : address_number o.action % 256 ≡ get_or s 6 0 = omega arith in
    let o8 : dependence_byte o.dependence ≡ get_or s 8 0 = ap (λ x. dependence_byte x.dependence) (sym r.says) ∙ dependence_back E b r.free ∙ b5 in
    let n = nine s r.stands.long in
    cc

-- bytes that were read, with their sources right, are the writing of what they say
pub fields_back : (E G : List Operation) (s : List ℕ) → Fields E G s → ((i : ℕ) → get_or s i 0 < 256) → ((k : ℕ) → k < length G → source_byte (op G k).action ≡ byte_of_source s k) → s ≡ fields_of G
fields_back E [] s f fit src = nil_from_length s f
fields_back E (o ∷ G) s f fit src =
    let first = block E s o f.0 fit (src 0 (omega arith)) in
    let fit' : (i : ℕ) → get_or (drop 9 s) i 0 < 256 = λ i. subst (λ v. v < 256) (sym (get_or-drop 9 s i 0)) (fit (9 + i)) in
    let src' : (k : ℕ) → k < length G → source_byte (op G k).action ≡ byte_of_source (drop 9 s) k = λ k h. (let n : 9 * suc k + 7 ≡ 9 + (9 * k + 7) = omega arith in src (suc k) (omega arith) ∙ ap (λ m. get_or s m 0) n ∙ sym (get_or-drop 9 s (9 * k + 7) 0)) in
    let rest = fields_back (E ++ o ∷ []) G (drop 9 s) f.1 fit' src' in
    sym (take-append-drop 9 s) ∙ ap (λ w. w ++ drop 9 s) first ∙ ap (λ w. field_of o ++ w) rest

-- an accepted record, and its four first bytes
module _ (s : List ℕ) (F : List Operation) (h : operations_in s ≡ Ok F) (g : sources_from (length F) F s 0 ≡ Ok tt) where
  got : (G : List Operation) × (F ≡ G) × (length F ≤ 32) × Fields [] G (drop 4 s)
  got = walked 33 [] (drop 4 s) 4 F refl (omega arith) h

  read_fields : Fields [] F (drop 4 s)
  read_fields = subst (λ X. Fields [] X (drop 4 s)) (sym got.1) got.3

  right : (k : ℕ) → k < length F → (source_byte (op F k).action ≡ byte_of_source (drop 4 s) k) × (sourced F (op F k).action ≡ true)
  right k l =
      let r = fields_sources [] F (drop 4 s) read_fields k l in
      let n : 4 + 9 * k + 7 ≡ 4 + (9 * k + 7) = omega arith in
      let same : source_at s k ≡ byte_of_source (drop 4 s) k = ap (λ m. get_or s m 0) n ∙ sym (get_or-drop 4 s (9 * k + 7) 0) in
      let sees = subst (λ b. may_see F b (op F k).action ≡ true) same (sources_ok (length F) F s 0 g k (omega arith) (omega arith)) in
      subst (λ a. (source_byte a ≡ byte_of_source (drop 4 s) k) × (sourced F a ≡ true)) (sym r.2) (seen_right F r.0 r.1 (byte_of_source (drop 4 s) k) (subst (λ a. may_see F (byte_of_source (drop 4 s) k) a ≡ true) r.2 sees))

  pub accepted_formed : T (formed? F)
  accepted_formed =
      let few = got.2 in
      let turn = fields_in_turn [] F (drop 4 s) read_fields in
      let seen = some_none (λ k. not (sourced F (op F k).action)) (length F) (λ k l. (let h = (right k l).1 in grind arith)) in
      grind (arith, nat_tests)

  pub accepted_fields : ((i : ℕ) → get_or s i 0 < 256) → drop 4 s ≡ fields_of F
  accepted_fields fit = fields_back [] F (drop 4 s) read_fields (λ i. subst (λ v. v < 256) (sym (get_or-drop 4 s i 0)) (fit (4 + i))) (λ k l. (right k l).0)

four : (s : List ℕ) → 4 ≤ length s → take 4 s ≡ get_or s 0 0 ∷ get_or s 1 0 ∷ get_or s 2 0 ∷ get_or s 3 0 ∷ []
four s h = same_lists _ _ (search (rules, places)) (λ k d l. grind (arith, places))

edition_one : (t : Bool) (e : Fault) → ◌≡◌ {A = Result (Unit {0}) Fault} (cond t (Ok tt) (Err e)) (Ok tt) → t ≡ true
edition_one t e h = grind arith

edition_bytes : (s : List ℕ) → edition_in s ≡ Ok tt → take 4 s ≡ 16 ∷ 0 ∷ 1 ∷ 1 ∷ []
edition_bytes s h =
    let r = and_then_ok (expected s 16 1 layer.Record) edition_from tt h in
    let x = expected_ok s 16 1 layer.Record r.0 r.1 in
    let e = x.sized in
    let t = x.tagged in
    let s1 : get_or s 1 0 ≡ 0 = omega arith in
    let s2 : get_or s 2 0 ≡ 1 = omega arith in
    let one : get_or r.0 0 0 ≡ 1 = eqb-true (get_or r.0 0 0) 1 (edition_one (eqb (get_or r.0 0 0) 1) _ r.2) in
    let s3 : get_or s 3 0 ≡ 1 = sym (body_at s 0 (omega arith)) ∙ ap (λ b. get_or b 0 0) (sym x.body) ∙ one in
    let f = four s x.long in
    cc

-- writing what was read gives the same bytes
pub accepted_bytes : (s : List ℕ) (F : List Operation) → edition_in s ≡ Ok tt → operations_in s ≡ Ok F → sources_from (length F) F s 0 ≡ Ok tt → ((i : ℕ) → get_or s i 0 < 256) → s ≡ writing F
accepted_bytes s F e h g fit = sym (take-append-drop 4 s) ∙ ap (λ w. w ++ drop 4 s) (edition_bytes s e) ∙ ap (λ w. 16 ∷ 0 ∷ 1 ∷ 1 ∷ w) (accepted_fields s F h g fit)

-- the three readings of an accepted record
pub accepted_parts : (s : List ℕ) (F : List Operation) → record_in s ≡ Ok F → (edition_in s ≡ Ok tt) × (operations_in s ≡ Ok F) × (sources_from (length F) F s 0 ≡ Ok tt)
accepted_parts s F h =
    let a = and_then_ok (edition_in s) (λ _. and_then (operations_in s) (λ E. and_then (sources_from (length E) E s 0) (λ _. Ok E))) F h in
    let b = and_then_ok (operations_in s) (λ E. and_then (sources_from (length E) E s 0) (λ _. Ok E)) F a.2 in
    let c = and_then_ok (sources_from (length b.0) b.0 s 0) (λ _. Ok b.0) F b.2 in
    let w : Ok b.0 ≡ Ok F = c.2 in
    let e : b.0 ≡ F = cc in
    (a.1, b.1 ∙ ap Ok e, subst (λ X. sources_from (length X) X s 0 ≡ Ok tt) e c.1)

pub record_formed : (s : List ℕ) (F : List Operation) → record_in s ≡ Ok F → T (formed? F)
record_formed s F h = let p = accepted_parts s F h in accepted_formed s F p.1 p.2

pub record_bytes : (s : List ℕ) (F : List Operation) → record_in s ≡ Ok F → ((i : ℕ) → get_or s i 0 < 256) → s ≡ writing F
record_bytes s F h fit = let p = accepted_parts s F h in accepted_bytes s F p.0 p.1 p.2 fit
