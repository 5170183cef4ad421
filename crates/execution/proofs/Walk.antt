-- Reading field by field, and then the sources: what one step does to the definitions.
use Rattle.std.proofs.Common.{◌≡◌, ℕ, zero, suc, ◌+◌, ◌-◌, ◌*◌, ◌<◌, ◌≤◌, true, false, cond, eqb, List, [], ◌∷◌, ◌++◌, length, take, drop, Ok, Err, Result, sym, refl, ap, ◌∙◌, subst, arith, MatchResult}
use Rattle.std.proofs.lemmas.List.{drop-drop, take_rest, length-drop, length_push}
use Rattle.std.proofs.lemmas.Bool.{eq-eqb, ne_eqb}
use Rattle.field.specs.declared.refusal.Refusal.TheVariants as refusal
use Rattle.field.specs.declared.fault.Layer.TheVariants as layer
use Rattle.field.specs.declared.fault.Fault.{Fault}
use Rattle.field.specs.Faults.{moved, and_then}
use Rattle.execution.specs.declared.operation.Operation.{Operation}
use Rattle.execution.specs.Operations.{op}
use Rattle.execution.specs.Reading.{read_from, operation_in, sources_from, may_see, source_at}

-- the source of the operation k is wrong
abbrev pub wrong_source : ℕ → Fault
wrong_source k = record { refusal = refusal.SourceRule; byte = 4 + 9 * k; layer = layer.Record }

module _ (E : List Operation) (s : List ℕ) (n k : ℕ) (h : k < n) where
  step : sources_from (n - k) E s k ≡ cond (may_see E (source_at s k) (op E k).action) (sources_from (n - (k + 1)) E s (k + 1)) (Err (wrong_source k))
  step = let e : n - k ≡ suc (n - (k + 1)) = omega arith in ap (λ v. sources_from v E s k) e

  pub source_more : may_see E (source_at s k) (op E k).action ≡ true → sources_from (n - k) E s k ≡ sources_from (n - (k + 1)) E s (k + 1)
  source_more t = let e = step in grind arith

  -- a source that may not be seen is the fault
  pub source_stop : may_see E (source_at s k) (op E k).action ≡ false → sources_from (n - k) E s k ≡ Err (wrong_source k)
  source_stop t = let e = step in grind arith

module _ (E : List Operation) (s : List ℕ) (at : ℕ) where
  -- a step that finds a field
  pub walk_on : (m n : ℕ) → m ≡ n + 1 → 0 < length s → read_from m E s at ≡ and_then (moved at (operation_in E s)) (λ o. read_from n (E ++ o ∷ []) (drop 9 s) (at + 9))
  unfolding read_from
  walk_on m n e h =
      let e' : m ≡ suc n = omega arith in
      let f : eqb (length s) 0 ≡ false = ne_eqb (length s) 0 (λ z. omega arith) in
      ap (λ v. read_from v E s at) e' ∙ ap (λ b. cond b (Ok E) (and_then (moved at (operation_in E s)) (λ o. read_from n (E ++ o ∷ []) (drop 9 s) (at + 9)))) f

  pub walk_more : (m n : ℕ) → m ≡ n + 1 → 0 < length s → (o : Operation) → operation_in E s ≡ Ok o → read_from m E s at ≡ read_from n (E ++ o ∷ []) (drop 9 s) (at + 9)
  walk_more m n e h o t = walk_on m n e h ∙ ap (λ r. and_then (moved at r) (λ o. read_from n (E ++ o ∷ []) (drop 9 s) (at + 9))) t

  pub walk_stop : (m n : ℕ) → m ≡ n + 1 → 0 < length s → (e : Fault) → moved at (operation_in E s) ≡ Err e → read_from m E s at ≡ Err e
  walk_stop m n e h x t = walk_on m n e h ∙ ap (λ r. and_then r (λ o. read_from n (E ++ o ∷ []) (drop 9 s) (at + 9))) t

  pub walk_end : (m : ℕ) → length s ≡ 0 → read_from m E s at ≡ Ok E
  unfolding read_from
  walk_end zero h = refl
  walk_end (suc n) h = ap (λ b. cond b (Ok E) (and_then (moved at (operation_in E s)) (λ o. read_from n (E ++ o ∷ []) (drop 9 s) (at + 9)))) (eq-eqb (length s) 0 h)

pub moved_ok : {A : Type 0} (at : ℕ) (r : Result A Fault) (x : A) → moved at r ≡ Ok x → r ≡ Ok x
moved_ok at (Ok y) x h = h
moved_ok at (Err e) x h = cc

-- a fault of the field's own first byte is at the byte where reading began
moved_near : {A : Type 0} (P : A → Type 0) (at : ℕ) (r : Result A Fault) (e : Fault) → MatchResult r P (λ f. f.byte ≡ 0) → moved at r ≡ Err e → e.byte ≡ at
moved_near P at (Ok y) e c h = cc
moved_near P at (Err f) e c h = let b : f.byte + at ≡ e.byte = cc in omega arith

-- the fields before the byte `at` say E, and what is left still gives R
pub record ReadSoFar (R : Result (List Operation) Fault) (s : List ℕ) (E : List Operation) (at : ℕ) : Type 0 where
  pub place : at ≡ 4 + 9 * length E
  pub few : length E ≤ 32
  pub inside : at ≤ length s
  pub left : read_from (33 - length E) E (drop at s) at ≡ R

-- a turn of the loop over the fields, which reads r
module _ (R : Result (List Operation) Fault) (s : List ℕ) (E G : List Operation) (at : ℕ) (r : Result Operation Fault) (w : ReadSoFar R s E at) (more : at < length s) (same : G ≡ E) (told : r ≡ operation_in G (take (length s - at) (drop at s))) (fits : MatchResult r (λ o. (length G < 32) × (9 ≤ length (take (length s - at) (drop at s)))) (λ e. e.byte ≡ 0)) where
  here : operation_in E (drop at s) ≡ r
  here = ap (λ F. operation_in F (drop at s)) (sym same) ∙ ap (operation_in G) (sym (take_rest s at)) ∙ sym told

  long : 0 < length (drop at s)
  long = simp length-drop (omega arith)

  pub turn_more : (o : Operation) → moved at r ≡ Ok o → (F : List Operation) → F ≡ E ++ o ∷ [] → ReadSoFar R s F (at + 9)
  turn_more o t F f =
      let got : r ≡ Ok o = moved_ok at r o t in
      let p = subst (λ x. MatchResult x (λ o. (length G < 32) × (9 ≤ length (take (length s - at) (drop at s)))) (λ e. e.byte ≡ 0)) got fits in
      let nine : 9 ≤ length s - at = simp (take_rest, length-drop) at p.1 in
      let few : length E < 32 = subst (λ X. length X < 32) same p.0 in
      let n : length F ≡ length E + 1 = ap length f ∙ length_push E o in
      let step = walk_more E (drop at s) at (33 - length E) (33 - length F) (omega arith) long o (here ∙ got) in
      record {
        place = omega arith;
        few = omega arith;
        inside = omega arith;
        left = ap (λ X. read_from (33 - length F) X (drop (at + 9) s) (at + 9)) f ∙ ap (λ v. read_from (33 - length F) (E ++ o ∷ []) v (at + 9)) (sym (drop-drop 9 at s)) ∙ sym step ∙ w.left;
      }

  pub turn_stop : (e : Fault) → moved at r ≡ Err e → (R ≡ Err e) × (e.byte ≤ length s)
  turn_stop e t = (
    sym w.left ∙ walk_stop E (drop at s) at (33 - length E) (32 - length E) (omega arith) long e (ap (moved at) here ∙ t),
    let near : e.byte ≡ at = moved_near _ at r e fits t in omega arith,
  )

pub turn_end : (R : Result (List Operation) Fault) (s : List ℕ) (E : List Operation) (at : ℕ) → ReadSoFar R s E at → length s ≤ at → R ≡ Ok E
turn_end R s E at w h = sym w.left ∙ walk_end E (drop at s) at (33 - length E) (simp length-drop (omega arith))
