-- What follows from a reading that succeeded.
use Rattle.std.proofs.Common.{◌≡◌, ℕ, ◌+◌, ◌<◌, ◌≤◌, Bool, true, false, cond, not, eqb, leb, List, length, get_or, drop, Some, None, Ok, Err, Option, Result, refl, ◌∙◌, arith}
use Rattle.std.proofs.lemmas.List.{get_or-take, get_or-drop}
use Rattle.std.proofs.lemmas.Bool.{not-false, and_parts, and_from, eqb-true, eq-eqb, leb-true, le-leb, cond-false, not_from_true}
use Rattle.field.specs.declared.refusal.Refusal.{Refusal}
use Rattle.field.specs.declared.fault.Layer.{Layer}
use Rattle.field.specs.declared.fault.Fault.{Fault}
use Rattle.field.specs.Faults.{unless, and_then}
use Rattle.field.specs.Fields.{told, whole, body_of, expected}

-- nothing was wrong at a test that faults
pub past : {A : Type 0} (b : Bool) (e : Fault) (r : Result A Fault) (x : A) → cond b (Err e) r ≡ Ok x → (b ≡ false) × (r ≡ Ok x)
past true e r x h = cc
past false e r x h = (refl, h)

pub unless_ok : {A : Type 0} (n : Option Refusal) (y : Layer) (x z : A) → unless n y x ≡ Ok z → (n ≡ None) × (x ≡ z)
unless_ok None y x z h = (refl, cc)
unless_ok (Some e) y x z h = cc

pub and_then_ok : {A B : Type 0} (r : Result A Fault) (f : A → Result B Fault) (y : B) → and_then r f ≡ Ok y → (x : A) × (r ≡ Ok x) × (f x ≡ Ok y)
and_then_ok (Ok x) f y h = (x, refl, h)
and_then_ok (Err e) f y h = cc

-- the field that was due stands at the front
pub record Stands (s : List ℕ) (tag size : ℕ) (b : List ℕ) : Type 0 where
  pub long : 3 + size ≤ length s
  pub tagged : get_or s 0 0 ≡ tag
  pub sized : told s ≡ size
  pub body : b ≡ body_of s

pub expected_ok : (s : List ℕ) (tag size : ℕ) (y : Layer) (b : List ℕ) → expected s tag size y ≡ Ok b → Stands s tag size b
expected_ok s tag size y b h =
    let p = past (not (whole s)) _ _ b h in
    let q = past (not (eqb (get_or s 0 0) tag)) _ _ b p.1 in
    let r = past (not (eqb (told s) size)) _ _ b q.1 in
    let w = and_parts (leb 3 (length s)) (leb (3 + told s) (length s)) (not-false (whole s) p.0) in
    let e : told s ≡ size = eqb-true (told s) size (not-false (eqb (told s) size) r.0) in
    let l : 3 + told s ≤ length s = leb-true (3 + told s) (length s) w.1 in
    record { long = omega arith; tagged = eqb-true (get_or s 0 0) tag (not-false (eqb (get_or s 0 0) tag) q.0); sized = e; body = cc }

pub ok_expected : (s : List ℕ) (tag size : ℕ) (y : Layer) → 3 + size ≤ length s → get_or s 0 0 ≡ tag → told s ≡ size → expected s tag size y ≡ Ok (body_of s)
ok_expected s tag size y l t e =
    let w : whole s ≡ true = and_from (leb 3 (length s)) (leb (3 + told s) (length s)) (le-leb 3 (length s) (omega arith)) (le-leb (3 + told s) (length s) (omega arith)) in
    cond-false _ _ _ (not_from_true (whole s) w) ∙ cond-false _ _ _ (not_from_true (eqb (get_or s 0 0) tag) (eq-eqb _ _ t)) ∙ cond-false _ _ _ (not_from_true (eqb (told s) size) (eq-eqb _ _ e))

-- a byte of the body stands three further on
pub body_at : (s : List ℕ) (i : ℕ) → i < told s → get_or (body_of s) i 0 ≡ get_or s (3 + i) 0
body_at s i h = get_or-take (told s) (drop 3 s) i 0 h ∙ get_or-drop 3 s i 0
