-- What the tests on an execution's operations say.
use Rattle.std.proofs.Common.{◌≡◌, ℕ, ◌<◌, Bool, not, ◌&&◌, T, eqb, ltb, ◌≢◌, ◌⊎◌, List, length, Some, None, Option, sym, refl, ap, inl, inr, arith, eqb→eq, ltb→lt, lt→ltb}
use mathlib.Core.Logic.{⊎_map}
use lib.Dec.{not_T}
use Rattle.execution.specs.declared.operation.Action.{Action}
use Rattle.execution.specs.declared.operation.Action.TheVariants as act
use Rattle.execution.specs.declared.operation.Operation.{Operation}
use Rattle.rulebook.specs.declared.seen.Seen.{Seen}
use Rattle.execution.specs.Operations.{op, is_load, is_store, address_of, shared, present, initial, load_at, store_at, same_address, source, saw, touches, rivals}
use Rattle.rulebook.specs.Books.{access_of, seen_of, conflict, Law}
use Rattle.theory.specs.Serial.{from_start, program, local, LawfulOrder}
use Rattle.execution.specs.Formed.{WellFormed}
use Rattle.theory.proofs.Tests.{and_parts, three, four, both, or_cases, or_left, or_right, eq-eqb, apart}

shared_same : (p q : Option ℕ) → T (shared p q) → p ≡ q
shared_same (Some x) (Some y) h = ap Some (eqb→eq x y h)
shared_same (Some x) None h = absurd h
shared_same None (Some y) h = absurd h
shared_same None None h = refl

shared_sym : (p q : Option ℕ) → T (shared p q) → T (shared q p)
shared_sym p q h = let e = shared_same p q h in rw e (rw e at h)

shared_trans : (p q r : Option ℕ) → T (shared p q) → T (shared q r) → T (shared p r)
shared_trans p q r h k = rw (shared_same p q h) k

load_or_store : (a : Action) → T (is_load a) → T (is_store a) → ⊥
load_or_store (act.Load x s) l t = t
load_or_store (act.Store x) l t = l
load_or_store act.Fence l t = l
load_or_store act.Branch l t = l

-- two operations on one address, at least one a store
conflict_of : (a b : Action) → T (shared (address_of a) (address_of b)) → T (is_store a) ⊎ T (is_store b) → T (conflict (access_of a) (access_of b))
conflict_of (act.Load x s) (act.Load y t) h (inl k) = k
conflict_of (act.Load x s) (act.Load y t) h (inr k) = k
conflict_of (act.Load x s) (act.Store y) h k = h
conflict_of (act.Load x s) act.Fence h k = h
conflict_of (act.Load x s) act.Branch h k = h
conflict_of (act.Store x) (act.Load y t) h k = h
conflict_of (act.Store x) (act.Store y) h k = h
conflict_of (act.Store x) act.Fence h k = h
conflict_of (act.Store x) act.Branch h k = h
conflict_of act.Fence (act.Load y t) h k = h
conflict_of act.Fence (act.Store y) h k = h
conflict_of act.Fence act.Fence h k = h
conflict_of act.Fence act.Branch h k = h
conflict_of act.Branch (act.Load y t) h k = h
conflict_of act.Branch (act.Store y) h k = h
conflict_of act.Branch act.Fence h k = h
conflict_of act.Branch act.Branch h k = h

module _ (E : List Operation) where
  pub load_here : (l : ℕ) → T (load_at E l) → l < length E
  load_here l h = ltb→lt l (length E) (and_parts (present E l) _ h).0

  pub store_here : (s : ℕ) → T (store_at E s) → s < length E
  store_here s h = ltb→lt s (length E) (and_parts (present E s) _ h).0

  pub load_no_store : (l s : ℕ) → T (load_at E l) → T (store_at E s) → l ≢ s
  load_no_store l s h k e = load_or_store (op E s).action (and_parts _ _ (rw e at h)).1 (and_parts _ _ k).1

  pub same_sym : (a b : ℕ) → T (same_address E a b) → T (same_address E b a)
  same_sym a b = shared_sym (address_of (op E a).action) (address_of (op E b).action)

  pub same_trans : (a b c : ℕ) → T (same_address E a b) → T (same_address E b c) → T (same_address E a c)
  same_trans a b c = shared_trans (address_of (op E a).action) (address_of (op E b).action) (address_of (op E c).action)

  pub record Touches (s l : ℕ) : Type 0 where
    pub store : T (store_at E s)
    pub load : T (load_at E l)
    pub one_address : T (same_address E s l)

  pub touch_parts : (s l : ℕ) → T (touches E s l) → Touches s l
  touch_parts s l h = let p = three (store_at E s) (load_at E l) (same_address E s l) h in record { store = p.0; load = p.1; one_address = p.2 }

  touching : (s l : ℕ) → T (store_at E s) → T (load_at E l) → T (same_address E s l) → T (touches E s l)
  touching s l h k e = both _ _ (both _ _ h k) e

  pub saw_source : (l : ℕ) → T (load_at E l) → T (saw E l (source E l))
  saw_source l h = both _ _ h (eq-eqb _ _ refl)

  pub saw_load : (l s : ℕ) → T (saw E l s) → T (load_at E l)
  saw_load l s h = (and_parts (load_at E l) (eqb (source E l) s) h).0

  pub saw_is : (l s : ℕ) → T (saw E l s) → source E l ≡ s
  saw_is l s h = eqb→eq (source E l) s (and_parts (load_at E l) (eqb (source E l) s) h).1

  pub record Rivals (s t : ℕ) : Type 0 where
    pub one : T (store_at E s)
    pub other : T (store_at E t)
    pub one_address : T (same_address E s t)
    pub differ : s ≢ t

  pub rival_parts : (s t : ℕ) → T (rivals E s t) → Rivals s t
  rival_parts s t h =
      let p = four (store_at E s) (store_at E t) (same_address E s t) (not (eqb s t)) h in
      record { one = p.0; other = p.1; one_address = p.2; differ = apart s t p.3 }

  parts_rival : (s t : ℕ) → Rivals s t → T (rivals E s t)
  parts_rival s t p = both _ _ (both _ _ (both _ _ p.one p.other) p.one_address) (not_T (eqb s t) (λ e. p.differ (eqb→eq s t e)))

  pub rivals_turn : (s t : ℕ) → T (rivals E s t) → T (rivals E t s)
  rivals_turn s t h =
      let p = rival_parts s t h in
      parts_rival t s (record { one = p.other; other = p.one; one_address = same_sym s t p.one_address; differ = λ e. p.differ (sym e) })

  -- two different stores to the address of one load
  pub rivals_at : (s t l : ℕ) → T (touches E s l) → T (touches E t l) → s ≢ t → T (rivals E s t)
  rivals_at s t l a b d =
      let p = touch_parts s l a in
      let q = touch_parts t l b in
      parts_rival s t (record { one = p.store; other = q.store; one_address = same_trans s l t p.one_address (same_sym t l q.one_address); differ = d })

  module _ (w : WellFormed E) where
    pub saw_touches : (l s : ℕ) → T (saw E l s) → T (touches E s l)
    saw_touches l s h = rw (saw_is l s h) at (w.sources l (saw_load l s h))

    pub source_here : (l : ℕ) → T (load_at E l) → source E l < length E
    source_here l h = store_here (source E l) (touch_parts (source E l) l (w.sources l h)).store

    -- the store that one load saw touches another load of its address
    pub source_touches : (l k : ℕ) → T (load_at E l) → T (load_at E k) → T (same_address E l k) → T (touches E (source E l) k)
    source_touches l k p q a = let u = touch_parts (source E l) l (w.sources l p) in touching (source E l) k u.store q (same_trans (source E l) l k u.one_address a)

pub initial_here : (E : List Operation) (a : ℕ) → T (initial E a) → a < length E
initial_here E a i = ltb→lt a (length E) (and_parts (present E a) _ i).0

-- what a pair from the start says
pub record FromStart (E : List Operation) (a b : ℕ) : Type 0 where
  pub first : T (initial E a)
  pub there : b < length E
  pub later : T (not (initial E b))

pub start_parts : (E : List Operation) (a b : ℕ) → T (from_start E a b) → FromStart E a b
start_parts E a b t = let p = three (initial E a) (present E b) (not (initial E b)) t in record { first = p.0; there = ltb→lt b (length E) p.1; later = p.2 }

-- what a pair of the program order says
pub record Program (E : List Operation) (a b : ℕ) : Type 0 where
  pub there : b < length E
  pub started : T (not (initial E a))
  pub one_thread : (op E a).thread ≡ (op E b).thread
  pub above : a < b

pub program_parts : (E : List Operation) (a b : ℕ) → T (program E a b) → Program E a b
program_parts E a b t =
    let p = and_parts _ (ltb a b) t in
    let q = four (present E a) (present E b) (not (initial E a)) (eqb (op E a).thread (op E b).thread) p.0 in
    record { there = ltb→lt b (length E) q.1; started = q.2; one_thread = eqb→eq (op E a).thread (op E b).thread q.3; above = ltb→lt a b p.1 }

pub parts_program : (E : List Operation) (a b : ℕ) → Program E a b → T (program E a b)
parts_program E a b p =
    let h = p.there in
    let l = p.above in
    both _ _ (both _ _ (both _ _ (both _ _ (lt→ltb a (length E) (omega arith)) (lt→ltb b (length E) h)) p.started) (eq-eqb _ _ p.one_thread)) (lt→ltb a b l)

module _ (L : ℕ → ℕ → Bool) (E : List Operation) (lawful : LawfulOrder L E) where
  pub forward : (a b : ℕ) → T (L a b) → FromStart E a b ⊎ Program E a b
  forward a b t = ⊎_map (start_parts E a b) (program_parts E a b) (or_cases (from_start E a b) (program E a b) (lawful.inside a b t))

  -- the pairs of a lawful order are of operations
  pub local_here : (a b : ℕ) → T (L a b) → (a < length E) × (b < length E)
  local_here a b t =
      elim (forward a b t) [
        | inl p ↦ (initial_here E a p.first, p.there)
        | inr p ↦ let h = p.there in let l = p.above in (omega arith, h)
      ]

  pub kept_at : (a b : ℕ) → Program E a b → T (same_address E a b) → T (store_at E a) ⊎ T (store_at E b) → T (L a b)
  kept_at a b p s t = lawful.one_address a b (parts_program E a b p) (conflict_of (op E a).action (op E b).action s (⊎_map (λ h. (and_parts _ _ h).1) (λ h. (and_parts _ _ h).1) t))

-- orders that agree pair by pair are one
pub same_order : {L K : ℕ → ℕ → Bool} → ((a b : ℕ) → L a b ≡ K a b) → L ≡ K
same_order h = λ i a b. h a b i

module _ (keeps : Seen → Seen → Bool) (law : Law keeps) (E : List Operation) where
  abbrev kept : ℕ → ℕ → Bool
  kept a b = keeps (seen_of a (op E a)) (seen_of b (op E b))

  pub lawful : LawfulOrder (local keeps E) E
  lawful = record {
    inside = λ a b t. elim (or_cases (from_start E a b) (program E a b && kept a b) t) [
      | inl p ↦ or_left (from_start E a b) (program E a b) p
      | inr p ↦ or_right (from_start E a b) (program E a b) (and_parts (program E a b) (kept a b) p).0
    ];
    start = λ a b t. or_left (from_start E a b) (program E a b && kept a b) t;
    one_address = λ a b p c. or_right (from_start E a b) (program E a b && kept a b)
        (both (program E a b) (kept a b) p (law (seen_of a (op E a)) (seen_of b (op E b)) (program_parts E a b p).above c));
  }
