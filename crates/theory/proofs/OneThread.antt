-- A program of one thread: its record is serial where each load saw the last store above it.
use Rattle.std.proofs.Common.{◌≡◌, ℕ, ◌<◌, Bool, not, T, eqb, ◌⊎◌, List, length, sym, refl, ◌∙◌, inl, inr, ⊎_elim, zero-le, arith, eqb→eq, lt→ltb, T_not}
use lib.Dec.{not_T}
use Rattle.std.proofs.lemmas.Bool.{cases_lt, cases_order}
use Rattle.execution.specs.declared.operation.Operation.{Operation}
use Rattle.execution.specs.Operations.{op, present, initial, load_at, store_at, same_address, source, touches}
use Rattle.std.specs.List.{range_with_len}
use Rattle.theory.specs.Lists.{place}
use Rattle.theory.specs.Serial.{LawfulOrder, Serialization, OneThread, SawLast}
use Rattle.execution.specs.Formed.{WellFormed}
use Rattle.std.proofs.lemmas.List.FromFn.{length-range_with_len}
use Rattle.theory.proofs.Tests.{and_parts, both, eq-eqb}
use Rattle.theory.proofs.Lists.{place_upto, count_upto}
use Rattle.theory.proofs.Operations.{initial_here, load_here, store_here, load_no_store, touch_parts, same_sym, same_trans, forward, local_here, kept_at}

module _ (L : ℕ → ℕ → Bool) (E : List Operation) (lawful : LawfulOrder L E) (w : WellFormed E) (one : OneThread E) where
  same_start : (a b : ℕ) → b < length E → T (initial E a) → T (initial E b)
  same_start a b h i =
      both _ _ (lt→ltb b (length E) h) (eq-eqb _ _ (one b a h (initial_here E a i) ∙ eqb→eq (op E a).thread 0 (and_parts (present E a) (eqb (op E a).thread 0) i).1))

  -- the local order is that of the numbers
  local_up : (a b : ℕ) → T (L a b) → (a < b) × (b < length E)
  local_up a b h =
      let b-in = (local_here L E lawful a b h).1 in
      (elim (forward L E lawful a b h) [ inl p ↦ absurd (T_not (initial E b) p.later (same_start a b b-in p.first)) | inr p ↦ p.above ], b-in)

  -- with a load about, the law orders the stores and loads of one address
  module _ (l : ℕ) (load : T (load_at E l)) where
    past_start : (a : ℕ) → a < length E → T (not (initial E a))
    past_start a h = not_T (initial E a) (λ i. load_no_store E l l load (w.initial_stores l (same_start a l (load_here E l load) i)) refl)

    law_local : (a b : ℕ) → a < b → b < length E → T (same_address E a b) → T (store_at E a) ⊎ T (store_at E b) → T (L a b)
    law_local a b h k s e = let here : a < length E = omega arith in kept_at L E lawful a b (record { there = k; started = past_start a here; one_thread = one a b here k; above = h }) s e

    pub serial_last : (σ : List ℕ) → Serialization L E σ → SawLast E l
    serial_last σ S = record { above = above' (cases_order s l); last = λ t h k. ⊎_elim (λ o. absurd (later t h k o)) (λ o. o) (cases_lt s t) }
      where
        s : ℕ
        s = source E l

        u : T (touches E s l)
        u = w.sources l load

        stored : T (store_at E s)
        stored = (touch_parts E s l u).store

        at_one : T (same_address E s l)
        at_one = (touch_parts E s l u).one_address

        above' : (s ≡ l) ⊎ ((s < l) ⊎ (l < s)) → s < l
        above' (inl e) = absurd (load_no_store E l s load stored (sym e))
        above' (inr (inl o)) = o
        above' (inr (inr o)) =
            let p = S.in_order l s (law_local l s o (store_here E s stored) (same_sym E s l at_one) (inr stored)) in
            let q = S.from_source l load in
            absurd (omega arith)

        later : (t : ℕ) → T (touches E t l) → t < l → s < t → ⊥
        later t h k o =
            let d = touch_parts E t l h in
            S.none_between l t h
            (S.in_order s t (law_local s t o (store_here E t d.store) (same_trans E s l t at_one (same_sym E t l d.one_address)) (inr d.store)))
            (S.in_order t l (law_local t l k (load_here E l load) d.one_address (inl d.store)))

  module _ (lasts : (l : ℕ) → T (load_at E l) → SawLast E l) where
    there : (a : ℕ) → a < length E → place (range_with_len 0 (length E)) a ≡ a
    there a h = omega (arith, place_upto 0 (length E) a zero-le (omega arith))

    saw_above : (l : ℕ) → T (load_at E l) → (source E l < l) × (l < length E)
    saw_above l h = ((lasts l h).above, load_here E l h)

    pub last_serial : Serialization L E (range_with_len 0 (length E))
    last_serial = record {
      all = length-range_with_len 0 (length E);
      once = λ a h. count_upto 0 (length E) a zero-le (omega arith);
      in_order = λ a b h. let p = local_up a b h in omega (arith, there a (omega arith), there b p.1);
      from_source = λ l h. let p = saw_above l h in omega (arith, there (source E l) (omega arith), there l p.1);
      none_between = λ l t k p q.
          let c = touch_parts E t l k in
          let u = saw_above l c.load in
          let i = there (source E l) (omega arith) in
          let j = there l u.1 in
          let m = there t (store_here E t c.store) in
          omega (arith, (lasts l c.load).last t k (omega arith));
    }
