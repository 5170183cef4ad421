-- What every serialization keeps to.
use Rattle.std.proofs.Common.{ℕ, ◌<◌, Bool, ◌&&◌, ◌||◌, T, eqb, ◌≢◌, ◌⊎◌, List, length, ap, inl, inr, arith, eqb→eq}
use Rattle.execution.specs.declared.operation.Operation.{Operation}
use Rattle.execution.specs.Operations.{load_at, same_address, source, saw, touches}
use Rattle.theory.specs.Lists.{place}
use Rattle.theory.specs.Order.{Rows, before}
use Rattle.theory.specs.Serial.{direct, Joined, Derived, Opening, Least, Supposed, Serialization}
use Rattle.execution.specs.Formed.{WellFormed}
use Rattle.theory.proofs.Tests.{and_parts, three, or_cases}
use Rattle.theory.proofs.Operations.{load_here, store_here, source_here, load_no_store, same_sym, touch_parts, saw_load, saw_is, source_touches}
use Rattle.theory.proofs.Lists.{placed_apart}

module _ (L : ℕ → ℕ → Bool) (E : List Operation) (σ : List ℕ) (S : Serialization L E σ) where
  abbrev pub Before : ℕ → ℕ → Type 0
  Before a b = place σ a < place σ b

  pub one_first : (a b : ℕ) → a < length E → a ≢ b → Before a b ⊎ Before b a
  one_first a b h d = placed_apart σ a b (S.once a h) d

  pub rule_a_holds : (l s : ℕ) → T (touches E s l) → s ≢ source E l → Before s l → Before s (source E l)
  rule_a_holds l s k d p =
      elim (one_first s (source E l) (store_here E s (touch_parts E s l k).store) d) [
        | inl q ↦ q
        | inr q ↦ absurd (S.none_between l s k q p)
      ]

  pub rule_b_holds : (l s : ℕ) → T (touches E s l) → Before (source E l) s → Before l s
  rule_b_holds l s k p =
      let t = touch_parts E s l k in
      elim (one_first l s (load_here E l t.load) (load_no_store E l s t.load t.store)) [
        | inl q ↦ q
        | inr q ↦ absurd (S.none_between l s k p q)
      ]

  module _ (w : WellFormed E) where
    pub rule_c_holds : (l k a b : ℕ) → T (load_at E l) → T (load_at E k) → T (same_address E l k) → source E l ≢ source E k
        → Before a l → Before a k → Before (source E l) b → Before (source E k) b → Before a b
    rule_c_holds l k a b h i j d p q u v =
        let s = source_touches E w l k h i j in
        let t = source_touches E w k l i h (same_sym E l k j) in
        elim (one_first (source E l) (source E k) (source_here E w l h) d) [
          | inl o ↦ omega (arith, rule_b_holds l (source E k) t o)
          | inr o ↦ omega (arith, rule_b_holds k (source E l) s o)
        ]

    -- what follows by the rules from pairs that stand in a serialization stands in it
    pub derived_holds : (P : ℕ → ℕ → Bool) → ((x y : ℕ) → T (P x y) → Before x y) → {a b : ℕ} → Derived E P a b → Before a b
    derived_holds P base (Derived.given {a} {b} h) = base a b h
    derived_holds P base (Derived.joined {a} {b} {c} p q) = let h : Before a b = derived_holds P base p in let k : Before b c = derived_holds P base q in omega arith
    derived_holds P base (Derived.rule_a {l} {s} k d p) = rule_a_holds l s k d (derived_holds P base p)
    derived_holds P base (Derived.rule_b {l} {s} k p) = rule_b_holds l s k (derived_holds P base p)
    derived_holds P base (Derived.rule_c {l} {k} {a} {b} h d p q u v) =
        let t = three (load_at E l) (load_at E k) (same_address E l k) h in
        rule_c_holds l k a b t.0 t.1 t.2 d (derived_holds P base p) (derived_holds P base q) (derived_holds P base u) (derived_holds P base v)

  pub direct_holds : (a b : ℕ) → T (direct L E a b) → Before a b
  direct_holds a b t =
      elim (or_cases (L a b) (saw E b a) t) [
        | inl h ↦ S.in_order a b h
        | inr h ↦ rw (saw_is E b a h) at (S.from_source b (saw_load E b a h))
      ]

  pub opening_holds : {a b : ℕ} → Opening L E a b → Before a b
  opening_holds (Joined.given {a} {b} h) = direct_holds a b h
  opening_holds (Joined.joined {a} {b} {c} p q) = let h : Before a b = opening_holds p in let k : Before b c = opening_holds q in omega arith

  module _ (w : WellFormed E) where
    -- the least order stands so in every serialization
    pub least_holds : {a b : ℕ} → Least L E a b → Before a b
    least_holds = derived_holds w (direct L E) direct_holds

    -- and so does what is supposed, where the recorded order and the supposition do
    pub supposed_holds : (R : Rows) → ((x y : ℕ) → T (before R x y) → Before x y) → (a b : ℕ) → Before a b → {x y : ℕ} → Supposed E R a b x y → Before x y
    supposed_holds R r a b p =
        derived_holds w (λ x y. before R x y || (eqb x a && eqb y b)) (λ x y t. elim (or_cases (before R x y) (eqb x a && eqb y b) t) [
          | inl h ↦ r x y h
          | inr h ↦
              let q = and_parts (eqb x a) (eqb y b) h in
              let i = eqb→eq x a q.0 in
              let j = eqb→eq y b q.1 in
              omega (arith, ap (place σ) i, ap (place σ) j)
        ])
