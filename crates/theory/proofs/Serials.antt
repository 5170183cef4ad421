-- Whether an order is a serialization, as a test.
use Rattle.std.proofs.Common.{◌≡◌, ℕ, ◌<◌, Bool, not, ◌&&◌, ◌||◌, T, eqb, List, length, eqb→eq, ltb→lt, lt→ltb, T_not}
use lib.Dec.{not_T}
use Rattle.execution.specs.declared.operation.Operation.{Operation}
use Rattle.execution.specs.Operations.{load_at, source, saw, touches}
use Rattle.theory.specs.Lists.{every, place, count}
use Rattle.theory.specs.Order.{Rows, before, Says}
use Rattle.theory.specs.Serial.{given, Opening, Serialization, earlier, serial?}
use Rattle.theory.proofs.Tests.{and_parts, three, both, eq-eqb, if_then, then_if, or_left, or_right}
use Rattle.theory.proofs.Ranges.{every_at, at_every}
use Rattle.theory.proofs.Operations.{store_here, load_here, touch_parts, saw_source}

module _ (L : ℕ → ℕ → Bool) (E : List Operation) (σ : List ℕ) where
  abbrev in_order? : ℕ → ℕ → Bool
  in_order? a b = not (L a b) || earlier L E σ a b

  abbrev from_source? : ℕ → Bool
  from_source? l = not (load_at E l) || earlier L E σ (source E l) l

  abbrev between? : ℕ → ℕ → Bool
  between? l t = touches E t l && earlier L E σ (source E l) t && earlier L E σ t l

  -- what passes the test is a serialization, where the pairs of L are of operations
  pub is_serial : ((a b : ℕ) → T (L a b) → (a < length E) × (b < length E)) → T (serial? L E σ) → Serialization L E σ
  is_serial here h =
      let p5 = and_parts _ (every (length E) (λ l. every (length E) (λ t. not (between? l t)))) h in
      let p4 = and_parts _ (every (length E) from_source?) p5.0 in
      let p3 = three (eqb (length σ) (length E)) (every (length E) (λ a. eqb (count σ a) 1)) (every (length E) (λ a. every (length E) (in_order? a))) p4.0 in
      record {
        all = eqb→eq (length σ) (length E) p3.0;
        once = λ a l. eqb→eq (count σ a) 1 (every_at (length E) (λ a. eqb (count σ a) 1) p3.1 a l);
        in_order = λ a b t. (let i = here a b t in
            ltb→lt (place σ a) (place σ b) (if_then (L a b) (earlier L E σ a b) (every_at (length E) (in_order? a) (every_at (length E) (λ a. every (length E) (in_order? a)) p3.2 a i.0) b i.1) t));
        from_source = λ l i. ltb→lt (place σ (source E l)) (place σ l) (if_then (load_at E l) (earlier L E σ (source E l) l) (every_at (length E) from_source? p4.1 l (load_here E l i)) i);
        none_between = λ l t c p q. (let u = touch_parts E t l c in
            T_not (between? l t)
            (every_at (length E) (λ t. not (between? l t)) (every_at (length E) (λ l. every (length E) (λ t. not (between? l t))) p5.1 l (load_here E l u.load)) t (store_here E t u.store))
            (both _ _ (both _ _ c (lt→ltb _ _ p)) (lt→ltb _ _ q)));
      }

  -- and every serialization passes
  pub serial_is : Serialization L E σ → T (serial? L E σ)
  serial_is S =
      both _ _ (both _ _ (both _ _ (both _ _ (eq-eqb _ _ S.all)
      (at_every (length E) (λ a. eqb (count σ a) 1) (λ a l. eq-eqb _ _ (S.once a l))))
      (at_every (length E) (λ a. every (length E) (in_order? a)) (λ a _. at_every (length E) (in_order? a) (λ b _. then_if (L a b) (earlier L E σ a b) (λ t. lt→ltb _ _ (S.in_order a b t))))))
      (at_every (length E) from_source? (λ l _. then_if (load_at E l) (earlier L E σ (source E l) l) (λ t. lt→ltb _ _ (S.from_source l t)))))
      (at_every (length E) (λ l. every (length E) (λ t. not (between? l t))) (λ l _. at_every (length E) (λ t. not (between? l t)) (λ t _. not_T (between? l t) (λ b.
      let p = three (touches E t l) (earlier L E σ (source E l) t) (earlier L E σ t l) b in
      S.none_between l t p.0 (ltb→lt _ _ p.1) (ltb→lt _ _ p.2)))))

-- an order is a serialization where it keeps the opening order, which has the sources
pub serial_from : (L : ℕ → ℕ → Bool) (E : List Operation) (σ : List ℕ) (O : Rows) → Says E O (Opening L E) → length σ ≡ length E → ((a : ℕ) → a < length E → count σ a ≡ 1)
    → ((a b : ℕ) → T (before O a b) → place σ a < place σ b)
    → ((l t : ℕ) → T (touches E t l) → place σ (source E l) < place σ t → place σ t < place σ l → ⊥) → Serialization L E σ
serial_from L E σ O says long once kept free = record {
  all = long;
  once = once;
  in_order = λ a b t. kept a b ((says.1 a b).1 (given (or_left (L a b) (saw E b a) t)));
  from_source = λ l t. kept (source E l) l ((says.1 (source E l) l).1 (given (or_right (L (source E l) l) (saw E l (source E l)) (saw_source E l t))));
  none_between = free;
}
