-- The test of the rules: it passes exactly what is well-formed.
use Rattle.std.proofs.Common.{◌≡◌, ℕ, zero, suc, ◌<◌, ◌≤◌, true, false, not, ◌&&◌, T, eqb, List, [], ◌∷◌, ◌++◌, length, take, Some, sym, refl, subst, inl, inr, append_assoc, append-nil, arith}
use Rattle.std.proofs.lemmas.List.{get_or-take, length-take-le}
use Rattle.std.proofs.lemmas.Bool.{cases_eq, cases_order}
use Rattle.std.proofs.lemmas.Bool.Decides.{nat_tests}
use Rattle.execution.specs.declared.operation.Action.{Action}
use Rattle.execution.specs.declared.operation.Action.TheVariants as act
use Rattle.execution.specs.declared.operation.Operation.{Operation}
use Rattle.execution.specs.Operations.{idle, op, is_store, address_of, shared, load_at, store_at, initial, same_address, source, touches, rivals}
use Rattle.execution.specs.Formed.{WellFormed, stores_to, opened, first_store, follows, in_turn, sourced, formed?}
use Rattle.execution.specs.Writing.{address_number}
use Rattle.execution.proofs.Listed.{some_at, some_none, some_false}

-- a store to x is a store, and its address is x
stores_is : (x : ℕ) (a : Action) → stores_to x a ≡ (is_store a && shared (address_of a) (Some x))
stores_is x a = grind (arith, nat_tests)

turns : (E F : List Operation) → in_turn E F ≡ true → (k : ℕ) → k < length F → follows (E ++ take k F) (op F k) ≡ true
turns E [] h k l = absurd (omega arith)
turns E (o ∷ F) h zero l = grind (arith, append-nil)
turns E (o ∷ F) h (suc k) l = grind (arith, append_assoc, turns (E ++ o ∷ []) F)

turned : (E F : List Operation) → ((k : ℕ) → k < length F → follows (E ++ take k F) (op F k) ≡ true) → in_turn E F ≡ true
turned E [] h = refl
turned E (o ∷ F) h =
    let first = subst (λ X. follows X o ≡ true) (append-nil E) (h 0 (omega arith)) in
    let rest = turned (E ++ o ∷ []) F (λ k l. subst (λ X. follows X (op F k) ≡ true) (sym (append_assoc E (o ∷ []) (take k F))) (h (suc k) (omega arith))) in grind arith

-- the operations before b have a store of thread 0 to x exactly if there is one
opened_at : (E : List Operation) (b k x : ℕ) → b < length E → k < b → (op E k).thread ≡ 0 → stores_to x (op E k).action ≡ true → opened (take b E) x ≡ true
opened_at E b k x h l z s =
    let n = length-take-le b E (omega arith) in
    some_at (λ k. eqb (op (take b E) k).thread 0 && stores_to x (op (take b E) k).action) (length (take b E)) k (omega arith) (let e = get_or-take b E k idle l in grind (arith, nat_tests))

opened_none : (E : List Operation) (b x : ℕ) → b < length E → ((k : ℕ) → k < b → (op E k).thread ≡ 0 → stores_to x (op E k).action ≡ true → ⊥) → opened (take b E) x ≡ false
opened_none E b x h none =
    let n = length-take-le b E (omega arith) in
    some_none (λ k. eqb (op (take b E) k).thread 0 && stores_to x (op (take b E) k).action) (length (take b E)) (λ k l. (let i : k < b = omega arith in let e = get_or-take b E k idle i in grind (arith, nat_tests, none k i)))

-- an earlier store in thread 0 to the address of one that stands there
earlier : (E : List Operation) (x k a : ℕ) → k < a → a < length E → stores_to x (op E k).action ≡ true → (op E a).action ≡ act.Store x → T (rivals E k a)
earlier E x k a l m s e = grind (arith, nat_tests, stores_is)

in_thread : (E : List Operation) (a : ℕ) → a < length E → (op E a).thread ≡ 0 → T (initial E a)
in_thread E a l z = grind (arith, nat_tests)

sourced_from : (E : List Operation) (k : ℕ) → k < length E → (T (load_at E k) → T (touches E (source E k) k)) → sourced E (op E k).action ≡ true
sourced_from E k l h = grind (arith, nat_tests, stores_is)

first_from : (E : List Operation) (a : Action) → is_store a ≡ true → ((x : ℕ) → a ≡ act.Store x → opened E x ≡ false) → first_store E a ≡ true
first_from E a i h = grind (arith, nat_tests, h)

stored : (E : List Operation) (a : ℕ) → T (store_at E a) → is_store (op E a).action ≡ true
stored E a t = grind arith

same_thread : (o p q : Operation) → o ≡ p → T (eqb p.thread q.thread) → o.thread ≡ q.thread
same_thread o p q e t = grind (arith, nat_tests)

may_stand : (E : List Operation) (o : Operation) → o.thread ≤ 8 → (o.thread ≡ 0 → first_store E o.action ≡ true) → ((d : ℕ) → o.dependence ≡ Some d → (0 < o.thread) × (d < length E) × ((op E d).thread ≡ o.thread)) → follows E o ≡ true
may_stand E o low first depends = grind (arith, nat_tests, first, depends)

module _ (E : List Operation) (f : T (formed? E)) where
  turn : (a : ℕ) → a < length E → follows (take a E) (op E a) ≡ true
  turn a l = turns [] E (grind arith) a l

  right : (k : ℕ) → k < length E → sourced E (op E k).action ≡ true
  right k l = let p = some_false (λ k. not (sourced E (op E k).action)) (length E) (grind arith) k l in grind arith

  once : (a b : ℕ) → a < b → T (initial E a) → T (initial E b) → store_at E a ≡ true → same_address E a b ≡ true → ⊥
  once a b l s t w e =
      let i : b < length E = grind (arith, nat_tests) in
      let p = turn b i in
      let q = opened_at E b a (address_number (op E b).action) i l in
      grind (arith, nat_tests, stores_is)

  pub well_formed : WellFormed E
  well_formed = record {
    few = grind (arith, nat_tests);
    threads = λ a l. (let p = turn a l in grind (arith, nat_tests));
    sources = λ l t. (let i : l < length E = grind (arith, nat_tests) in let p = right l i in grind (arith, nat_tests, stores_is));
    initial_stores = λ a t. (let i : a < length E = grind (arith, nat_tests) in let p = turn a i in grind (arith, nat_tests));
    initial_once = λ a b s t r. elim (cases_order a b) [
      | inl e ↦ grind (arith, nat_tests)
      | inr u ↦ elim u [ inl l ↦ once a b l s t (grind arith) (grind arith) | inr l ↦ once b a l t s (grind arith) (grind (arith, nat_tests)) ]
    ];
    initial_free = λ a d t e. (let i : a < length E = grind (arith, nat_tests) in let p = turn a i in grind (arith, nat_tests));
    depends_above = λ a d l e. (let p = turn a l in let n = length-take-le a E (omega arith) in grind (arith, nat_tests));
    depends_inside = λ a d l e. (let p = turn a l in let n = length-take-le a E (omega arith) in grind (arith, nat_tests, get_or-take));
  }

module _ (E : List Operation) (w : WellFormed E) where
  alone : (a x : ℕ) → a < length E → (op E a).thread ≡ 0 → (op E a).action ≡ act.Store x → opened (take a E) x ≡ false
  alone a x l z e = opened_none E a x l (λ k j y h. w.initial_once k a (in_thread E k (omega arith) y) (in_thread E a l z) (earlier E x k a j l h e))

  fitting : (a : ℕ) → a < length E → follows (take a E) (op E a) ≡ true
  fitting a l =
      let n = length-take-le a E (omega arith) in
      may_stand (take a E) (op E a) (w.threads a l) (λ z. first_from (take a E) (op E a).action (stored E a (w.initial_stores a (in_thread E a l z))) (λ x e. alone a x l z e))
      (λ d e. (let u = w.depends_above a d l e in let v = w.depends_inside a d l e in let o = get_or-take a E d idle u in (elim (cases_eq (op E a).thread 0) [ inl z ↦ absurd (w.initial_free a d (in_thread E a l z) e) | inr z ↦ omega arith ], omega arith, same_thread (op (take a E) d) (op E d) (op E a) o v)))

  sighted : (k : ℕ) → k < length E → sourced E (op E k).action ≡ true
  sighted k l = sourced_from E k l (w.sources k)

  pub formed_well : T (formed? E)
  formed_well =
      let p = w.few in
      let q = turned [] E fitting in
      let r = some_none (λ k. not (sourced E (op E k).action)) (length E) (λ k l. (let s = sighted k l in grind arith)) in
      grind (arith, nat_tests)
