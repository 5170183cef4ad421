-- What is tested by places is what makes an order a serialization.
use Rattle.std.proofs.Common.{◌≡◌, ℕ, ◌<◌, ◌≤◌, Bool, List, length, get_or, take, sym, subst, arith}
use Rattle.execution.specs.declared.operation.Operation.{Operation}
use Rattle.execution.specs.declared.execution.Execution.{Execution}
use Rattle.execution.specs.Operations.{source}
use Rattle.execution.specs.Formed.{WellFormed}
use Rattle.execution.specs.Calls.{ops}
use Rattle.execution.proofs.Tested.{well_formed}
use Rattle.theory.specs.Lists.{place}
use Rattle.theory.specs.Order.{Rows, Settled, Says}
use Rattle.theory.specs.Serial.{LawfulOrder, Opening, Serialization}
use Rattle.theory.proofs.Operations.{store_here, load_here, source_here, touch_parts}
use Rattle.theory.proofs.Recording.{before_in}
use Rattle.theory.proofs.Reached.{opened_fit}
use Rattle.theory.proofs.Rules.{opening_holds}
use Rattle.theory.proofs.Serials.{serial_from}
use Rattle.serialization.specs.Serials.{EachOnce, Keeps, NoneBetween}

pub formed : (e : Execution) → WellFormed (ops e)
formed e = well_formed (ops e) e.formed

pub few : (e : Execution) → length (ops e) ≤ 32
few e = (formed e).few

module _ (L : ℕ → ℕ → Bool) (E : List Operation) (lawful : LawfulOrder L E) (W : WellFormed E) (O : Rows) (says : Says E O (Opening L E))
    (σ at : List ℕ) (places : (k : ℕ) → k < length E → get_or at k 0 ≡ place σ k) where
  settled : Settled (length E) O
  settled = (opened_fit E O L W lawful says).order.settled

  serial_by : length σ ≡ length E → EachOnce (length E) σ → Keeps (length E) O at → NoneBetween E at → Serialization L E σ
  serial_by long once kept free =
      serial_from L E σ O says long once
      (λ a b t. let rows = settled.rows in let i = before_in O a b t in let h : a < length E = omega arith in let k = settled.within a b t in
      omega (arith, kept a b h k t, places a h, places b k))
      (λ l t c p q. let u = touch_parts E t l c in let h = load_here E l u.load in let k = store_here E t u.store in let s = source_here E W l u.load in
      free l t h k c (omega (arith, places (source E l) s, places t k)) (omega (arith, places l h, places t k)))

  module _ (S : Serialization L E σ) where
    serial_keeps : Keeps (length E) O at
    serial_keeps a b h k t = omega (arith, opening_holds L E σ S ((says.1 a b).0 t), places a h, places b k)

    serial_free : NoneBetween E at
    serial_free l t h k c p q = let s = source_here E W l (touch_parts E t l c).load in S.none_between l t c (omega (arith, places (source E l) s, places t k)) (omega (arith, places l h, places t k))

-- the same, where the number of operations goes by another name
module _ (L : ℕ → ℕ → Bool) (E : List Operation) (lawful : LawfulOrder L E) (W : WellFormed E) (R : Rows) (says : Says E (take (length E) R) (Opening L E)) (σ at : List ℕ) where
  abbrev Tested : ℕ → Type 0
  Tested n =
      ((k : ℕ) → k < n → get_or at k 0 ≡ place σ k)
      → (length σ ≡ n → EachOnce n σ → Keeps n (take n R) at → NoneBetween E at → Serialization L E σ) × (Serialization L E σ → Keeps n (take n R) at × NoneBetween E at)

  pub tested : (n : ℕ) → n ≡ length E → Tested n
  tested n e =
      subst Tested (sym e)
      (λ places. (serial_by L E lawful W (take (length E) R) says σ at places, λ S. (serial_keeps L E lawful W (take (length E) R) says σ at places S, serial_free L E lawful W (take (length E) R) says σ at places S)))
