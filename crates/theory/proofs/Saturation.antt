-- Rows can be closed under the three rules, within any relation that keeps them.
use Rattle.std.proofs.Common.{◌≡◌, ℕ, zero, suc, ◌<◌, not, ◌&&◌, T, eqb, ◌≢◌, List, length, Some, None, Option, sym, refl, subst, inl, inr, arith}
use lib.Dec.{not_T}
use Rattle.std.specs.List.{AllByRecursion}
use Rattle.std.proofs.ByRecursion.{All-weaker}
use Rattle.execution.specs.declared.operation.Operation.{Operation}
use Rattle.execution.specs.Operations.{load_at, same_address, source, touches}
use Rattle.execution.specs.Formed.{WellFormed}
use Rattle.theory.specs.Lists.{first_by}
use Rattle.theory.specs.Order.{Rows, before, recorded, Settled, missing}
use Rattle.theory.specs.Case.{Call, claim_a, claim_b, claim_c, premise, pair, stands, lacks, claims}
use Rattle.theory.proofs.Tests.{and_parts, three, eight, both, apart, not_not}
use Rattle.theory.proofs.Recording.{before_in, recorded_narrow, recorded_keeps}
use Rattle.theory.proofs.Operations.{store_here, load_here, source_here, touch_parts}
use Rattle.theory.proofs.Counting.{settled_square, settled_recorded, missing_falls}
use Rattle.theory.proofs.Firsts.{first_none, first_some}
use Rattle.theory.proofs.Tries.{all_claims}

-- a relation that is transitive and keeps the three rules
pub record Ruled (E : List Operation) (P : ℕ → ℕ → Type 0) : Type 0 where
  pub joins : (x y z : ℕ) → P x y → P y z → P x z
  pub by_a : (l s : ℕ) → T (touches E s l) → s ≢ source E l → P s l → P s (source E l)
  pub by_b : (l s : ℕ) → T (touches E s l) → P (source E l) s → P l s
  pub by_c : (l k x y : ℕ) → T (load_at E l && load_at E k && same_address E l k) → source E l ≢ source E k → P x l → P x k → P (source E l) y → P (source E k) y → P x y

-- a claim whose premises hold has its pair
abbrev pub Stands : List Operation → Rows → Call → Type 0
Stands E Q q = T (premise E Q q) → T (stands E Q q)

-- where no claim lacks its pair, each stands
pub none_lacks : (E : List Operation) (Q : Rows) → first_by (lacks E Q) (claims E) ≡ None → AllByRecursion (Stands E Q) (claims E)
none_lacks E Q e =
    All-weaker (λ q. T (lacks E Q q) → ⊥) (Stands E Q) (λ q f p. not_not (stands E Q q) (not_T (not (stands E Q q)) (λ n. f (both (premise E Q q) (not (stands E Q q)) p n)))) (claims E)
    (first_none (lacks E Q) (claims E) e)

module _ (E : List Operation) (W : WellFormed E) (P : ℕ → ℕ → Type 0) (ruled : Ruled E P) where
  -- settled rows that say no more than P
  pub record Part (Q : Rows) : Type 0 where
    pub settled : Settled (length E) Q
    pub inside : (x y : ℕ) → T (before Q x y) → P x y

  pub recorded_part : (a b : ℕ) (Q : Rows) → Part Q → P a b → b < length E → Part (recorded a b Q)
  recorded_part a b Q q p h = record {
    settled = settled_recorded (length E) a b Q q.settled h;
    inside = λ x y t. elim (recorded_narrow a b Q x y t) [
      | inl s ↦ q.inside x y s
      | inr w ↦
          let u : P x b = elim w.0 [ inl e ↦ subst (λ z. P z b) (sym e) p | inr s ↦ ruled.joins x a b (q.inside x a s) p ] in
          elim w.1 [ inl e ↦ subst (P x) (sym e) u | inr s ↦ ruled.joins x b y u (q.inside b y s) ]
    ];
  }

  -- a new pair of P
  pub record Gain (Q : Rows) (a b : ℕ) : Type 0 where
    pub from : a < length E
    pub to : b < length E
    pub holds : P a b
    pub new : T (not (before Q a b))

  module _ (Q : Rows) (q : Part Q) where
    -- a claim that lacks its pair gains it
    abbrev pub Gains : Call → Type 0
    Gains c = T (lacks E Q c) → Gain Q (pair E c).0 (pair E c).1

    gains_a : (l s : ℕ) → Gains (claim_a l s)
    gains_a l s h =
        let p = and_parts (premise E Q (claim_a l s)) (not (stands E Q (claim_a l s))) h in
        let r = three (touches E s l) (not (eqb s (source E l))) (before Q s l) p.0 in
        let w = touch_parts E s l r.0 in
        record { from = store_here E s w.store; to = source_here E W l w.load; holds = ruled.by_a l s r.0 (apart s (source E l) r.1) (q.inside s l r.2); new = p.1 }

    gains_b : (l s : ℕ) → Gains (claim_b l s)
    gains_b l s h =
        let p = and_parts (premise E Q (claim_b l s)) (not (stands E Q (claim_b l s))) h in
        let r = and_parts (touches E s l) (before Q (source E l) s) p.0 in
        let w = touch_parts E s l r.0 in
        record { from = load_here E l w.load; to = store_here E s w.store; holds = ruled.by_b l s r.0 (q.inside (source E l) s r.1); new = p.1 }

    gains_c : (l k a b : ℕ) → Gains (claim_c l k a b)
    gains_c l k a b h =
        let p = and_parts (premise E Q (claim_c l k a b)) (not (stands E Q (claim_c l k a b))) h in
        let r = eight (load_at E l) (load_at E k) (same_address E l k) (not (eqb (source E l) (source E k))) (before Q a l) (before Q a k) (before Q (source E l) b) (before Q (source E k) b) p.0 in
        let e = q.settled.rows in
        let i = before_in Q a l r.4 in
        record {
          from = omega arith;
          to = q.settled.within (source E l) b r.6;
          holds = ruled.by_c l k a b (both (load_at E l && load_at E k) (same_address E l k) (both (load_at E l) (load_at E k) r.0 r.1) r.2) (apart (source E l) (source E k) r.3)
              (q.inside a l r.4) (q.inside a k r.5) (q.inside (source E l) b r.6) (q.inside (source E k) b r.7);
          new = p.1;
        }

    -- the first claim that lacks its pair gains it
    pub gain : (c : Call) → first_by (lacks E Q) (claims E) ≡ Some c → Gain Q (pair E c).0 (pair E c).1
    gain c e =
        let p = first_some (lacks E Q) Gains (claims E) c (all_claims E Gains (λ l s _ _. gains_a l s) (λ l s _ _. gains_b l s) (λ l k a b _ _ _ _. gains_c l k a b)) e in
        p.1 p.0

    module _ (a b : ℕ) (g : Gain Q a b) where
      pub gain_part : Part (recorded a b Q)
      gain_part = recorded_part a b Q q g.holds g.to

      pub gain_falls : missing E (recorded a b Q) < missing E Q
      gain_falls = missing_falls E a b Q (settled_square (length E) Q q.settled) g.from g.to g.new

  abbrev pub Saturated : Rows → Type 0
  Saturated Q = (Q' : Rows) × Part Q' × ((x y : ℕ) → T (before Q x y) → T (before Q' x y)) × AllByRecursion (Stands E Q') (claims E)

  close_up : (k : ℕ) (Q : Rows) → Part Q → missing E Q < k → Saturated Q
  close_up zero Q q h = absurd (omega arith)
  close_up (suc k) Q q h = step (first_by (lacks E Q) (claims E)) refl (close_up k)
    where
      step : (o : Option Call) → first_by (lacks E Q) (claims E) ≡ o → ((Q : Rows) → Part Q → missing E Q < k → Saturated Q) → Saturated Q
      step None e rest = (Q, q, (λ x y t. t), none_lacks E Q e)
      step (Some c) e rest =
          let a = (pair E c).0 in
          let b = (pair E c).1 in
          let g = gain Q q c e in
          let less = gain_falls Q q a b g in
          let r = rest (recorded a b Q) (gain_part Q q a b g) (omega arith) in
          (r.0, r.1, (λ x y t. r.2 x y (recorded_keeps a b Q x y t)), r.3)

  pub saturated : (Q : Rows) → Part Q → Saturated Q
  saturated Q q = close_up (suc (missing E Q)) Q q (omega arith)
