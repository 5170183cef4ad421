-- What follows by the rules can be written as rows: the least order, and what is supposed.
use Rattle.std.proofs.Common.{◌≡◌, ℕ, ◌<◌, ◌≤◌, Bool, not, ◌&&◌, ◌||◌, T, eqb, List, ◌++◌, length, None, sym, subst, inl, inr, arith, eqb→eq}
use lib.Dec.{eqb_refl, not_T}
use Rattle.std.specs.List.{AllByRecursion}
use Rattle.execution.specs.declared.operation.Operation.{Operation}
use Rattle.execution.specs.Operations.{load_at, same_address, source, touches}
use Rattle.execution.specs.Formed.{WellFormed}
use Rattle.theory.specs.Lists.{first_by}
use Rattle.theory.specs.Order.{Rows, before, recorded, Settled, pairs, Says}
use Rattle.theory.specs.Serial.{direct, Joined, Derived, Opening, Least, Supposed}
use Rattle.theory.specs.Case.{lacks, claims_a, claims_b, claims_c, claims}
use Rattle.theory.proofs.Tests.{and_parts, three, both, or_cases, or_left, or_right}
use Rattle.theory.proofs.Ranges.{append_parts, over_all}
use Rattle.theory.proofs.Recording.{before_in, recorded_narrow, recorded_has, recorded_keeps}
use Rattle.theory.proofs.Operations.{store_here, load_here, source_here, touch_parts}
use Rattle.theory.proofs.Counting.{settled_square, pairs_mono}
use Rattle.theory.proofs.Saturation.{Ruled, Stands, Part, none_lacks, saturated, recorded_part}

-- rows in which no claim is missing keep the rules
pub rows_ruled : (E : List Operation) (Q : Rows) → Settled (length E) Q → AllByRecursion (Stands E Q) (claims E) → Ruled E (λ x y. T (before Q x y))
rows_ruled E Q settled all =
    let r = append_parts (Stands E Q) (claims_a E ++ claims_b E) (claims_c E) all in
    let s = append_parts (Stands E Q) (claims_a E) (claims_b E) r.0 in
    let within = settled.within in
    let rows = settled.rows in
    record {
      joins = settled.joins;
      by_a = λ l t c d b.
          (over_all (length E) (Stands E Q) _ (over_all (length E) (Stands E Q) _ s.0 l (within t l b)) t (store_here E t (touch_parts E t l c).store)).0
          (both (touches E t l && not (eqb t (source E l))) (before Q t l) (both (touches E t l) (not (eqb t (source E l))) c (not_T (eqb t (source E l)) (λ e. d (eqb→eq t (source E l) e)))) b);
      by_b = λ l t c b.
          (over_all (length E) (Stands E Q) _ (over_all (length E) (Stands E Q) _ s.1 l (load_here E l (touch_parts E t l c).load)) t (within (source E l) t b)).0
          (both (touches E t l) (before Q (source E l) t) c b);
      by_c = λ l k x y u d p q m o.
          (let v = three (load_at E l) (load_at E k) (same_address E l k) u in
          (over_all (length E) (Stands E Q) _ (over_all (length E) (Stands E Q) _ (over_all (length E) (Stands E Q) _ (over_all (length E) (Stands E Q) _ r.1 l (load_here E l v.0)) k (load_here E k v.1)) x (let h = before_in Q x l p in omega arith)) y (within (source E l) y m)).0
          (both _ (before Q (source E k) y) (both _ (before Q (source E l) y) (both _ (before Q x k) (both _ (before Q x l) (both _ (not (eqb (source E l) (source E k))) u
          (not_T (eqb (source E l) (source E k)) (λ e. d (eqb→eq (source E l) (source E k) e)))) p) q) m) o));
    }

module _ (E : List Operation) (B : ℕ → ℕ → Bool) where
  pub derived_ruled : Ruled E (Derived E B)
  derived_ruled = record {
    joins = λ x y z p q. Derived.joined p q;
    by_a = λ l s c d p. Derived.rule_a c d p;
    by_b = λ l s c p. Derived.rule_b c p;
    by_c = λ l k x y c d p q r s. Derived.rule_c c d p q r s;
  }

  -- it is the least such relation
  pub derived_least : (P : ℕ → ℕ → Type 0) → Ruled E P → ((x y : ℕ) → T (B x y) → P x y) → {x y : ℕ} → Derived E B x y → P x y
  derived_least P d base (Derived.given {a = x} {b = y} t) = base x y t
  derived_least P d base (Derived.joined {a = x} {b = y} {c = z} s t) = d.joins x y z (derived_least P d base s) (derived_least P d base t)
  derived_least P d base (Derived.rule_a {l = l} {s = s} c e u) = d.by_a l s c e (derived_least P d base u)
  derived_least P d base (Derived.rule_b {l = l} {s = s} c u) = d.by_b l s c (derived_least P d base u)
  derived_least P d base (Derived.rule_c {l = l} {k = k} {a = x} {b = y} c e h i j m) =
      d.by_c l k x y c e (derived_least P d base h) (derived_least P d base i) (derived_least P d base j) (derived_least P d base m)

-- pairs that follow from one another have the same that follows
pub derived_same : (E : List Operation) (B C : ℕ → ℕ → Bool) → ((x y : ℕ) → T (B x y) → Derived E C x y) → ((x y : ℕ) → T (C x y) → Derived E B x y)
    → (Q : Rows) → Says E Q (Derived E B) → Says E Q (Derived E C)
derived_same E B C f g Q s = (
  s.0,
  λ x y. ((λ t. derived_least E B (Derived E C) (derived_ruled E C) f ((s.1 x y).0 t)), (λ p. (s.1 x y).1 (derived_least E C (Derived E B) (derived_ruled E B) g p))),
)

pub opening_least : (L : ℕ → ℕ → Bool) (E : List Operation) {x y : ℕ} → Opening L E x y → Least L E x y
opening_least L E (Joined.given t) = Derived.given t
opening_least L E (Joined.joined p q) = Derived.joined (opening_least L E p) (opening_least L E q)

-- what follows from the opening order is the least order
pub derived_opening : (L : ℕ → ℕ → Bool) (E : List Operation) (O Q : Rows) → Says E O (Opening L E) → Says E Q (Derived E (before O)) → Says E Q (Least L E)
derived_opening L E O Q o = derived_same E (before O) (direct L E) (λ x y t. opening_least L E ((o.1 x y).0 t)) (λ x y t. Derived.given ((o.1 x y).1 (Joined.given t))) Q

-- what follows from the recorded order with a before b recorded is what is supposed
module _ (E : List Operation) (R : Rows) (a b : ℕ) where
  abbrev pub supposing : ℕ → ℕ → Bool
  supposing x y = before R x y || (eqb x a && eqb y b)

  abbrev Sup : ℕ → ℕ → Type 0
  Sup = Supposed E R a b

  pub stood : (x y : ℕ) → T (before R x y) → Supposed E R a b x y
  stood x y t = Derived.given (or_left (before R x y) (eqb x a && eqb y b) t)

  pub assumed : Supposed E R a b a b
  assumed = Derived.given (or_right (before R a b) (eqb a a && eqb b b) (both (eqb a a) (eqb b b) (eqb_refl a) (eqb_refl b)))

  pub recorded_supposed : (x y : ℕ) → T (before (recorded a b R) x y) → Supposed E R a b x y
  recorded_supposed x y t =
      elim (recorded_narrow a b R x y t) [
        | inl s ↦ stood x y s
        | inr w ↦
            let u : Sup x b = elim w.0 [ inl e ↦ subst (λ z. Sup z b) (sym e) assumed | inr s ↦ Derived.joined (stood x a s) assumed ] in
            elim w.1 [ inl e ↦ subst (Sup x) (sym e) u | inr s ↦ Derived.joined u (stood b y s) ]
      ]

  pub supposing_recorded : a < length R → (x y : ℕ) → T (supposing x y) → T (before (recorded a b R) x y)
  supposing_recorded h x y t =
      elim (or_cases (before R x y) (eqb x a && eqb y b) t) [
        | inl s ↦ recorded_keeps a b R x y s
        | inr s ↦
            let p = and_parts (eqb x a) (eqb y b) s in
            subst (λ z. T (before (recorded a b R) z y)) (sym (eqb→eq x a p.0)) (subst (λ z. T (before (recorded a b R) a z)) (sym (eqb→eq y b p.1)) (recorded_has a b R h))
      ]

  pub derived_supposed : a < length R → (Q : Rows) → Says E Q (Derived E (before (recorded a b R))) → Says E Q (Supposed E R a b)
  derived_supposed h = derived_same E (before (recorded a b R)) supposing recorded_supposed (λ x y t. Derived.given (supposing_recorded h x y t))

module _ (E : List Operation) (W : WellFormed E) (B : ℕ → ℕ → Bool) where
  -- rows between some pairs and what follows from them
  abbrev pub Between : Rows → Type 0
  Between Q = Part E W (Derived E B) (derived_ruled E B) Q

  -- where no claim is missing, they say what follows
  pub closed_says : (Q : Rows) → Between Q → ((x y : ℕ) → T (B x y) → T (before Q x y)) → AllByRecursion (Stands E Q) (claims E) → Says E Q (Derived E B)
  closed_says Q q sub all =
      (q.settled.rows, λ x y. (q.inside x y, derived_least E B (λ x y. T (before Q x y)) (rows_ruled E Q q.settled all) sub))

  pub derived_says : (Q : Rows) → Between Q → ((x y : ℕ) → T (B x y) → T (before Q x y)) → (Q' : Rows) × Says E Q' (Derived E B)
  derived_says Q q sub = let r = saturated E W (Derived E B) (derived_ruled E B) Q q in (r.0, closed_says r.0 r.1 (λ x y t. r.2 x y (sub x y t)) r.3)

module _ (E : List Operation) (W : WellFormed E) where
  -- closing settled rows begins with the rows themselves
  pub closing_starts : (R : Rows) → Settled (length E) R → Between E W (before R) R
  closing_starts R s = record { settled = s; inside = λ x y t. Derived.given t }

  pub least_says : (L : ℕ → ℕ → Bool) (O : Rows) → Settled (length E) O → Says E O (Opening L E) → (Q : Rows) × Says E Q (Least L E)
  least_says L O s says = derived_says E W (direct L E) O (record { settled = s; inside = λ x y t. opening_least L E ((says.1 x y).0 t) }) (λ x y t. (says.1 x y).1 (Joined.given t))

  module _ (R : Rows) (s : Settled (length E) R) (a b : ℕ) (ha : a < length E) (hb : b < length E) where
    start : Between E W (supposing E R a b) (recorded a b R)
    start = recorded_part E W (Supposed E R a b) (derived_ruled E (supposing E R a b)) a b R (record { settled = s; inside = stood E R a b }) (assumed E R a b) hb

    has : (x y : ℕ) → T (supposing E R a b x y) → T (before (recorded a b R) x y)
    has = supposing_recorded E R a b (let e = s.rows in omega arith)

    pub supposed_says : (Q : Rows) × Says E Q (Supposed E R a b)
    supposed_says = derived_says E W (supposing E R a b) (recorded a b R) start has

    -- where the pair makes no claim possible, it is all that is added
    pub supposed_at_once : first_by (lacks E (recorded a b R)) (claims E) ≡ None → Says E (recorded a b R) (Supposed E R a b)
    supposed_at_once e = closed_says E W (supposing E R a b) (recorded a b R) start has (none_lacks E (recorded a b R) e)

    -- what is supposed has all that is recorded: the count of added pairs is a difference
    pub supposed_grows : (Q : Rows) → Says E Q (Supposed E R a b) → pairs R ≤ pairs Q
    supposed_grows Q says =
        pairs_mono (length E) R Q (settled_square (length E) R s) (record { rows = says.0; within = λ x y t. below ((says.1 x y).0 t) }) (λ x y t. (says.1 x y).1 (stood E R a b x y t))
      where
        named : Ruled E (λ x y. y < length E)
        named = record {
          joins = λ x y z p q. q;
          by_a = λ l t c d p. source_here E W l (touch_parts E t l c).load;
          by_b = λ l t c p. store_here E t (touch_parts E t l c).store;
          by_c = λ l k x y c d p q r t. r;
        }

        below : {x y : ℕ} → Supposed E R a b x y → y < length E
        below = derived_least E (supposing E R a b) (λ x y. y < length E) named (λ x y t. start.settled.within x y (has x y t))
