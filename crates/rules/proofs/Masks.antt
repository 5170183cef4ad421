-- What the masks of rows say of the claims.
use Rattle.std.proofs.Common.{◌≡◌, ℕ, ◌<◌, Bool, true, false, not, ◌&&◌, T, List, length, get_or, take, Some, None, Option, MatchOption, ltb, arith, sym, ap, ◌∙◌, subst, ap₂}
use Rattle.std.specs.Bool.{then_some}
use lib.Bits.{bit_and}
use Rattle.std.proofs.lemmas.Bool.{and_parts, ltb-true, ltb-false}
use Rattle.execution.specs.declared.execution.Execution.{Execution}
use Rattle.execution.specs.declared.operation.Operation.{Operation}
use Rattle.execution.specs.Operations.{source}
use Rattle.execution.specs.Calls.{ops}
use Rattle.order.specs.declared.order.Order.{Order}
use Rattle.order.specs.Bits.{bit, LowestOf}
use Rattle.order.proofs.Bitwise.{bit-and, lowest_same}
use Rattle.theory.specs.Order.{Rows, before, Settled}
use Rattle.theory.specs.Case.{lacks, claim_c}
use Rattle.theory.proofs.Cut.{cut_before}
use Rattle.rules.proofs.Executions.{few}
use Rattle.order.specs.Rows.{rows_of}
use Rattle.rules.specs.Claims.{crossed}
use Rattle.rules.specs.Scans.{LowestBelow, AfterBoth}

-- what is after both sources: s and t are the sources, and u and v their rows
pub both_rows : (e : Execution) (o : Order) (l k s t u v : ℕ) → s ≡ source (ops e) l → t ≡ source (ops e) k → s < length (ops e) → t < length (ops e) → u ≡ get_or o.rows s 0 → v ≡ get_or o.rows t 0
    → (b : ℕ) → bit (bit_and u v) b ≡ (before (rows_of e o) (source (ops e) l) b && before (rows_of e o) (source (ops e) k) b)
both_rows e o l k s t u v i j h g p q b =
    bit-and u v b ∙ ap₂ (λ x y. bit x b && bit y b) p q
    ∙ ap₂ ◌&&◌ (sym (cut_before (length (ops e)) s b o.rows h)) (sym (cut_before (length (ops e)) t b o.rows g))
    ∙ ap₂ (λ x y. before (rows_of e o) x b && before (rows_of e o) y b) i j

-- the same where rule c speaks of the loads: s and t are the sources, and u and v their rows
module _ (e : Execution) (o : Order) (l k s t u v : ℕ) (i : s ≡ source (ops e) l) (j : t ≡ source (ops e) k) (h : s < length (ops e)) (g : t < length (ops e)) (p : u ≡ get_or o.rows s 0) (q : v ≡ get_or o.rows t 0) where
  abbrev After : Option ℕ → Type 0
  After r = MatchOption r (crossed (ops e) l k ≡ false) (λ m. (crossed (ops e) l k ≡ true) × AfterBoth (ops e) (rows_of e o) l k m)

  pub after_both : (b : Bool) (r : Option ℕ) → b ≡ crossed (ops e) l k → r ≡ then_some b (bit_and u v) → After r
  after_both b r c d = subst After (sym d) (go b c)
    where
      go : (b : Bool) → b ≡ crossed (ops e) l k → After (then_some b (bit_and u v))
      go false c = sym c
      go true c = (sym c, both_rows e o l k s t u v i j h g p q)

-- rule c: of what is after both sources, what a is not before, where a is before both loads, is what the order lacks
module _ (e : Execution) (o : Order) (l k a m n : ℕ) (is : n ≡ length (ops e)) (a_in : a < length (ops e)) (crosses : crossed (ops e) l k ≡ true) (mask : AfterBoth (ops e) (rows_of e o) l k m) where
  abbrev R : Rows
  R = rows_of e o

  module _ (first : true ≡ before (take n o.rows) a l) (second : true ≡ before (take n o.rows) a k) where
    same : (b : ℕ) → (bit m b && not (before o.rows a b)) ≡ lacks (ops e) R (claim_c l k a b)
    same b =
        let w : Bool = not (before R a b) in
        let p : Bool = before R (source (ops e) l) b in
        let q : Bool = before R (source (ops e) k) b in
        ap₂ (λ x y. x && not y) (mask b) (sym (cut_before (length (ops e)) a b o.rows a_in))
        ∙ ap (λ x. (x && true && true && p && q) && w) (sym crosses)
        ∙ ap₂ (λ u v. (crossed (ops e) l k && u && v && p && q) && w) (first ∙ ap (λ n. before (take n o.rows) a l) is) (second ∙ ap (λ n. before (take n o.rows) a k) is)

    abbrev Lowest : Option ℕ → Type 0
    Lowest q = LowestBelow (length (ops e)) (λ b. lacks (ops e) R (claim_c l k a b)) q

    kept : (x : ℕ) → LowestOf (λ b. bit m b && not (before o.rows a b)) (Some x) → (b : Bool) → b ≡ ltb x n → Lowest (then_some b x)
    kept x h true t = let g = ltb-true x n (sym t) in (omega arith, sym (same x) ∙ h.0, λ b u. sym (same b) ∙ h.1 b u)
    kept x h false t = let g = ltb-false x n (sym t) in λ b u. sym (same b) ∙ h.1 b (omega arith)

    -- the lowest is kept where it is the number of an operation: P says when the code keeps it
    pub lowest_c : (P : ℕ → Bool → Type 0) (r q : Option ℕ) → LowestOf (λ b. bit m b && not (before o.rows a b)) r → MatchOption r (q ≡ None) (λ x. (b : Bool) × P x b × (q ≡ then_some b x))
        → ((x : ℕ) (b : Bool) → P x b → b ≡ ltb x n) → Lowest q
    lowest_c P None q h i told = let g = few e in subst Lowest (sym i) (λ b u. sym (same b) ∙ h b (omega arith))
    lowest_c P (Some x) q h (b, p, i) told = subst Lowest (sym i) (kept x h b (told x b p))

-- the same of any rows, with all three tests: of what is after both sources, what a is not before, where a is before both loads
module _ (E : List Operation) (R : Rows) (l k m : ℕ) (is : crossed E l k ≡ true) (mask : (b : ℕ) → bit m b ≡ (before R (source E l) b && before R (source E k) b)) (a : ℕ) where
  regroup : (x u v p q w : Bool) → x ≡ true → ((u && v) && ((p && q) && w)) ≡ ((x && u && v && p && q) && w)
  regroup x u v p q w e = grind arith

  pub lowest_lacked : (r : Option ℕ) → LowestOf (λ b. (before R a l && before R a k) && (bit m b && not (before R a b))) r → LowestOf (λ b. lacks E R (claim_c l k a b)) r
  lowest_lacked = lowest_same _ _ (λ b.
      ap (λ x. (before R a l && before R a k) && (x && not (before R a b))) (mask b)
      ∙ regroup (crossed E l k) (before R a l) (before R a k) (before R (source E l) b) (before R (source E k) b) (not (before R a b)) is)

-- the b of such a claim is an operation
pub within_c : (E : List Operation) (R : Rows) → Settled (length E) R → (l k a b : ℕ) → lacks E R (claim_c l k a b) ≡ true → b < length E
within_c E R s l k a b h =
    let p = (and_parts _ (not (before R a b)) h).0 in
    let q = (and_parts _ (before R (source E k) b) p).0 in
    let r = (and_parts _ (before R (source E l) b) q).1 in
    s.within (source E l) b (subst T (sym r) tt)
