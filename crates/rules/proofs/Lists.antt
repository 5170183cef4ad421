-- When a claim is the first of those by a rule, and when there is none.
use Rattle.std.proofs.Common.{◌≡◌, ℕ, ◌<◌, Bool, true, false, cond, ltb, not, ◌&&◌, List, [], ◌∷◌, ◌++◌, length, Some, None, Option, MatchOption, sym, ap, ◌∙◌, inl, inr, arith}
use Rattle.std.proofs.lemmas.Bool.{cases_Bool, cond-true, cond-false, lt-ltb, ltb-true}
use Rattle.execution.specs.declared.execution.Execution.{Execution}
use Rattle.execution.specs.declared.operation.Operation.{Operation}
use Rattle.execution.specs.Operations.{source}
use Rattle.execution.specs.Calls.{ops}
use Rattle.order.specs.declared.order.Order.{Order}
use Rattle.order.specs.Rows.{rows_of}
use Rattle.theory.specs.Lists.{over, first_by}
use Rattle.theory.specs.Order.{Rows, before}
use Rattle.theory.specs.Case.{Call, lacks, claim_c, split}
use Rattle.theory.proofs.Firsts.{first_left, first_right}
use Rattle.rules.specs.declared.claim.Claim.{Claim}
use Rattle.rules.specs.Claims.{call_of, called, crossed}
use Rattle.rules.proofs.Scans.{one_passes, one_fails, all_fail, first_passes}

-- of two stores only the split with the lower first is listed
abbrev pub of_two : ℕ → ℕ → List Call
of_two s t = cond (ltb s t) (split s t ∷ []) []

-- and it is the first that passes a test, where it passes
pub two_pass : (f : Call → Bool) (s t : ℕ) → s < t → true ≡ f (split s t) → first_by f (of_two s t) ≡ Some (split s t)
two_pass f s t h e = ap (first_by f) (cond-true (ltb s t) _ _ (lt-ltb s t h)) ∙ one_passes f (split s t) e

module _ (e : Execution) (o : Order) where
  -- the claims that the order lacks pass
  abbrev f : Call → Bool
  f = lacks (ops e) (rows_of e o)

  abbrev n : ℕ
  n = length (ops e)

  -- every claim by rule c of the load l, of the loads l and k, or of these and a, fails
  abbrev pub NoC_of_three : ℕ → ℕ → ℕ → Type 0
  NoC_of_three l k a = (b : ℕ) → b < n → f (claim_c l k a b) ≡ false

  abbrev pub NoC_of_two : ℕ → ℕ → Type 0
  NoC_of_two l k = (a : ℕ) → a < n → NoC_of_three l k a

  abbrev pub NoC : ℕ → Type 0
  NoC l = (k : ℕ) → k < n → NoC_of_two l k

  -- where rule c does not speak of the loads
  pub not_crossed : (l k : ℕ) → crossed (ops e) l k ≡ false → NoC_of_two l k
  not_crossed l k none a _ b _ =
      let R : Rows = rows_of e o in
      let E : List Operation = ops e in
      ap (λ x. (x && before R a l && before R a k && before R (source E l) b && before R (source E k) b) && not (before R a b)) none

  abbrev of_loads : ℕ → ℕ → List Call
  of_loads l k = over n (λ a. over n (λ b. claim_c l k a b ∷ []))

  loads_fail : (l k : ℕ) → NoC_of_two l k → first_by f (of_loads l k) ≡ None
  loads_fail l k h = all_fail f n (λ a b. claim_c l k a b ∷ []) (λ a b p q. one_fails f (claim_c l k a b) (sym (h a p b q)))

  pub no_c : ((l : ℕ) → l < n → NoC l) → first_by f (over n (λ l. over n (of_loads l))) ≡ None
  no_c h = all_fail f n of_loads (λ l k p q. loads_fail l k (h l p k q))

  pub c_first : (l k a b : ℕ) → l < n → k < n → a < n → b < n
      → ((x : ℕ) → x < l → NoC x) → ((x : ℕ) → x < k → NoC_of_two l x) → ((x : ℕ) → x < a → NoC_of_three l k x) → ((x : ℕ) → x < b → f (claim_c l k a x) ≡ false)
      → f (claim_c l k a b) ≡ true → first_by f (over n (λ l. over n (of_loads l))) ≡ Some (claim_c l k a b)
  c_first l k a b p q r s one two three four e =
      first_passes f n of_loads l k (claim_c l k a b) p q (λ x y h i. loads_fail x y (one x h y i)) (λ y h. loads_fail l y (two y h))
      (first_passes f n (λ a b. claim_c l k a b ∷ []) a b (claim_c l k a b) r s (λ u v h i. one_fails f (claim_c l k u v) (sym (three u h v i))) (λ v h. one_fails f (claim_c l k a v) (sym (four v h)))
      (one_passes f (claim_c l k a b) (sym e)))

  two_fail : (s t : ℕ) → (s < t → f (split s t) ≡ false) → first_by f (of_two s t) ≡ None
  two_fail s t h =
      elim (cases_Bool (ltb s t)) [
        | inl e ↦ ap (first_by f) (cond-true (ltb s t) _ _ e) ∙ one_fails f (split s t) (sym (h (ltb-true s t e)))
        | inr e ↦ ap (first_by f) (cond-false (ltb s t) _ _ e)
      ]

  -- every split of s and a higher number below t fails
  abbrev pub NoSplit_to : ℕ → ℕ → Type 0
  NoSplit_to t s = (x : ℕ) → s < x → x < t → f (split s x) ≡ false

  abbrev pub NoSplit : ℕ → Type 0
  NoSplit = NoSplit_to n

  pub no_split : ((s : ℕ) → s < n → NoSplit s) → first_by f (over n (λ s. over n (of_two s))) ≡ None
  no_split h = all_fail f n of_two (λ s t l m. two_fail s t (λ b. h s l t b m))

  pub split_first : (s t : ℕ) → s < t → t < n → ((x : ℕ) → x < s → NoSplit x) → NoSplit_to t s → true ≡ f (split s t) → first_by f (over n (λ s. over n (of_two s))) ≡ Some (split s t)
  split_first s t l m before below e =
      first_passes f n of_two s t (split s t) (omega arith) m (λ x y b u. two_fail x y (λ k. before x b y k u)) (λ y b. two_fail s y (λ k. below y k b)) (two_pass f s t l e)

  -- the first of one list, else of the next, else of the last; P and Q are what is known of the later two
  pub of_three : (xs ys zs : List Call) (P Q : Type 0) (c p q : Option Claim) → called c ≡ first_by f xs → MatchOption c P (λ x. p ≡ Some x) → MatchOption p Q (λ x. q ≡ Some x)
      → (P → called p ≡ first_by f ys) → (Q → called q ≡ first_by f zs) → called q ≡ first_by f (xs ++ ys ++ zs)
  of_three xs ys zs P Q c p q a b d h i = two (xs ++ ys) zs Q p q (two xs ys P c p a b h) d i
    where
      two : (xs ys : List Call) (P : Type 0) (c p : Option Claim) → called c ≡ first_by f xs → MatchOption c P (λ x. p ≡ Some x) → (P → called p ≡ first_by f ys) → called p ≡ first_by f (xs ++ ys)
      two xs ys P None p a b h = h b ∙ sym (first_right f xs ys (sym a))
      two xs ys P (Some x) p a b h = ap called b ∙ sym (first_left f xs ys (call_of x) (sym a))
