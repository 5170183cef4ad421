-- The tries of the house, one group after the other.
use Rattle.std.proofs.Common.{◌≡◌, ℕ, ◌<◌, Bool, true, false, cond, not, ◌&&◌, T, ltb, leb, List, [], ◌∷◌, ◌++◌, length, Some, None, refl, ap, ◌∙◌, ap₂, arith, leb→le}
use Rattle.std.specs.List.{AllByRecursion}
use Rattle.std.proofs.ByRecursion.{All-append, All-weaker}
use Rattle.field.specs.declared.refusal.Refusal.TheVariants.{PremiseFails, PairRecorded, NoCycle}
use Rattle.execution.specs.declared.operation.Operation.{Operation}
use Rattle.theory.specs.Lists.{first_by}
use Rattle.theory.specs.Order.{cyclic}
use Rattle.theory.specs.Case.{open', Model, Call, claim_a, claim_b, claim_c, close, split, propose, named, ended, needs_open, acyclic_close, granted, premise, stands, lacks, misshapen, refusal, greedy, claims_a, claims_b, claims_c, splits, claims, claim_tries, next_call}
use Rattle.theory.proofs.Tests.{and_parts, cond_no, cond_either}
use Rattle.theory.proofs.Ranges.{all_over, any_none}
use Rattle.theory.proofs.Firsts.{first_left, first_right}

-- a property of every claim by the three rules whose numbers are those of operations
module _ (E : List Operation) (P : Call → Type 0) where
  pub all_claims : ((l s : ℕ) → l < length E → s < length E → P (claim_a l s)) → ((l s : ℕ) → l < length E → s < length E → P (claim_b l s))
      → ((l k a b : ℕ) → l < length E → k < length E → a < length E → b < length E → P (claim_c l k a b)) → AllByRecursion P (claims E)
  all_claims f g h =
      All-append P (claims_a E ++ claims_b E) (claims_c E)
      (All-append P (claims_a E) (claims_b E)
      (all_over (length E) P _ (λ l i. all_over (length E) P _ (λ s j. (f l s i j, tt))))
      (all_over (length E) P _ (λ l i. all_over (length E) P _ (λ s j. (g l s i j, tt)))))
      (all_over (length E) P _ (λ l i. all_over (length E) P _ (λ k j. all_over (length E) P _ (λ a m. all_over (length E) P _ (λ b o. (h l k a b i j m o, tt))))))

  pub all_splits : ((s t : ℕ) → s < length E → t < length E → P (split s t)) → AllByRecursion P (splits E)
  all_splits f = all_over (length E) P _ (λ s i. all_over (length E) P _ (λ t j. cond_either (AllByRecursion P) (ltb s t) (split s t ∷ []) [] (λ _. (f s t i j, tt)) (λ _. tt)))

first_same : {A : Type 0} (f g : A → Bool) (xs : List A) → AllByRecursion (λ x. f x ≡ g x) xs → first_by f xs ≡ first_by g xs
first_same f g [] a = refl
first_same f g (x ∷ xs) a = ap₂ (λ b o. cond b (Some x) o) a.0 (first_same f g xs a.1)

module _ (E : List Operation) (M : Model) (opn : M.state ≡ open') where
  -- an open case refuses a claim on operations exactly if a premise fails or the pair stands
  rest : (p s c : Bool) → (T c → ⊥) → granted (cond (not p) (Some PremiseFails) (cond s (Some PairRecorded) (cond c (Some NoCycle) None))) ≡ (p && not s)
  rest true true c n = refl
  rest true false true n = absurd (n tt)
  rest true false false n = refl
  rest false s c n = refl

  pub granted_is : (q : Call) → AllByRecursion (λ a. a < length E) (named q) → (T (misshapen E q) → ⊥) → (T (acyclic_close M.order q) → ⊥) → granted (refusal E M q) ≡ lacks E M.order q
  granted_is q h m c =
      ap granted (
      cond_no _ _ _ (any_none (λ a. leb (length E) a) (named q) (All-weaker (λ a. a < length E) (λ a. T (leb (length E) a) → ⊥) (λ a l t. let k = leb→le (length E) a t in omega arith) (named q) h))
      ∙ cond_no (misshapen E q) _ _ m
      ∙ cond_no (ended M.state && needs_open q) _ _ (λ t. let e : T (ended M.state) = (and_parts (ended M.state) (needs_open q) t).0 in rw opn at e)
      )
      ∙ rest (premise E M.order q) (stands E M.order q) (acyclic_close M.order q) c

  pub close_granted : granted (refusal E M close) ≡ cyclic M.order
  close_granted = ap granted (cond_no (ended M.state && true) _ _ (λ t. let e : T (ended M.state) = (and_parts (ended M.state) true t).0 in rw opn at e)) ∙ last (cyclic M.order)
    where
      last : (b : Bool) → granted (cond (not b) (Some NoCycle) None) ≡ b
      last true = refl
      last false = refl

  -- the case does not refuse the call
  abbrev pub may : Call → Bool
  may q = granted (refusal E M q)

  -- the first claim that is not refused is the first whose pair is missing
  pub first_claim : first_by may (claims E) ≡ first_by (lacks E M.order) (claims E)
  first_claim = first_same may (lacks E M.order) (claims E) (all_claims E (λ q. may q ≡ lacks E M.order q)
      (λ l s i j. granted_is (claim_a l s) (i, (j, tt)) (λ z. z) (λ z. z))
      (λ l s i j. granted_is (claim_b l s) (i, (j, tt)) (λ z. z) (λ z. z))
      (λ l k a b i j m o. granted_is (claim_c l k a b) (i, (j, (m, (o, tt)))) (λ z. z) (λ z. z)))

  pub first_split : first_by may (splits E) ≡ first_by (lacks E M.order) (splits E)
  first_split = first_same may (lacks E M.order) (splits E) (all_splits E (λ q. may q ≡ lacks E M.order q) (λ s t i j. granted_is (split s t) (i, (j, tt)) (λ z. z) (λ z. z)))

  -- the house's next call: a close where there is a cycle
  pub next_close : cyclic M.order ≡ true → next_call E M ≡ Some close
  next_close e =
      first_left may (claim_tries E) _ close (first_left may ((close ∷ []) ++ claims E) (splits E) close (first_left may (close ∷ []) (claims E) close (ap (λ b. cond b (Some close) None) (close_granted ∙ e))))

  -- else the first claim by a rule
  module _ (acyclic : cyclic M.order ≡ false) where
    no_close : first_by may (close ∷ []) ≡ None
    no_close = ap (λ b. cond b (Some close) None) (close_granted ∙ acyclic)

    pub next_claim : (q : Call) → first_by (lacks E M.order) (claims E) ≡ Some q → next_call E M ≡ Some q
    next_claim q e = first_left may (claim_tries E) _ q (first_left may ((close ∷ []) ++ claims E) (splits E) q (first_right may (close ∷ []) (claims E) no_close ∙ first_claim ∙ e))

    module _ (stuck : first_by (lacks E M.order) (claims E) ≡ None) where
      no_claim : first_by may ((close ∷ []) ++ claims E) ≡ None
      no_claim = first_right may (close ∷ []) (claims E) no_close ∙ first_claim ∙ stuck

      -- else the first split
      pub next_split : (q : Call) → first_by (lacks E M.order) (splits E) ≡ Some q → next_call E M ≡ Some q
      next_split q e = first_left may (claim_tries E) _ q (first_right may ((close ∷ []) ++ claims E) (splits E) no_claim ∙ first_split ∙ e)

      -- else every claim is refused, and the order is next where it is not
      pub no_tries : first_by (lacks E M.order) (splits E) ≡ None → first_by may (claim_tries E) ≡ None
      no_tries d = first_right may ((close ∷ []) ++ claims E) (splits E) no_claim ∙ first_split ∙ d

      pub next_order : first_by (lacks E M.order) (splits E) ≡ None → refusal E M (propose (greedy E M.order)) ≡ None → next_call E M ≡ Some (propose (greedy E M.order))
      next_order d e = first_right may (claim_tries E) _ (no_tries d) ∙ ap (λ o. cond (granted o) (Some (propose (greedy E M.order))) None) e
