-- What a claim does to a desk is a reply of the case.
use Rattle.std.proofs.Common.{◌≡◌, ℕ, Bool, T, Some, None, Option, Result, refl}
use Rattle.field.specs.declared.refusal.Refusal.{Refusal}
use Rattle.theory.specs.Case.{is_claim, refusal, after, Replies, turned_away, taken}
use Rattle.rules.specs.declared.claim.Claim.{Claim}
use Rattle.rules.specs.declared.claim.Claim.TheVariants as claim
use Rattle.rules.specs.Claims.{call_of}
use Rattle.desk.specs.declared.given.Given.{Given}
use Rattle.desk.specs.declared.desk.Desk.{Desk}
use Rattle.desk.specs.Model.{events, model}
use Rattle.desk.specs.Judged.{By, Judged, answer_of}

is_one : (c : Claim) → T (is_claim (call_of c))
is_one (claim.A l s) = tt
is_one (claim.B l s) = tt
is_one (claim.C l k a b) = tt
is_one (claim.Split s t) = tt
is_one claim.Close = tt

-- over any local order, since no claim asks for it
module _ (L : ℕ → ℕ → Bool) (g : Given) (c : Claim) (pre : Desk) (r : Result (Unit {0}) Refusal) (post : Desk) where
  replies_by : (o : Option Refusal) → refusal (events g) (model g pre) (call_of c) ≡ o → By o g (after (events g) (model g pre) (call_of c)) pre r post
      → Replies L (events g) (model g pre) (call_of c) (answer_of r) (model g post)
  replies_by (Some e) h j = rw j.0 (rw j.1 (turned_away h))
  replies_by None h j = rw j.0 (rw j.1 (taken (is_one c) h))

  pub replies : Judged g (call_of c) pre r post → Replies L (events g) (model g pre) (call_of c) (answer_of r) (model g post)
  replies j = replies_by (refusal (events g) (model g pre) (call_of c)) refl j
