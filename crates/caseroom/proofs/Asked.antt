-- The two questions: when they are refused, and what answers them.
use Rattle.std.proofs.Common.{◌≡◌, ℕ, ◌-◌, Bool, true, false, ◌&&◌, T, leb, List, [], ◌∷◌, map, length, Some, None, sym, refl, subst}
use Rattle.field.specs.declared.refusal.Refusal.TheVariants.{NoSuchOperation, CaseEnded}
use Rattle.execution.specs.declared.operation.Operation.{Operation}
use Rattle.theory.specs.Lists.{any}
use Rattle.theory.specs.Order.{Rows, before, pairs, Says}
use Rattle.theory.specs.Serial.{Least}
use Rattle.theory.specs.Case.{Model, what_if, least, supposed, says, ended, refusal, asked, imagined}
use Rattle.desk.specs.declared.given.Given.{Given}
use Rattle.desk.specs.declared.desk.Desk.{Desk}
use Rattle.desk.specs.Model.{events, locally, model}
use Rattle.rules.specs.Trials.{Found}
use Rattle.caseroom.specs.Replied.{Replied}

no_matter : (e : Bool) → (e && false) ≡ false
no_matter true = refl
no_matter false = refl

module _ (E : List Operation) (M : Model) (a b : ℕ) where
  -- one of the numbers is that of no operation
  abbrev pub unknown : Bool
  unknown = any (map (λ x. leb (length E) x) (a ∷ b ∷ []))

  -- then the question what would follow is refused
  pub what_if_unknown : unknown ≡ true → refusal E M (what_if a b) ≡ Some NoSuchOperation
  what_if_unknown h = cc

  -- and so it is where the case has ended
  pub what_if_late : unknown ≡ false → ended M.state ≡ true → refusal E M (what_if a b) ≡ Some CaseEnded
  what_if_late h e = cc

  -- else it is heard
  pub what_if_heard : unknown ≡ false → ended M.state ≡ false → refusal E M (what_if a b) ≡ None
  what_if_heard h e = cc

  -- the question about the least order is refused for such a number too
  pub least_unknown : unknown ≡ true → refusal E M (least a b) ≡ Some NoSuchOperation
  least_unknown h = cc

  -- else it is heard: whether the case has ended does not matter
  pub least_heard : unknown ≡ false → refusal E M (least a b) ≡ None
  least_heard h = let e = no_matter (ended M.state) in cc

-- the order that says what follows answers for a and b
pub least_answered : (g : Given) (d : Desk) (a b : ℕ) (Q : Rows) (known : Bool) → refusal (events g) (model g d) (least a b) ≡ None
    → Says (events g) Q (Least (locally g) (events g)) → known ≡ before Q a b → Replied g d (least a b) (says known) d
least_answered g d a b Q known h s e = asked known h (λ t. (s.1 a b).0 (subst T e t)) (λ p. subst T (sym e) ((s.1 a b).1 p))

-- what was found is the answer, and the desk is as it was
pub what_if_answered : (g : Given) (pre post : Desk) (a b : ℕ) (r : ℕ × Bool) → refusal (events g) (model g pre) (what_if a b) ≡ None
    → Found (events g) (model g pre).order a b r → post ≡ pre → Replied g pre (what_if a b) (supposed r.0 r.1) post
what_if_answered g pre post a b r h f same =
    let M = model g pre in
    let Q = f.0 in
    subst (λ (d : Desk). Replied g pre (what_if a b) (supposed r.0 r.1) d) (sym same)
    (subst (λ (n : ℕ). Replied g pre (what_if a b) (supposed n r.1) pre) (sym f.2)
    (subst (λ (k : Bool). Replied g pre (what_if a b) (supposed (pairs Q - pairs M.order) k) pre) (sym f.3) (imagined Q h f.1)))
