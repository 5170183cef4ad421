-- Writing field by field: what stands at the front so far, and that the rest is untouched.
use Rattle.std.proofs.Common.{◌≡◌, ℕ, ◌+◌, ◌-◌, ◌*◌, ◌<◌, ◌≤◌, List, [], ◌∷◌, ◌++◌, length, get_or, take, drop, sym, refl, ap, ◌∙◌, subst, arith}
use Rattle.std.proofs.lemmas.List.{take_more, drop-drop, get_or_default}
use Rattle.execution.specs.declared.operation.Operation.{Operation}
use Rattle.execution.specs.Operations.{op, idle}
use Rattle.execution.specs.Writing.{field_of, fields_of, writing}

fields_push : (E : List Operation) (o : Operation) → fields_of (E ++ o ∷ []) ≡ fields_of E ++ field_of o
fields_push [] o = refl
fields_push (x ∷ E) o = ap (λ w. field_of x ++ w) (fields_push E o)

pub write_more : (E F : List Operation) (d : Operation) (s t : List ℕ) (k : ℕ) → k < length F → F ≡ E → take (4 + 9 * k) s ≡ writing (take k E) → take (4 + 9 * k + 9) t ≡ take (4 + 9 * k) s ++ field_of (get_or F k d) → take (4 + 9 * (k + 1)) t ≡ writing (take (k + 1) E)
write_more E F d s t k h e i p =
    let n : 4 + 9 * (k + 1) ≡ 4 + 9 * k + 9 = omega arith in
    let l : k < length E = subst (λ X. k < length X) e h in
    let o : get_or F k d ≡ op E k = ap (λ X. get_or X k d) e ∙ get_or_default E k d idle l in
    let q : writing (take k E ++ op E k ∷ []) ≡ writing (take k E) ++ field_of (op E k) = ap (λ w. 16 ∷ 0 ∷ 1 ∷ 1 ∷ w) (fields_push (take k E) (op E k)) in
    ap (λ v. take v t) n ∙ p ∙ ap (λ w. w ++ field_of (get_or F k d)) i ∙ ap (λ v. writing (take k E) ++ field_of v) o ∙ sym q ∙ ap writing (sym (take_more E k idle l))

-- what lies further on is untouched too
pub drop_further : (s t : List ℕ) (a b : ℕ) → a ≤ b → drop a s ≡ drop a t → drop b s ≡ drop b t
drop_further s t a b h e =
    let n : a + (b - a) ≡ b = omega arith in
    ap (λ v. drop v s) (sym n) ∙ sym (drop-drop (b - a) a s) ∙ ap (drop (b - a)) e ∙ drop-drop (b - a) a t ∙ ap (λ v. drop v t) n
