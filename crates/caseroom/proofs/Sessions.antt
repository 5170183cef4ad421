-- A session, call by call.
use Rattle.std.proofs.Common.{◌≡◌, ℕ, ◌+◌, ◌<◌, Bool, List, [], ◌∷◌, ◌++◌, map, length, get_or, take, set, sym, ap, ◌∙◌, subst, Result, arith, take_all}
use Rattle.field.specs.declared.refusal.Refusal.{Refusal}
use mathlib.Core.List.{map-append}
use Rattle.std.proofs.lemmas.List.{take_more, take_more_set}
use Rattle.execution.specs.declared.execution.Execution.{Execution}
use Rattle.execution.specs.declared.operation.Operation.{Operation}
use Rattle.execution.specs.Calls.{ops}
use Rattle.rulebook.specs.declared.seen.Seen.{Seen}
use Rattle.rulebook.specs.Books.{Law}
use Rattle.theory.specs.Order.{Says}
use Rattle.theory.specs.Serial.{local, Opening}
use Rattle.theory.specs.Case as theory
use Rattle.theory.specs.Case.{opened, Run, done}
use Rattle.theory.specs.Promises.{Session}
use Rattle.theory.proofs.Runs.{run_push}
use Rattle.theory.proofs.Kept.{sessions}
use Rattle.rules.proofs.Executions.{formed}
use Rattle.desk.specs.declared.given.Given.{Given}
use Rattle.desk.specs.declared.desk.Desk.{Desk}
use Rattle.desk.specs.Model.{events, locally, at_first, model}
use Rattle.caseroom.specs.declared.calls.Call.{Call}
use Rattle.caseroom.specs.declared.calls.Reply.{Reply}
use Rattle.caseroom.specs.Replied.{HeardBy}
use Rattle.caseroom.specs.Heard.{heard, said}

-- from its opening the case came by these calls, with these answers, to what lies on its desk
abbrev pub Ran : Given → List theory.Call → List theory.Answer → Desk → Type 0
Ran g qs rs d = Run (locally g) (events g) (opened (at_first g)) qs rs (model g d)

pub none_heard : (g : Given) (d : Desk) → model g d ≡ opened (at_first g) → Ran g [] [] d
none_heard g d e = subst (Run (locally g) (events g) (opened (at_first g)) [] []) (sym e) done

-- one more call, by a case h that was given the same
pub one_heard : (g h : Given) (pre post : Desk) (calls : List Call) (answers : List (Result Reply Refusal)) (i : ℕ) (x : Call) (v : Result Reply Refusal) → h ≡ g → i < length calls → i < length answers
    → Ran g (map heard (take i calls)) (map said (take i answers)) pre
    → HeardBy h pre (heard (get_or calls i x)) (said v) post
    → Ran g (map heard (take (i + 1) calls)) (map said (take (i + 1) (set answers i v))) post
one_heard g h pre post calls answers i x v e hc ha ran now =
    let q = heard (get_or calls i x) in
    let qs : map heard (take (i + 1) calls) ≡ map heard (take i calls) ++ (q ∷ []) = ap (map heard) (take_more calls i x hc) ∙ map-append heard (take i calls) (get_or calls i x ∷ []) in
    let rs : map said (take (i + 1) (set answers i v)) ≡ map said (take i answers) ++ (said v ∷ []) = ap (map said) (take_more_set answers i v ha) ∙ map-append said (take i answers) (v ∷ []) in
    subst (λ (z : List theory.Call). Ran g z (map said (take (i + 1) (set answers i v))) post) (sym qs)
    (subst (λ (z : List theory.Answer). Ran g (map heard (take i calls) ++ (q ∷ [])) z post) (sym rs)
    (run_push (locally g) (events g) ran (subst (λ (k : Given). HeardBy k pre q (said v) post) e now)))

-- what a case over x, opened under a book, came to is a session: by a case h that was given the same, when all calls are heard
pub heard_out : {keeps : Seen → Seen → Bool} → Law keeps → (x : Execution) {g h : Given} (d : Desk) (calls : List Call) (answers : List (Result Reply Refusal)) {i : ℕ} → h ≡ g → i ≡ length calls
    → events g ≡ ops x → ((a b : ℕ) → locally g a b ≡ local keeps (ops x) a b) → Says (ops x) (at_first g) (Opening (local keeps (ops x)) (ops x))
    → Ran g (map heard (take i calls)) (map said (take i answers)) d
    → Session keeps (ops x) (at_first h) (map heard calls) (map said (take (length calls) answers)) (model h d)
heard_out {keeps} law x {g} {h} d calls answers {i} same end e l says ran =
    let qs = map heard calls in
    let rs = map said (take (length calls) answers) in
    let all = subst (λ (cs : List Call). Ran g (map heard cs) rs d) (take_all (length calls) calls (omega arith)) (subst (λ (k : ℕ). Ran g (map heard (take k calls)) (map said (take k answers)) d) end ran) in
    let over = subst (λ (E : List Operation). Run (locally g) E (opened (at_first g)) qs rs (model g d)) e all in
    let under = subst (λ (L : ℕ → ℕ → Bool). Run L (ops x) (opened (at_first g)) qs rs (model g d)) (λ i a b. l a b i) over in
    subst (λ (k : Given). Session keeps (ops x) (at_first k) qs rs (model k d)) (sym same) (sessions keeps law (ops x) (formed x) (at_first g) says qs rs (model g d) under)

-- a call was heard, whatever it and its answer are called
pub heard_as : (g : Given) (pre post : Desk) {p q : theory.Call} {r s : theory.Answer} → p ≡ q → r ≡ s → HeardBy g pre q s post → HeardBy g pre p r post
heard_as g pre post {p} {q} {r} {s} e f h = subst (λ (x : theory.Call). HeardBy g pre x r post) (sym e) (subst (λ (x : theory.Answer). HeardBy g pre q x post) (sym f) h)
