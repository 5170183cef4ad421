-- One record, one book and one relation have one count.
use Rattle.std.proofs.Common.{◌≡◌, ℕ, Bool, List, Some, None, MatchOption, Option, Ok, Err, Result, sym, ap, ◌∙◌, subst, arith}
use Rattle.field.specs.declared.fault.Fault.{Fault}
use Rattle.execution.specs.declared.operation.Operation.{Operation}
use Rattle.execution.specs.declared.execution.Execution.{Execution}
use Rattle.execution.specs.Calls.{ops, Taken}
use Rattle.rulebook.specs.Codes.{book_keeps}
use Rattle.order.specs.declared.order.Order.{Order}
use Rattle.theory.specs.Order.{Rows, pairs, Says}
use Rattle.theory.specs.Serial.{local}
use Rattle.theory.proofs.Determined.{same_rows}
use Rattle.bridge.specs.declared.Start.{Start}
use Rattle.bridge.specs.Counts.{PairsOf, NotStarted, Started}

never : {A E : Type 0} (x : A) (e : E) → Ok x ≡ Err e → ⊥
never x e h = let z : ◌≡◌ {A = ℕ} 0 1 = cc in omega arith

pub taken_says : (r : Result (List Operation) Fault) (pre post : Execution) (u : Unit {0}) → Taken r pre (Ok u) post → r ≡ Ok (ops post)
taken_says (Ok E) pre post u t = ap Ok (sym t.1)
taken_says (Err e) pre post u t = absurd (never u e t.0)

pub taken_not : (r : Result (List Operation) Fault) (pre post : Execution) (f : Fault) → Taken r pre (Err f) post → (E : List Operation) → r ≡ Ok E → ⊥
taken_not (Ok F) pre post f t E h = never tt f (sym t.0)
taken_not (Err e) pre post f t E h = never E e (sym h)

module _ (R : (ℕ → ℕ → Bool) → List Operation → ℕ → ℕ → Type 0) (s : List ℕ) (code r : ℕ) where
  pub counts : (x : Execution) (o : Order) (b : Started s code x o) (P : Rows) → Says (ops x) P (R (local (book_keeps b.book) (ops x)) (ops x)) → r ≡ pairs P → PairsOf R s code r
  counts x o st P says e = record {
    counted = λ E b h k Q q. (
        let same : Ok E ≡ Ok (ops x) = sym h ∙ st.record' in
        let ran : E ≡ ops x = cc in
        let one : Ok b ≡ Ok st.book = sym k ∙ st.coded in
        let by : b ≡ st.book = cc in
        let q₁ : Says E Q (R (local (book_keeps st.book) E) E) = subst (λ v. Says E Q (R (local (book_keeps v) E) E)) by q in
        let q₂ : Says (ops x) Q (R (local (book_keeps st.book) (ops x)) (ops x)) = subst (λ X. Says X Q (R (local (book_keeps st.book) X) X)) ran q₁ in
        e ∙ ap pairs (same_rows (ops x) (R (local (book_keeps st.book) (ops x)) (ops x)) says q₂));
    no_record = λ f h. absurd (never (ops x) f (sym st.record' ∙ h));
    no_book = λ f h. absurd (never st.book f (sym st.coded ∙ h));
  }

  pub counts_none : NotStarted s code → r ≡ 4294967295 → PairsOf R s code r
  counts_none none e = record { counted = λ E b h k Q q. absurd (none E b h k); no_record = λ f h. e; no_book = λ f h. e }

  -- the count by cases: one of the two was refused, or both are there
  pub by_cases : (o : Option Start) {Post : Start → Type 0} → MatchOption o (NotStarted s code) (λ p. Started s code p.execution p.opening) → MatchOption o (r ≡ 4294967295) Post
      → ((p : Start) → Started s code p.execution p.opening → Post p → PairsOf R s code r) → PairsOf R s code r
  by_cases None n e k = counts_none n e
  by_cases (Some p) st e k = k p st e
