-- A table is read from exactly the bytes that are its writing.
use Rattle.std.proofs.Common.{◌≡◌, ℕ, ◌≤◌, Bool, true, false, cond, eqb, leb, List, [], ◌∷◌, map, length, get_or, take, drop, Ok, Err, Result, sym, refl, ap, ◌∙◌, arith, length-drop, eqb-true}
use Rattle.std.proofs.lemmas.List.{take_all, drop_all, drop_more, length-map}
use Rattle.std.proofs.lemmas.Bool.{and_parts}
use Rattle.std.proofs.lemmas.Bool.Decides.{nat_tests}
use Rattle.field.specs.declared.refusal.Refusal.{Refusal}
use Rattle.field.specs.declared.fault.Layer.{Layer}
use Rattle.field.specs.declared.fault.Layer.TheVariants as layer
use Rattle.field.specs.declared.fault.Fault.{Fault}
use Rattle.field.specs.Faults.{moved}
use Rattle.field.specs.Fields.{told, whole, expected}
use Rattle.field.proofs.Expected.{and_then_ok, expected_ok}
use Rattle.rulebook.specs.declared.entry.Entry.{Entry}
use Rattle.rulebook.specs.declared.entry.Entry.TheVariants as entry
use Rattle.rulebook.specs.declared.table.Table.{Table}
use Rattle.rulebook.specs.Tables.{entry_of, obeys}
use Rattle.rulebook.specs.Writing.{known, entries_of, judged, found_by, ended, table_in, code_of, WritingOf}
use Rattle.rulebook.specs.Taking.{Found, Exact}

-- codes and entries, back and forth
code_known : (e : Entry) → leb (code_of e) 2 ≡ true
code_known entry.MayPass = refl
code_known entry.Kept = refl
code_known entry.KeptOnAddress = refl

code_entry : (e : Entry) → entry_of (code_of e) ≡ e
code_entry entry.MayPass = refl
code_entry entry.Kept = refl
code_entry entry.KeptOnAddress = refl

entry_code : (n : ℕ) → leb n 2 ≡ true → code_of (entry_of n) ≡ n
entry_code n h = grind (arith, nat_tests)

codes_known : (es : List Entry) → known (map code_of es) ≡ true
codes_known [] = refl
codes_known (e ∷ es) = rw (code_known e) (codes_known es)

codes_entries : (es : List Entry) → entries_of (map code_of es) ≡ es
codes_entries [] = refl
codes_entries (e ∷ es) = cc (code_entry e, codes_entries es)

entries_codes : (ns : List ℕ) → known ns ≡ true → map code_of (entries_of ns) ≡ ns
entries_codes [] h = refl
entries_codes (n ∷ ns) h = let p = and_parts (leb n 2) (known ns) h in cc (entry_code n p.0, entries_codes ns p.1)

-- every writing is read
read_codes : (ns : List ℕ) → length ns ≡ 16 → known ns ≡ true → obeys (entries_of ns) ≡ true → table_in (18 ∷ 0 ∷ 16 ∷ ns) ≡ Ok (entries_of ns)
read_codes ns l k o =
    let t : take 16 ns ≡ ns = take_all 16 ns (omega arith) in
    let d : drop 16 ns ≡ [] = drop_all 16 ns (omega arith) in
    simp (l, t, d, k, o)

read_writing : (s : List ℕ) (es : List Entry) → WritingOf s es → table_in s ≡ Ok es
read_writing s es w =
    let n : length (map code_of es) ≡ 16 = length-map es code_of ∙ w.full in
    let b : entries_of (map code_of es) ≡ es = codes_entries es in
    let o : obeys (entries_of (map code_of es)) ≡ true = ap obeys b ∙ w.lawful in
    ap table_in w.bytes ∙ read_codes (map code_of es) n (codes_known es) o ∙ ap Ok b

-- what each part of an accepted reading passed
pub passed : {A E : Type 0} (b : Bool) (r : Result A E) (e : E) (z : A) → cond b r (Err e) ≡ Ok z → (b ≡ true) × (r ≡ Ok z)
passed true r e z h = (refl, h)
passed false r e z h = (cc, cc)

found_ok : {A : Type 0} (y : Layer) (r : Result A Refusal) (z : A) → found_by y r ≡ Ok z → r ≡ Ok z
found_ok y (Ok x) z h = cc
found_ok y (Err e) z h = cc

moved_ok : {A : Type 0} (n : ℕ) (r : Result A Fault) (z : A) → moved n r ≡ Ok z → r ≡ Ok z
moved_ok n (Ok x) z h = h
moved_ok n (Err e) z h = cc

first_ok : {A E : Type 0} (a b : Bool) (x z : A) (e f : E) → cond a (Ok x) (cond b (Err e) (Err f)) ≡ Ok z → a ≡ true
first_ok true b x z e f h = refl
first_ok false true x z e f h = cc
first_ok false false x z e f h = cc

-- the three bytes before a body
fronted : (s : List ℕ) → 3 ≤ length s → s ≡ get_or s 0 0 ∷ get_or s 1 0 ∷ get_or s 2 0 ∷ drop 3 s
fronted s h =
    let a : drop 0 s ≡ get_or s 0 0 ∷ drop 1 s = drop_more s 0 0 (omega arith) in
    let b : drop 1 s ≡ get_or s 1 0 ∷ drop 2 s = drop_more s 1 0 (omega arith) in
    let c : drop 2 s ≡ get_or s 2 0 ∷ drop 3 s = drop_more s 2 0 (omega arith) in
    cc

-- a table's field that nothing follows
read_field : (s ns : List ℕ) → expected s 18 16 layer.Record ≡ Ok ns → length s ≤ 19 → (s ≡ 18 ∷ 0 ∷ 16 ∷ ns) × (length ns ≡ 16)
read_field s ns h short =
    let st = expected_ok s 18 16 layer.Record ns h in
    let high : get_or s 1 0 ≡ 0 = omega (arith, st.sized) in
    let low : get_or s 2 0 ≡ 16 = omega (arith, st.sized) in
    let all : take (told s) (drop 3 s) ≡ drop 3 s = take_all (told s) (drop 3 s) (omega (arith, length-drop 3 s, st.sized)) in
    let front : s ≡ 18 ∷ 0 ∷ 16 ∷ ns = cc (fronted s (omega (arith, st.long)), st.tagged, high, low, all, st.body) in
    (front, ap length (st.body ∙ all) ∙ length-drop 3 s ∙ omega (arith, st.long))

read_entries : (ns : List ℕ) (es : List Entry) → judged ns ≡ Ok es → (map code_of es ≡ ns) × (obeys es ≡ true)
read_entries ns es h =
    let k = passed (known ns) _ _ es h in
    let o = passed (obeys (entries_of ns)) _ _ es k.1 in
    let same : entries_of ns ≡ es = cc o.1 in
    (cc (entries_codes ns k.0), ap obeys (sym same) ∙ o.0)

nothing_more : (s : List ℕ) (u : Unit {0}) → moved 19 (ended (drop 19 s)) ≡ Ok u → length s ≤ 19
nothing_more s u h =
    let e = first_ok (eqb (length (drop 19 s)) 0) (whole (drop 19 s)) _ _ _ _ (moved_ok 19 (ended (drop 19 s)) u h) in
    omega (arith, eqb-true _ _ e, length-drop 19 s)

-- only writings are read
written_reading : (s : List ℕ) (es : List Entry) → table_in s ≡ Ok es → WritingOf s es
written_reading s es h =
    let front = and_then_ok (expected s 18 16 layer.Record) _ es h in
    let ns = front.0 in
    let codes = and_then_ok (found_by layer.Record (judged ns)) _ es front.2 in
    let rest = and_then_ok (moved 19 (ended (drop 19 s))) _ es codes.2 in
    let same : codes.0 ≡ es = cc rest.2 in
    let a = read_field s ns front.1 (nothing_more s rest.0 rest.1) in
    let b = read_entries ns es (found_ok layer.Record (judged ns) es (codes.1 ∙ ap Ok same)) in
    record { full = sym (length-map es code_of) ∙ ap length b.0 ∙ a.1; lawful = b.1; bytes = cc (a.0, b.0) }

-- what is accepted is a writing, and what is refused is none
pub exact : (s : List ℕ) (r : Result Table Fault) → Found s r → Exact s r
exact s (Ok t) h = written_reading s t.entries h
exact s (Err e) h = λ es w. let a = read_writing s es w in let n : ◌≡◌ {A = ℕ} 0 1 = cc in omega arith
