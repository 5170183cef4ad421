use Rattle.std.proofs.Common.{◌≡◌, ℕ, ◌+◌, ◌<◌, ◌≤◌, Bool, true, false, cond, ◌&&◌, leb, List, length, get_or, drop, Ok, Err, sym, refl, ap, ◌∙◌, arith, length-set, rules}
use Rattle.std.proofs.lemmas.List.{take_all, take_more_set, map_more, at_drop_more, at_drop_all}
use Rattle.std.proofs.lemmas.Result.{err_from_is_err_and}
use Rattle.field.specs.declared.refusal.Refusal.{Refusal}
use Rattle.rulebook.specs.declared.entry.Entry.{Entry}
use Rattle.rulebook.specs.Tables.{entry_of}
use Rattle.rulebook.specs.Writing.{known, entries_of}
use Rattle.rulebook.proofs.reading.decode.Goals as goal

-- what a code that is known and one that is not tell of the test
passed : (b : Bool) (x e : Entry) (u : Refusal) → cond b (Ok x) (Err u) ≡ Ok e → (b ≡ true) × (e ≡ x)
passed true x e u h = (refl, cc)
passed false x e u h = (cc, cc)

failed : (b : Bool) (x : Entry) (u e : Refusal) → cond b (Ok x) (Err u) ≡ Err e → (b ≡ false) × (e ≡ u)
failed true x u e h = (cc, cc)
failed false x u e h = (refl, cc)

-- what is left of the codes begins with the one at i
next_known : (ns : List ℕ) (i : ℕ) → i < length ns → known (drop i ns) ≡ (leb (get_or ns i 0) 2 && known (drop (i + 1) ns))
next_known ns i h = at_drop_more known ns i 0 h

pub returns-in_err-entries : goal.returns-in_err-entries
returns-in_err-entries c =
    let s = c.args.codes in
    let i = c.loop-i.i in
    let f = failed (leb (get_or s i 0) 2) (entry_of (get_or s i 0)) _ _ (sym c.try_from.ensures ∙ c.in_err-entries.was) in
    let k : known s ≡ false = sym c.loop-i.invariant.1 ∙ next_known s i (search rules) ∙ ap (λ b. b && known (drop (i + 1) s)) f.0 in
    let p = err_from_is_err_and c.from_residual.result c.from_residual.ensures.1 in
    rw (p.1, p.2, k, f.1)

pub loop-i-preserved : goal.loop-i-preserved
loop-i-preserved c =
    let s = c.args.codes in
    let i = c.loop-i.i in
    let es = c.loop-i.entries in
    let x = c.in_ok-entries.field-0 in
    let f = passed (leb (get_or s i 0) 2) (entry_of (get_or s i 0)) x _ (sym c.try_from.ensures ∙ c.in_ok-entries.was) in
    let lt : i < length es = omega (arith, c.loop-i.invariant.0) in
    let step : known (drop i s) ≡ known (drop (i + 1) s) = next_known s i (search rules) ∙ ap (λ b. b && known (drop (i + 1) s)) f.0 in (
      length-set es i x ∙ c.loop-i.invariant.0,
      sym step ∙ c.loop-i.invariant.1,
      cc (take_more_set es i x lt, map_more entry_of s i 0 (search rules), f.1, c.loop-i.invariant.2),
    )

pub returns : goal.returns
returns c =
    let s = c.args.codes in
    let i = c.loop-i.i in
    let k : known s ≡ true = sym c.loop-i.invariant.1 ∙ at_drop_all known s i (search rules) in
    let l : length c.loop-i.entries ≤ i = omega (arith, c.loop-i.invariant.0) in
    let all : c.loop-i.entries ≡ entries_of s = cc (take_all i c.loop-i.entries l, take_all i s (search rules), c.loop-i.invariant.2) in
    rw (k, all)
