-- The choices that are held as the theory's list of those that stand.
use Rattle.std.proofs.Common.{◌≡◌, ℕ, List, [], ◌∷◌, ◌++◌, map, length, take, refl, ap, ◌∙◌}
use mathlib.Core.List.{reverse-append}
use lib.ListN.{length-map, length-reverse}
use Rattle.theory.specs.Order.{Rows, recorded}
use Rattle.theory.specs.Case as theory
use Rattle.theory.specs.Case.{Model, undone}
use Rattle.desk.specs.declared.choice.Side.TheVariants.{First, Second}
use Rattle.desk.specs.declared.state.State.{State}
use Rattle.desk.specs.declared.state.State.TheVariants.{Open}
use Rattle.desk.specs.declared.choice.Choice.{Choice}
use Rattle.desk.specs.Model.{stacked, choice_of, state_of, witness_of}

pub length_stacked : (n : ℕ) (cs : List Choice) → length (stacked n cs) ≡ length cs
length_stacked n cs = simp (length-map, length-reverse) refl

-- what is held ends with c: c is the latest
stacked_push : (n : ℕ) (cs : List Choice) (c : Choice) {ds : List Choice} → ds ≡ cs ++ c ∷ [] → stacked n ds ≡ choice_of n c ∷ stacked n cs
stacked_push n cs c e = ap (stacked n) e ∙ ap (map (choice_of n)) (reverse-append cs (c ∷ []))

-- a case whose latest choice goes from its first side to its second is what the theory undoes to
pub to_second : (n : ℕ) (R O : Rows) (cs : List Choice) (c : Choice) (s : State) (w : List ℕ) {ds es : List Choice} → ds ≡ cs ++ c ∷ [] → c.side ≡ First
    → O ≡ recorded c.other c.one (take n c.stood.rows) → es ≡ cs ++ record { one = c.one; other = c.other; side = Second; stood = c.stood } ∷ [] → s ≡ Open
    → ◌≡◌ {A = Model} (record { order = O; choices = stacked n es; state = state_of s; witness = witness_of s w }) (undone R (stacked n ds))
to_second n R O cs c s w d f o e t = rw t (rw o (rw (stacked_push n cs _ e) (rw (stacked_push n cs c d) (rw f refl))))

-- cases that agree part by part are one
pub same_model : {o o' : Rows} {cs cs' : List theory.Choice} {s s' : theory.State} {w w' : List ℕ} → o ≡ o' → cs ≡ cs' → s ≡ s' → w ≡ w'
    → ◌≡◌ {A = Model} (record { order = o; choices = cs; state = s; witness = w }) (record { order = o'; choices = cs'; state = s'; witness = w' })
same_model p q r t = cc
