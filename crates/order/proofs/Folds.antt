-- A chain that passes over some items, in one fold.
use Rattle.std.proofs.Common.{◌≡◌, Bool, true, false, cond, List, [], ◌∷◌, filter, fold, refl}

-- what fails the test changes nothing, so it may as well be left out before
pub fold_filter : {A B : Type 0} (p : A → Bool) (g : B → A → B) (w : B) (xs : List A) → fold (λ v x. cond (p x) (g v x) v) w xs ≡ fold g w (filter p xs)
fold_filter p g w [] = refl
fold_filter p g w (x ∷ xs) =
    elim (p x) as (λ b. fold (λ v y. cond (p y) (g v y) v) (cond b (g w x) w) xs ≡ fold g w (cond b (x ∷ filter p xs) (filter p xs))) [
      | true ↦ fold_filter p g (g w x) xs
      | false ↦ fold_filter p g w xs
    ]
