-- What writing an order of n operations leaves in the memory that was lent for it.
use Rattle.std.specs.Prelude.{◌≡◌, ℕ, List, take, drop, Ok, Err, Result}
use Rattle.field.specs.declared.refusal.Refusal.{Refusal}

-- the order stands in the first n bytes, and the rest is as it was; or nothing is touched
abbrev pub WrittenOut : ℕ → Result (List ℕ) Refusal → List ℕ → Result ℕ Refusal → List ℕ → Type 0
WrittenOut n (Ok σ) pre r post = (r ≡ Ok n) × (take n post ≡ σ) × (drop n post ≡ drop n pre)
WrittenOut n (Err e) pre r post = (r ≡ Err e) × (post ≡ pre)
