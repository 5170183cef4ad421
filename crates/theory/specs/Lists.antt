-- Lists of numbers: tests over ranges, what stands where, and the first that passes a test.
use Rattle.std.specs.Prelude.{ℕ, ◌+◌, Bool, false, cond, not, ◌||◌, List, [], ◌∷◌, ◌++◌, map, Some, None, Option, ◌==◌}
use Rattle.std.specs.List.{range_with_len}

-- the lists one after the other
abbrev pub join : {A : Type 0} → List (List A) → List A
join [] = []
join (x ∷ xs) = x ++ join xs

-- what f gives at 0, at 1, and so on below n, one list after the other
abbrev pub over : {A : Type 0} → ℕ → (ℕ → List A) → List A
over n f = join (map f (range_with_len 0 n))

-- one of them holds
abbrev pub any : List Bool → Bool
any [] = false
any (x ∷ xs) = x || any xs

-- the test holds of each number below n
abbrev pub every : ℕ → (ℕ → Bool) → Bool
every n f = not (any (map (λ x. not (f x)) (range_with_len 0 n)))

-- the first of the list that passes the test
abbrev pub first_by : {A : Type 0} → (A → Bool) → List A → Option A
first_by f [] = None
first_by f (x ∷ xs) = cond (f x) (Some x) (first_by f xs)

-- a stands in the list
abbrev pub member : ℕ → List ℕ → Bool
member a xs = any (map (λ x. x == a) xs)

-- how often a stands in the list
abbrev pub count : List ℕ → ℕ → ℕ
count [] a = 0
count (x ∷ xs) a = cond (x == a) (1 + count xs a) (count xs a)

-- where a first stands in the list; the list's length where it does not
abbrev pub place : List ℕ → ℕ → ℕ
place [] a = 0
place (x ∷ xs) a = cond (x == a) 0 (1 + place xs a)
