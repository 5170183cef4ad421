-- What holds of every case, whatever calls it got.
use Rattle.std.specs.Prelude.{◌≡◌, ℕ, ◌+◌, ◌*◌, ◌^◌, ◌<◌, ◌≤◌, Bool, T, List, [], ◌∷◌, length, take, None}
use Rattle.std.specs.List.{AllByRecursion}
use Rattle.execution.specs.declared.operation.Operation.{Operation}
use Rattle.execution.specs.Operations.{load_at}
use Rattle.execution.specs.Formed.{WellFormed}
use Rattle.rulebook.specs.declared.seen.Seen.{Seen}
use Rattle.rulebook.specs.Books.{Law}
use Rattle.theory.specs.Lists.{place}
use Rattle.theory.specs.Order.{Rows, before, recorded, Spread, Settled, missing, undecided, Says}
use Rattle.theory.specs.Serial.{local, LawfulOrder, Opening, Least, Supposed, Serialization, serial?, OneThread, SawLast}
use Rattle.theory.specs.Case.{open', serial, impossible, Choice, Model, opened, Call, split, Answer, admitted, refused, made, supposed, says, ended, refusal, Turn, Run}

-- # The promises of a case

-- how many claims and orders an answer says were admitted: each turn of the house counts as one
abbrev pub admissions : Answer → ℕ
admissions admitted = 1
admissions (refused e) = 0
admissions (made t s) = t
admissions (supposed p c) = 0
admissions (says b) = 0

-- the admissions of all answers together
abbrev pub all_admissions : List Answer → ℕ
all_admissions [] = 0
all_admissions (r ∷ rs) = admissions r + all_admissions rs

-- what holds of a case M that was opened with the order O and has given the answers rs
pub record Kept (L : ℕ → ℕ → Bool) (E : List Operation) (O : Rows) (M : Model) (rs : List Answer) : Type 0 where
  -- where it says serial there is a serialization: the order that it admitted
  pub serial_is_true : M.state ≡ serial → Serialization L E M.witness
  -- where it says impossible there is none
  pub impossible_is_true : M.state ≡ impossible → (σ : List ℕ) → Serialization L E σ → ⊥
  -- while it is open, the house has a next turn
  pub house_goes_on : M.state ≡ open' → (q : Call) × (M' : Model) × Turn L E M q M'
  -- it has admitted at most (m + 1) * 2 ^ s claims and orders
  pub bounded : all_admissions rs ≤ (missing E O + 1) * 2 ^ undecided E O
  -- where all stand in one thread, an ended case says serial exactly if each load saw the last store above it
  pub one_thread : OneThread E → T (ended M.state) → (M.state ≡ serial → (l : ℕ) → T (load_at E l) → SawLast E l) × (((l : ℕ) → T (load_at E l) → SawLast E l) → M.state ≡ serial)

-- a new case under any rule book with the law keeps these promises, whatever calls it gets, in any sequence
abbrev pub Promises : Type 0
Promises =
    (keeps : Seen → Seen → Bool) → Law keeps
    → (E : List Operation) → WellFormed E
    → (O : Rows) → Says E O (Opening (local keeps E) E)
    → (qs : List Call) (rs : List Answer) (M : Model) → Run (local keeps E) E (opened O) qs rs M
    → Kept (local keeps E) E O M rs

-- a session: a case under a rule book is opened with the order O, to the calls qs it gives the answers rs and comes to M, and after each call it has kept its promises
pub record Session (keeps : Seen → Seen → Bool) (E : List Operation) (O : Rows) (qs : List Call) (rs : List Answer) (M : Model) : Type 0 where
  pub says : Says E O (Opening (local keeps E) E)
  pub run : Run (local keeps E) E (opened O) qs rs M
  pub kept : (k : ℕ) → k ≤ length qs → (N : Model) × Run (local keeps E) E (opened O) (take k qs) (take k rs) N × Kept (local keeps E) E O N (take k rs)

-- every run of a new case is a session
abbrev pub Sessions : Type 0
Sessions =
    (keeps : Seen → Seen → Bool) → Law keeps
    → (E : List Operation) → WellFormed E
    → (O : Rows) → Says E O (Opening (local keeps E) E)
    → (qs : List Call) (rs : List Answer) (M : Model) → Run (local keeps E) E (opened O) qs rs M
    → Session keeps E O qs rs M

-- # The same over a local order, with no book

-- the local order under a book with the law is lawful
abbrev pub LawIsEnough : Type 0
LawIsEnough = (keeps : Seen → Seen → Bool) → Law keeps → (E : List Operation) → LawfulOrder (local keeps E) E

-- M is what a new case over E, with the local order L and the opening order O, has come to by some calls
pub record Reached (L : ℕ → ℕ → Bool) (E : List Operation) (O : Rows) (M : Model) : Type 0 where
  pub lawful : LawfulOrder L E
  pub formed : WellFormed E
  pub says : Says E O (Opening L E)
  pub calls : List Call
  pub answers : List Answer
  pub run : Run L E (opened O) calls answers M

-- a new case over any lawful local order keeps the promises
abbrev pub PromisesOfOrders : Type 0
PromisesOfOrders = (L : ℕ → ℕ → Bool) (E : List Operation) (O : Rows) (M : Model) (r : Reached L E O M) → Kept L E O M r.answers

-- # Opening and answers are settled by the definitions

-- recording a pair does what recording is to do
abbrev pub Recording : Type 0
Recording = (a b : ℕ) (R : Rows) → Spread a b R (recorded a b R)

-- every execution has an opening order, and one only
abbrev pub Openings : Type 0
Openings =
    (L : ℕ → ℕ → Bool) (E : List Operation) → LawfulOrder L E → WellFormed E
    → (O : Rows) × Says E O (Opening L E) × ((Q : Rows) → Says E Q (Opening L E) → O ≡ Q)

-- every sequence of calls on a new case has its answers and its end, and one only
abbrev pub OneRun : Type 0
OneRun =
    (L : ℕ → ℕ → Bool) (E : List Operation) → LawfulOrder L E → WellFormed E
    → (O : Rows) → Says E O (Opening L E)
    → (qs : List Call)
    → (rs : List Answer) × (M : Model) × Run L E (opened O) qs rs M
    × ((rs' : List Answer) (M' : Model) → Run L E (opened O) qs rs' M' → (rs ≡ rs') × (M ≡ M'))

-- # What the rules find is true of serializations

-- a pair of the least order stands so in every serialization
abbrev pub LeastIsTrue : Type 0
LeastIsTrue =
    (L : ℕ → ℕ → Bool) (E : List Operation) → WellFormed E
    → (σ : List ℕ) → Serialization L E σ
    → (a b : ℕ) → Least L E a b → place σ a < place σ b

-- what follows from a supposition stands so in every serialization that keeps the recorded order and has the supposed pair
abbrev pub SupposedIsTrue : Type 0
SupposedIsTrue =
    (L : ℕ → ℕ → Bool) (E : List Operation) → WellFormed E
    → (σ : List ℕ) → Serialization L E σ
    → (R : Rows) → ((x y : ℕ) → T (before R x y) → place σ x < place σ y)
    → (a b : ℕ) → place σ a < place σ b
    → (x y : ℕ) → Supposed E R a b x y → place σ x < place σ y

-- the test of serializations passes these and nothing else
abbrev pub SerialTest : Type 0
SerialTest =
    (L : ℕ → ℕ → Bool) (E : List Operation) → LawfulOrder L E
    → (σ : List ℕ) → (T (serial? L E σ) → Serialization L E σ) × (Serialization L E σ → T (serial? L E σ))

-- # Orders and choices on the way

-- the orders of a case are sound
pub record SoundOrders (E : List Operation) (O : Rows) (M : Model) : Type 0 where
  -- the recorded order is transitive and names operations only
  pub settled : Settled (length E) M.order
  -- it has all pairs of the opening order
  pub grown : (x y : ℕ) → T (before O x y) → T (before M.order x y)
  -- each order that stood when a choice was made is transitive and names operations only
  pub stood : AllByRecursion (λ (c : Choice). Settled (length E) c.stood) M.choices

-- whatever calls a new case gets, its orders are sound
abbrev pub OrdersStaySound : Type 0
OrdersStaySound = (L : ℕ → ℕ → Bool) (E : List Operation) (O : Rows) (M : Model) → Reached L E O M → SoundOrders E O M

-- how many choices stand at once, and between what
pub record FewChoices (E : List Operation) (O : Rows) (M : Model) : Type 0 where
  -- no more than there were undecided pairs when the case opened
  pub fit : length M.choices ≤ undecided E O
  -- of which there are at most 32 * 31 / 2
  pub few : undecided E O ≤ 496
  -- so that many choices at most
  pub most : length M.choices ≤ 496
  -- and where a split is not refused there is room for one more
  pub room : (s t : ℕ) → refusal E M (split s t) ≡ None → length M.choices < 496
  -- each is between two operations
  pub within : AllByRecursion (λ (c : Choice). (c.one < length E) × (c.other < length E)) M.choices

-- whatever calls a new case gets, its choices are few
abbrev pub ChoicesFit : Type 0
ChoicesFit = (L : ℕ → ℕ → Bool) (E : List Operation) (O : Rows) (M : Model) → Reached L E O M → FewChoices E O M
