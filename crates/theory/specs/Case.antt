-- A case: what it holds, what it can be asked, what it answers to each call, and what the call leaves.
use Rattle.std.specs.Prelude.{◌≡◌, ℕ, zero, suc, ◌-◌, Bool, true, false, cond, not, ◌&&◌, ◌||◌, T, List, [], ◌∷◌, ◌++◌, map, length, Some, None, Ok, Err, Option, Result, ◌==◌, nat_le, nat_lt}
use Rattle.std.specs.List.{range_with_len}
use Rattle.field.specs.declared.refusal.Refusal.{Refusal}
use Rattle.field.specs.declared.refusal.Refusal.TheVariants.{NoSuchOperation, IncompleteOrder, CaseEnded, PremiseFails, PairRecorded, NoCycle, NotSerialization, MemoryTooShort, NotSerial}
use Rattle.execution.specs.declared.operation.Operation.{Operation}
use Rattle.execution.specs.Operations.{load_at, same_address, source, touches, rivals}
use Rattle.theory.specs.Lists.{over, any, first_by, member, count}
use Rattle.theory.specs.Order.{Rows, before, recorded, cyclic, pairs, Says}
use Rattle.theory.specs.Serial.{Least, Supposed, Serialization}

-- # What a case holds

-- what a case says so far: nothing yet, that there is a serialization, or that there is none
pub data State : Type 0 where
  open' serial impossible : State

-- which way of a choice is under trial: one before other, or other before one
pub data Side : Type 0 where
  first second : Side

-- a choice that stands: between which two stores, on which side, and the order that stood when it was made
pub record Choice : Type 0 where
  pub one : ℕ
  pub other : ℕ
  pub side : Side
  pub stood : Rows

-- a case at one moment: the recorded order, the choices that stand, latest first, the state, and where it is serial the serialization that was admitted
pub record Model : Type 0 where
  pub order : Rows
  pub choices : List Choice
  pub state : State
  pub witness : List ℕ

-- an open case with this order and these choices
abbrev pub open_with : Rows → List Choice → Model
open_with R cs = record { order = R; choices = cs; state = open'; witness = [] }

-- a new case: its order is the opening order, and no choice stands
abbrev pub opened : Rows → Model
opened O = open_with O []

-- # Calls and answers

-- what a case can be asked
pub data Call : Type 0 where
  -- by rule a of the load l: the store s is before the store that l saw
  claim_a : (l s : ℕ) → Call
  -- by rule b of the load l: l is before the store s
  claim_b : (l s : ℕ) → Call
  -- by rule c of the loads l and k: a is before b
  claim_c : (l k a b : ℕ) → Call
  -- try the store s before the store t, and the other way later
  split : (s t : ℕ) → Call
  -- the recorded order has a cycle: go back to the latest choice that has another way
  close : Call
  -- this order is a serialization
  propose : (σ : List ℕ) → Call
  -- let the house take up to k turns, each of them a claim or an order of its own
  house : (k : ℕ) → Call
  -- what would follow if a were before b?
  what_if : (a b : ℕ) → Call
  -- is a before b in the least order?
  least : (a b : ℕ) → Call

-- what it answers
pub data Answer : Type 0 where
  -- the claim or the order is taken
  admitted : Answer
  -- the call is turned away, and why
  refused : (why : Refusal) → Answer
  -- how many turns the house took, and the state after them
  made : (turns : ℕ) → State → Answer
  -- how many pairs would be added, and whether there would be a cycle
  supposed : (added : ℕ) (cycle : Bool) → Answer
  -- yes or no
  says : Bool → Answer

-- the call is a claim: by one of the three rules, a split or a close
abbrev pub is_claim : Call → Bool
is_claim (claim_a l s) = true
is_claim (claim_b l s) = true
is_claim (claim_c l k a b) = true
is_claim (split s t) = true
is_claim close = true
is_claim (propose σ) = false
is_claim (house k) = false
is_claim (what_if a b) = false
is_claim (least a b) = false

-- # When a call is refused

-- the operations that a call names
abbrev pub named : Call → List ℕ
named (claim_a l s) = l ∷ s ∷ []
named (claim_b l s) = l ∷ s ∷ []
named (claim_c l k a b) = l ∷ k ∷ a ∷ b ∷ []
named (split s t) = s ∷ t ∷ []
named close = []
named (propose σ) = σ
named (house k) = []
named (what_if a b) = a ∷ b ∷ []
named (least a b) = a ∷ b ∷ []

-- the case has its verdict
abbrev pub ended : State → Bool
ended open' = false
ended serial = true
ended impossible = true

-- the calls that an ended case turns away: all but the question about the least order
abbrev pub needs_open : Call → Bool
needs_open (claim_a l s) = true
needs_open (claim_b l s) = true
needs_open (claim_c l k a b) = true
needs_open (split s t) = true
needs_open close = true
needs_open (propose σ) = true
needs_open (house k) = true
needs_open (what_if a b) = true
needs_open (least a b) = false

-- a close where no operation is before itself
abbrev pub acyclic_close : Rows → Call → Bool
acyclic_close R (claim_a l s) = false
acyclic_close R (claim_b l s) = false
acyclic_close R (claim_c l k a b) = false
acyclic_close R (split s t) = false
acyclic_close R close = not (cyclic R)
acyclic_close R (propose σ) = false
acyclic_close R (house k) = false
acyclic_close R (what_if a b) = false
acyclic_close R (least a b) = false

module _ (E : List Operation) where
  -- an order that has not as many places as there are operations, or names one twice
  abbrev pub misshapen : Call → Bool
  misshapen (claim_a l s) = false
  misshapen (claim_b l s) = false
  misshapen (claim_c l k a b) = false
  misshapen (split s t) = false
  misshapen close = false
  misshapen (propose σ) = not (length σ == length E) || any (map (λ a. nat_lt 1 (count σ a)) σ)
  misshapen (house k) = false
  misshapen (what_if a b) = false
  misshapen (least a b) = false

  -- the premises of a claim: those of its rule, and for a split two different stores to one address; other calls have none
  abbrev pub premise : Rows → Call → Bool
  premise R (claim_a l s) = touches E s l && not (s == source E l) && before R s l
  premise R (claim_b l s) = touches E s l && before R (source E l) s
  premise R (claim_c l k a b) = load_at E l && load_at E k && same_address E l k && not (source E l == source E k) && before R a l && before R a k && before R (source E l) b && before R (source E k) b
  premise R (split s t) = rivals E s t
  premise R close = true
  premise R (propose σ) = true
  premise R (house k) = true
  premise R (what_if a b) = true
  premise R (least a b) = true

  -- what a claim would record is recorded already; for a split, one way or the other
  abbrev pub stands : Rows → Call → Bool
  stands R (claim_a l s) = before R s (source E l)
  stands R (claim_b l s) = before R l s
  stands R (claim_c l k a b) = before R a b
  stands R (split s t) = before R s t || before R t s
  stands R close = false
  stands R (propose σ) = false
  stands R (house k) = false
  stands R (what_if a b) = false
  stands R (least a b) = false

  -- why a call is turned away: of the reasons that there are, the first in this list (the last of all, that an order is no serialization, is with the replies)
  abbrev pub refusal : Model → Call → Option Refusal
  refusal M q =
      cond (any (map (λ a. nat_le (length E) a) (named q))) (Some NoSuchOperation)
      (cond (misshapen q) (Some IncompleteOrder)
      (cond (ended M.state && needs_open q) (Some CaseEnded)
      (cond (not (premise M.order q)) (Some PremiseFails)
      (cond (stands M.order q) (Some PairRecorded)
      (cond (acyclic_close M.order q) (Some NoCycle) None)))))

-- # What a call leaves

-- a close undoes choices from the latest back, to the first found on its first side, which goes to its second; where none is found, nothing is left to try
abbrev pub undone : Rows → List Choice → Model
undone R [] = record { order = R; choices = []; state = impossible; witness = [] }
undone R (c ∷ cs) =
    elim c.side [
      | first ↦ open_with (recorded c.other c.one c.stood) (record { one = c.one; other = c.other; side = second; stood = c.stood } ∷ cs)
      | second ↦ undone c.stood cs
    ]

module _ (E : List Operation) where
  -- the pair that a claim by a rule or a split records (of other calls this is not asked)
  abbrev pub pair : Call → ℕ × ℕ
  pair (claim_a l s) = (s, source E l)
  pair (claim_b l s) = (l, s)
  pair (claim_c l k a b) = (a, b)
  pair (split s t) = (s, t)
  pair close = (0, 0)
  pair (propose σ) = (0, 0)
  pair (house k) = (0, 0)
  pair (what_if a b) = (a, b)
  pair (least a b) = (a, b)

  -- the order with that pair recorded
  abbrev pub with_pair : Rows → Call → Rows
  with_pair R q = recorded (pair q).0 (pair q).1 R

  -- what an admitted claim or order leaves; a split makes a choice, which starts on its first side
  abbrev pub after : Model → Call → Model
  after M (claim_a l s) = open_with (with_pair M.order (claim_a l s)) M.choices
  after M (claim_b l s) = open_with (with_pair M.order (claim_b l s)) M.choices
  after M (claim_c l k a b) = open_with (with_pair M.order (claim_c l k a b)) M.choices
  after M (split s t) = open_with (with_pair M.order (split s t)) (record { one = s; other = t; side = first; stood = M.order } ∷ M.choices)
  after M close = undone M.order M.choices
  after M (propose σ) = record { order = M.order; choices = M.choices; state = serial; witness = σ }
  after M (house k) = M
  after M (what_if a b) = M
  after M (least a b) = M

-- # What the house does in a turn

-- there is no refusal
abbrev pub granted : Option Refusal → Bool
granted None = true
granted (Some e) = false

module _ (E : List Operation) where
  -- every claim by rule a, by load, then store
  abbrev pub claims_a : List Call
  claims_a = over (length E) (λ l. over (length E) (λ s. claim_a l s ∷ []))

  -- every claim by rule b, by load, then store
  abbrev pub claims_b : List Call
  claims_b = over (length E) (λ l. over (length E) (λ s. claim_b l s ∷ []))

  -- every claim by rule c, by first load, second load, then the two operations of the pair
  abbrev pub claims_c : List Call
  claims_c = over (length E) (λ l. over (length E) (λ k. over (length E) (λ a. over (length E) (λ b. claim_c l k a b ∷ []))))

  -- the claims of the three rules, in the house's order
  abbrev pub claims : List Call
  claims = claims_a ++ claims_b ++ claims_c

  -- every split, the lower number first
  abbrev pub splits : List Call
  splits = over (length E) (λ s. over (length E) (λ t. cond (nat_lt s t) (split s t ∷ []) []))

  -- the claims that the house tries, in its order
  abbrev pub claim_tries : List Call
  claim_tries = (close ∷ []) ++ claims ++ splits

  -- a claim has something to record: its premises hold, and its pair is missing
  abbrev pub lacks : Rows → Call → Bool
  lacks R q = premise E R q && not (stands E R q)

  -- a is not placed yet, and all that is recorded before it is
  abbrev pub ready : Rows → List ℕ → ℕ → Bool
  ready R placed a = not (member a placed) && not (any (map (λ x. before R x a && not (member x placed)) (range_with_len 0 (length E))))

  -- place the lowest operation that is ready, up to k times
  abbrev pub placing : ℕ → Rows → List ℕ → List ℕ
  placing zero R placed = placed
  placing (suc k) R placed = elim (first_by (ready R placed) (range_with_len 0 (length E))) [ Some a ↦ placing k R (placed ++ (a ∷ [])) | None ↦ placed ]

  -- the order that the house proposes: always next the lowest operation whose recorded predecessors are placed
  abbrev pub greedy : Rows → List ℕ
  greedy R = placing (length E) R []

  -- all that the house tries, in its order; the order that it proposes comes last
  abbrev pub tries : Rows → List Call
  tries R = claim_tries ++ (propose (greedy R) ∷ [])

  -- the house's next call: the first of its tries that is not refused
  abbrev pub next_call : Model → Option Call
  next_call M = first_by (λ q. granted (refusal E M q)) (tries M.order)

-- # How calls are answered

module _ (L : ℕ → ℕ → Bool) (E : List Operation) where
  -- one call, but not the house's turns: its answer, and the case after it
  pub data Replies : Model → Call → Answer → Model → Type 0 where
    -- a refused call leaves the case as it was
    turned_away : {M : Model} {q : Call} {e : Refusal} → refusal E M q ≡ Some e → Replies M q (refused e) M
    -- a claim that is not refused is admitted
    taken : {M : Model} {q : Call} → T (is_claim q) → refusal E M q ≡ None → Replies M q admitted (after E M q)
    -- an order is admitted if it is a serialization
    proposed : {M : Model} {σ : List ℕ} → refusal E M (propose σ) ≡ None → Serialization L E σ → Replies M (propose σ) admitted (after E M (propose σ))
    -- and refused if it is none
    no_order : {M : Model} {σ : List ℕ} → refusal E M (propose σ) ≡ None → (Serialization L E σ → ⊥) → Replies M (propose σ) (refused NotSerialization) M
    -- the question about the least order: it leaves the case as it was
    asked : {M : Model} {a b : ℕ} (known : Bool) → refusal E M (least a b) ≡ None → (T known → Least L E a b) → (Least L E a b → T known) → Replies M (least a b) (says known) M
    -- the question what if: Q is what follows, and the case is left as it was
    imagined : {M : Model} {a b : ℕ} (Q : Rows) → refusal E M (what_if a b) ≡ None → Says E Q (Supposed E M.order a b) → Replies M (what_if a b) (supposed (pairs Q - pairs M.order) (cyclic Q)) M

  -- one turn of the house: its next call, which is admitted
  abbrev pub Turn : Model → Call → Model → Type 0
  Turn M q M' = (next_call E M ≡ Some q) × Replies M q admitted M'

  -- from M with a budget of k the house takes t turns, to M': exactly as many as its budget, or fewer when the case ends
  pub data Turns : Model → ℕ → ℕ → Model → Type 0 where
    -- the budget is spent
    spent : {M : Model} → Turns M 0 0 M
    -- the case has ended
    finished : {M : Model} {k : ℕ} → T (ended M.state) → Turns M k 0 M
    -- a turn, and then the rest
    turn : {M M' M'' : Model} {q : Call} {k t : ℕ} → M.state ≡ open' → Turn M q M' → Turns M' k t M'' → Turns M (suc k) (suc t) M''

  -- any call: its answer, and the case after it
  pub data Hears : Model → Call → Answer → Model → Type 0 where
    -- a call with one reply
    single : {M M' : Model} {q : Call} {r : Answer} → Replies M q r M' → Hears M q r M'
    -- the house's turns
    housed : {M M' : Model} {k t : ℕ} → refusal E M (house k) ≡ None → Turns M k t M' → Hears M (house k) (made t M'.state) M'

  -- any sequence of calls, with their answers, from one moment of a case to another
  pub data Run : Model → List Call → List Answer → Model → Type 0 where
    -- no call
    done : {M : Model} → Run M [] [] M
    -- a call, and then the rest
    more : {M M' M'' : Model} {q : Call} {r : Answer} {qs : List Call} {rs : List Answer} → Hears M q r M' → Run M' qs rs M'' → Run M (q ∷ qs) (r ∷ rs) M''

-- # Writing a serialization out

-- a serial case gives the order that it admitted
abbrev pub order_of : State → List ℕ → Result (List ℕ) Refusal
order_of open' σ = Err NotSerial
order_of serial σ = Ok σ
order_of impossible σ = Err NotSerial

-- what writing it into so many bytes gives
abbrev pub order_out : List Operation → Model → (bytes : ℕ) → Result (List ℕ) Refusal
order_out E M bytes = cond (nat_lt bytes (length E)) (Err MemoryTooShort) (order_of M.state M.witness)
