-- How a case answers one call, read off what it was given and its desk before and after.
use Rattle.std.specs.Prelude.{ℕ, Bool, Ok, Err, Result}
use Rattle.field.specs.declared.refusal.Refusal.{Refusal}
use Rattle.theory.specs.Case.{Call, Answer, refused, supposed, says, Replies, Hears}
use Rattle.desk.specs.declared.given.Given.{Given}
use Rattle.desk.specs.declared.desk.Desk.{Desk}
use Rattle.desk.specs.Model.{events, locally, model}

-- the call has this answer, and leaves that desk
abbrev pub Replied : Given → Desk → Call → Answer → Desk → Type 0
Replied g pre q r post = Replies (locally g) (events g) (model g pre) q r (model g post)

-- the same of any call, the house's turns among them
abbrev pub HeardBy : Given → Desk → Call → Answer → Desk → Type 0
HeardBy g pre q r post = Hears (locally g) (events g) (model g pre) q r (model g post)

-- the answer to the question what if
abbrev pub supposed_of : Result (ℕ × Bool) Refusal → Answer
supposed_of (Ok p) = supposed p.0 p.1
supposed_of (Err e) = refused e

-- the answer to the question about the least order
abbrev pub says_of : Result Bool Refusal → Answer
says_of (Ok b) = says b
says_of (Err e) = refused e
