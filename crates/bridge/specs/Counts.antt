-- What a count tells, where the record and the book are named by bytes and a code.
use Rattle.std.specs.Prelude.{◌≡◌, ℕ, Bool, List, Ok, Err, ◌≢◌}
use Rattle.field.specs.declared.refusal.Refusal.{Refusal}
use Rattle.field.specs.declared.fault.Fault.{Fault}
use Rattle.execution.specs.declared.operation.Operation.{Operation}
use Rattle.execution.specs.declared.execution.Execution.{Execution}
use Rattle.execution.specs.Calls.{ops}
use Rattle.execution.specs.Reading.{record_in}
use Rattle.rulebook.specs.declared.book.Book.{Book}
use Rattle.rulebook.specs.Codes.{book_keeps, book_by_code}
use Rattle.order.specs.declared.order.Order.{Order}
use Rattle.theory.specs.Order.{Rows, pairs, Says}
use Rattle.theory.specs.Serial.{local, Opening}
use Rattle.order.specs.Rows.{rows_of}

-- r is the number of pairs of the relation R over the local order, where there are a record and a book; else 2 ^ 32 - 1
pub record PairsOf (R : (ℕ → ℕ → Bool) → List Operation → ℕ → ℕ → Type 0) (s : List ℕ) (code r : ℕ) : Type 0 where
  pub counted : (E : List Operation) (b : Book) → record_in s ≡ Ok E → book_by_code code ≡ Ok b → (Q : Rows) → Says E Q (R (local (book_keeps b) E) E) → r ≡ pairs Q
  pub no_record : (e : Fault) → record_in s ≡ Err e → r ≡ 4294967295
  pub no_book : (e : Refusal) → book_by_code code ≡ Err e → r ≡ 4294967295

-- the bytes and the code are not both accepted
abbrev pub NotStarted : List ℕ → ℕ → Type 0
NotStarted s code = (E : List Operation) (b : Book) → record_in s ≡ Ok E → book_by_code code ≢ Ok b

-- they are accepted as this execution and some book, and this is the opening order under it
pub record Started (s : List ℕ) (code : ℕ) (x : Execution) (o : Order) : Type 0 where
  pub book : Book
  pub record' : record_in s ≡ Ok (ops x)
  pub coded : book_by_code code ≡ Ok book
  pub says : Says (ops x) (rows_of x o) (Opening (local (book_keeps book) (ops x)) (ops x))
