-- The books that a program can hold, and the codes by which some of them are asked for.
use Rattle.std.specs.Prelude.{ℕ, Bool, cond, Ok, Err, Result, ◌==◌}
use Rattle.field.specs.declared.refusal.Refusal.{Refusal}
use Rattle.field.specs.declared.refusal.Refusal.TheVariants as refusal
use Rattle.rulebook.specs.declared.seen.Seen.{Seen}
use Rattle.rulebook.specs.declared.book.Book.{Book}
use Rattle.rulebook.specs.declared.book.Book.TheVariants as book
use Rattle.rulebook.specs.Books.{sc, weak, dependent}
use Rattle.rulebook.specs.Tables.{written}

-- what a book keeps, whichever it is
abbrev pub book_keeps : Book → Seen → Seen → Bool
book_keeps (book.Sc b) = sc
book_keeps (book.Weak b) = weak
book_keeps (book.WeakWithDependence b) = dependent weak
book_keeps (book.Written t) = written t.entries

-- 1 keeps every pair, 2 is weak, 3 is weak with dependences; no other code is known
abbrev pub book_by_code : ℕ → Result Book Refusal
book_by_code n =
    cond (n == 1) (Ok (book.Sc (record {})))
    (cond (n == 2) (Ok (book.Weak (record {})))
    (cond (n == 3) (Ok (book.WeakWithDependence (record { 0 = record {} })))
    (Err refusal.UnknownCode)))
