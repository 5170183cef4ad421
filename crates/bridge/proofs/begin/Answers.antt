use Rattle.std.proofs.Common.{rules}
use Rattle.bridge.proofs.Counted.{taken_says}
use Rattle.bridge.proofs.begin.Goals as goal

pub returns-clause-started : goal.returns-clause-started
returns-clause-started c =
    record {
      book = c.in_ok-book.book;
      record' = search (rules, taken_says);
      coded = search rules;
      says = c.open.ensures.says;
    }
