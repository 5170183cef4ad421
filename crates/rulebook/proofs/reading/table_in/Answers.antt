use Rattle.std.proofs.Common.{rules}
use Rattle.std.proofs.lemmas.List.{take_rest}
use Rattle.rulebook.proofs.Back.{exact}
use Rattle.rulebook.proofs.reading.table_in.Goals as goal

pub returns-in_err-table-clause-exact : goal.returns-in_err-table-clause-exact
returns-in_err-table-clause-exact c = exact _ _ (search rules)

pub returns-clause-found : goal.returns-clause-found
returns-clause-found c = let t = take_rest c.args.bytes.now 19 in search rules

pub returns-clause-exact : goal.returns-clause-exact
returns-clause-exact c = let t = take_rest c.args.bytes.now 19 in exact _ _ (search rules)
