use Rattle.rl_records.proofs.StatementLaws.{statement_missing, statement_found}
use Rattle.std.proofs.Common.{rules}
use Rattle.std.proofs.Common.{rules}
use Rattle.rl_records.proofs.ImageRef.statement.Goals as goal

ruleset laws = (statement_missing, statement_found)

pub returns-then-self-n : goal.returns-then-self-n
returns-then-self-n c = search (laws, rules)

pub returns : goal.returns
returns c = search (laws, rules)
