use Rattle.std.proofs.Common.{rules}
use Rattle.rl_records.proofs.TextLaws.{entry_none, entry_is}
use Rattle.std.proofs.Common.{rules}
use Rattle.rl_records.proofs.ImageRef.entry.Goals as goal

ruleset laws = (entry_none, entry_is)

pub returns-then-counts-k : goal.returns-then-counts-k
returns-then-counts-k c = search (laws, rules)

pub returns : goal.returns
returns c = search (laws, rules)
