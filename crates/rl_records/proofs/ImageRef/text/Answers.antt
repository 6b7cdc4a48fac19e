use Rattle.std.proofs.Common.{rules}
use Rattle.rl_records.proofs.TextLaws.{text_none, text_is}
use Rattle.std.proofs.Common.{rules}
use Rattle.rl_records.proofs.ImageRef.text.Goals as goal

ruleset laws = (text_none, text_is)

pub returns-then-counts-t : goal.returns-then-counts-t
returns-then-counts-t c = search (laws, rules)

pub returns : goal.returns
returns c = search (laws, rules)
