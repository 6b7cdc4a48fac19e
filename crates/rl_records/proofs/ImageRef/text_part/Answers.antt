use Rattle.std.proofs.Common.{rules}
use Rattle.rl_records.proofs.TextLaws.{part_none, part_is}
use Rattle.std.proofs.Common.{rules}
use Rattle.rl_records.proofs.ImageRef.text_part.Goals as goal

ruleset laws = (part_none, part_is)

pub returns-then-counts-t : goal.returns-then-counts-t
returns-then-counts-t c = search (laws, rules)

pub returns : goal.returns
returns c = search (laws, rules)
