use Rattle.rl_pages.proofs.AddedLaws.{adds_text}
use Rattle.std.proofs.Common.{rules}
use Rattle.rl_pages.proofs.put.put_behind.Goals as goal

pub returns-clause-adds : goal.returns-clause-adds
returns-clause-adds c = search (adds_text, rules)
