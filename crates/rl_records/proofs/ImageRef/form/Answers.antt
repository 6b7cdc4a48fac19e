use Rattle.std.proofs.Common.{rules}
use Rattle.rl_records.proofs.FormLaws.{form_missing, form_found}
use Rattle.std.proofs.Common.{rules}
use Rattle.rl_records.proofs.ImageRef.form.Goals as goal

ruleset laws = (form_missing, form_found)

pub returns-then-self-n : goal.returns-then-self-n
returns-then-self-n c = search (laws, rules)

pub returns : goal.returns
returns c = search (laws, rules)
