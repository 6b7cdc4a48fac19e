use Rattle.std.proofs.Common.{rules}
use Rattle.rl_records.proofs.FormLaws.{path_long, path_first, path_second, path_third}
use Rattle.std.proofs.Common.{rules}
use Rattle.rl_records.proofs.forms.is_res_path.Goals as goal

ruleset laws = (path_long, path_first, path_second, path_third)

pub returns-then-path-ne3 : goal.returns-then-path-ne3
returns-then-path-ne3 c = search (laws, rules)

pub returns-then-not-is_entry : goal.returns-then-not-is_entry
returns-then-not-is_entry c = search (laws, rules)

pub returns-then-not-is_entry-2 : goal.returns-then-not-is_entry-2
returns-then-not-is_entry-2 c = search (laws, rules)

pub returns : goal.returns
returns c = search (laws, rules)
