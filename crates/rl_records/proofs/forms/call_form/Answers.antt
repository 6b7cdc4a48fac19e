use Rattle.std.proofs.Common.{rules}
use Rattle.rl_records.proofs.FormLaws.{call_other, call_is_err, call_unwrap, call_neither}
use Rattle.std.proofs.Common.{rules}
use Rattle.rl_records.proofs.forms.call_form.Goals as goal

ruleset laws = (call_other, call_is_err, call_unwrap, call_neither)

pub returns-then-args-ne1 : goal.returns-then-args-ne1
returns-then-args-ne1 c = search (laws, rules)

pub returns-then-is_res_path : goal.returns-then-is_res_path
returns-then-is_res_path c = search (laws, rules)

pub returns-then-is_res_path-2 : goal.returns-then-is_res_path-2
returns-then-is_res_path-2 c = search (laws, rules)

pub returns : goal.returns
returns c = search (laws, rules)
