use Rattle.std.proofs.Common.{rules}
use Rattle.rl_records.proofs.FormLaws.{form_null, form_int, form_sint, form_uint, form_suint, form_byte, form_sbyte, form_bbyte, form_bsbyte, form_str, form_bool, form_float, form_sfloat, form_identifier, form_binary, form_unary, form_grouping, form_assign, form_call, form_ok, form_err, form_other}
use Rattle.std.proofs.Common.{rules}
use Rattle.rl_records.proofs.forms.form_in.Goals as goal

ruleset laws = (form_null, form_int, form_sint, form_uint, form_suint, form_byte, form_sbyte, form_bbyte, form_bsbyte, form_str, form_bool, form_float, form_sfloat, form_identifier, form_binary, form_unary, form_grouping, form_assign, form_call, form_ok, form_err, form_other)

pub returns-in-16 : goal.returns-in-16
returns-in-16 c = search (laws, rules)

pub returns-in-17 : goal.returns-in-17
returns-in-17 c = search (laws, rules)

pub returns-in-18 : goal.returns-in-18
returns-in-18 c = search (laws, rules)

pub returns-in-19 : goal.returns-in-19
returns-in-19 c = search (laws, rules)

pub returns-in-20 : goal.returns-in-20
returns-in-20 c = search (laws, rules)

pub returns-in-21 : goal.returns-in-21
returns-in-21 c = search (laws, rules)

pub returns-in-22 : goal.returns-in-22
returns-in-22 c = search (laws, rules)

pub returns-in-23 : goal.returns-in-23
returns-in-23 c = search (laws, rules)

pub returns-in-24 : goal.returns-in-24
returns-in-24 c = search (laws, rules)

pub returns-in-25 : goal.returns-in-25
returns-in-25 c = search (laws, rules)

pub returns-in-26 : goal.returns-in-26
returns-in-26 c = search (laws, rules)

pub returns-in-27 : goal.returns-in-27
returns-in-27 c = search (laws, rules)

pub returns-in-28 : goal.returns-in-28
returns-in-28 c = search (laws, rules)

pub returns-in-30 : goal.returns-in-30
returns-in-30 c = search (laws, rules)

pub returns-in-32 : goal.returns-in-32
returns-in-32 c = search (laws, rules)

pub returns-in-33 : goal.returns-in-33
returns-in-33 c = search (laws, rules)

pub returns-in-34 : goal.returns-in-34
returns-in-34 c = search (laws, rules)

pub returns-in-39 : goal.returns-in-39
returns-in-39 c = search (laws, rules)

pub returns-in-41 : goal.returns-in-41
returns-in-41 c = search (laws, rules)

pub returns-in-49 : goal.returns-in-49
returns-in-49 c = search (laws, rules)

pub returns-in-50 : goal.returns-in-50
returns-in-50 c = search (laws, rules)

pub returns-in_default : goal.returns-in_default
returns-in_default c = search (laws, rules)
