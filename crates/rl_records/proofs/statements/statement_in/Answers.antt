use Rattle.rl_records.proofs.StatementLaws.{form_declaration, form_expression, form_return, form_alone, form_conditional, form_branch, form_while, form_loop, form_break, form_continue, form_other}
use Rattle.std.proofs.Common.{rules}
use Rattle.std.proofs.Common.{rules}
use Rattle.rl_records.proofs.statements.statement_in.Goals as goal

ruleset laws = (form_declaration, form_expression, form_return, form_alone, form_conditional, form_branch, form_while, form_loop, form_break, form_continue, form_other)

pub returns-in-64 : goal.returns-in-64
returns-in-64 c = search (laws, rules)

pub returns-in-65 : goal.returns-in-65
returns-in-65 c = search (laws, rules)

pub returns-in-66 : goal.returns-in-66
returns-in-66 c = search (laws, rules)

pub returns-in-67 : goal.returns-in-67
returns-in-67 c = search (laws, rules)

pub returns-in-68 : goal.returns-in-68
returns-in-68 c = search (laws, rules)

pub returns-in-69 : goal.returns-in-69
returns-in-69 c = search (laws, rules)

pub returns-in-70 : goal.returns-in-70
returns-in-70 c = search (laws, rules)

pub returns-in-71 : goal.returns-in-71
returns-in-71 c = search (laws, rules)

pub returns-in-77 : goal.returns-in-77
returns-in-77 c = search (laws, rules)

pub returns-in-78 : goal.returns-in-78
returns-in-78 c = search (laws, rules)

pub returns-in_default : goal.returns-in_default
returns-in_default c = search (laws, rules)
