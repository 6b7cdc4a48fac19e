use Rattle.std.proofs.Common.{rules}
use Rattle.rl_records.specs.Found.{found_with}
use Rattle.rl_context.proofs.Operands.{integer_made, str_made, truth_made, named_made}
use Rattle.rl_context.proofs.Ctx.operand_of.Goals as goal

pub returns-in-Integer : goal.returns-in-Integer
returns-in-Integer c im p w = integer_made (found_with c.args.image p) _ _ _ _ c.in-Integer.is (search rules) c.bits_of_int.ensures.value

pub returns-in-Str : goal.returns-in-Str
returns-in-Str c im p w = str_made (found_with c.args.image p) _ _ _ _ c.in-Str.is (c.text.ensures p) (c.new_text-text.ensures im 0 w)

pub returns-in-Bool : goal.returns-in-Bool
returns-in-Bool c im p w = truth_made (found_with c.args.image p) _ _ _ c.in-Bool.is

pub returns-in-Param : goal.returns-in-Param
returns-in-Param c im p w = named_made (found_with c.args.image p) _ _ _ _ c.in-Param.is (c.text-in-Param.ensures p) (c.new_text-text-in-Param.ensures im 0 w)
