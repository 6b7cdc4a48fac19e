use native.Mathlib.Omega.{arith}
use Rattle.rl_machine.proofs.BeginLaws.{begin_declaration, begin_value, begin_expression, begin_return, begin_alone, begin_compound, begin_break, begin_continue, begin_fault}
use Rattle.rl_machine.proofs.begin.begun_form.Goals as goal

pub returns-then-last : goal.returns-then-last
returns-then-last c = let whole = begin_value _ _ _ _ _ (omega arith) c.in-Expression.is c.if-last.true c.evaluate-then-last.ensures in record { begins = whole.0; room = whole.1 }

pub returns-in-Declaration : goal.returns-in-Declaration
returns-in-Declaration c = let whole = begin_declaration _ _ c.args.last _ _ (omega arith) _ c.in-Declaration.is c.evaluate.ensures in record { begins = whole.0; room = whole.1 }

pub returns-else-last : goal.returns-else-last
returns-else-last c = let whole = begin_expression _ _ _ _ _ (omega arith) c.in-Expression.is c.if-last.false c.evaluate-in-Expression.ensures in record { begins = whole.0; room = whole.1 }

pub returns-in-Return : goal.returns-in-Return
returns-in-Return c = let whole = begin_return _ _ c.args.last _ _ (omega arith) c.in-Return.is c.evaluate-in-Return.ensures in record { begins = whole.0; room = whole.1 }

pub returns-in-ReturnAlone : goal.returns-in-ReturnAlone
returns-in-ReturnAlone c = let whole = begin_alone _ _ c.args.last c.in-ReturnAlone.is in record { begins = whole.0; room = whole.1 }

pub returns-in-Conditional : goal.returns-in-Conditional
returns-in-Conditional c = let whole = begin_compound _ _ c.args.last c.in-Conditional.is in record { begins = whole.0; room = whole.1 }

pub returns-in-Branch : goal.returns-in-Branch
returns-in-Branch c = let whole = begin_fault _ _ c.args.last _ c.in-Branch.is c.fault.ensures in record { begins = whole.0; room = whole.1 }

pub returns-in-Break : goal.returns-in-Break
returns-in-Break c = let whole = begin_break _ _ c.args.last c.in-Break.is in record { begins = whole.0; room = whole.1 }

pub returns-in-Continue : goal.returns-in-Continue
returns-in-Continue c = let whole = begin_continue _ _ c.args.last c.in-Continue.is in record { begins = whole.0; room = whole.1 }
