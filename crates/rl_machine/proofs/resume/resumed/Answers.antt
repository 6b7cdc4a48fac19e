use Rattle.rl_machine.proofs.ResumeLaws.{take_right, take_unary}
use Rattle.rl_machine.proofs.resume.resumed.Goals as goal

pub returns-in-Test-clause-resumes_room : goal.returns-in-Test-clause-resumes_room
returns-in-Test-clause-resumes_room c = λ im b t h. c.tested.ensures.room im b t

pub returns-in-Right : goal.returns-in-Right
returns-in-Right c = let whole = take_right _ _ _ c.args.v c.folded.result _ _ c.in-Right.is c.operand.result c.operand-in-Right.result c.binary_folded.result c.operand.ensures c.operand-in-Right.ensures c.binary_folded.ensures (c.folded.ensures.means, c.folded.ensures.room) in record { by_index = whole.0; resumes_room = whole.1 }

pub returns-in-Unary : goal.returns-in-Unary
returns-in-Unary c = let whole = take_unary _ _ _ c.args.v c.folded-in-Unary.result _ c.in-Unary.is c.operand-in-Unary.result c.unary_folded.result c.operand-in-Unary.ensures c.unary_folded.ensures (c.folded-in-Unary.ensures.means, c.folded-in-Unary.ensures.room) in record { by_index = whole.0; resumes_room = whole.1 }

pub returns-in-Ok-clause-resumes_room : goal.returns-in-Ok-clause-resumes_room
returns-in-Ok-clause-resumes_room c = λ im b t h. c.ok_of.ensures.room im b t

pub returns-in-Err-clause-resumes_room : goal.returns-in-Err-clause-resumes_room
returns-in-Err-clause-resumes_room c = λ im b t h. c.err_of.ensures.room im b t

pub returns-in-IsErr-clause-resumes_room : goal.returns-in-IsErr-clause-resumes_room
returns-in-IsErr-clause-resumes_room c = λ im b t h. c.is_err.ensures.room im b t

pub returns-in-Unwrap-clause-resumes_room : goal.returns-in-Unwrap-clause-resumes_room
returns-in-Unwrap-clause-resumes_room c = λ im b t h. c.unwrap.ensures.room im b t
