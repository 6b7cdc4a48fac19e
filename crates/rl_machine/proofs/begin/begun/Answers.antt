use native.Mathlib.Omega.{arith}
use Rattle.rl_machine.proofs.BeginLaws.{begin_late, begin_early}
use Rattle.rl_machine.proofs.begin.begun.Goals as goal

pub returns-then-limit-from : goal.returns-then-limit-from
returns-then-limit-from c = let whole = begin_late _ _ _ c.args.limit c.args.s c.args.last _ (omega (arith, c.from.ensures, c.if-limit-from.true)) c.fault.ensures in record { begins = whole.0; room = whole.1 }

pub returns : goal.returns
returns c = let whole = begin_early _ _ _ c.args.limit c.args.s c.args.last c.begun_form.result (omega (arith, c.from.ensures, c.if-limit-from.false)) _ c.statement.ensures (c.begun_form.ensures.begins, c.begun_form.ensures.room) in record { begins = whole.0; room = whole.1 }
