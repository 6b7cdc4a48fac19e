use native.Mathlib.Omega.{arith}
use Rattle.rl_records.specs.Found.{found}
use Rattle.rl_machine.proofs.EnterLaws.{enter_late, enter_early}
use Rattle.rl_machine.proofs.enter.entered.Goals as goal

pub returns-then-limit-from : goal.returns-then-limit-from
returns-then-limit-from c = let whole = enter_late (found c.args.image) c.args.limit c.args.node _ (omega (arith, c.from.ensures, c.if-limit-from.true)) c.fault.ensures in record { enters = whole.0; enters_room = whole.1 }

pub returns : goal.returns
returns c = let whole = enter_early (found c.args.image) c.args.limit c.args.node c.entered_form.result (omega (arith, c.from.ensures, c.if-limit-from.false)) _ c.form.ensures (c.entered_form.ensures.enters, c.entered_form.ensures.enters_room) in record { enters = whole.0; enters_room = whole.1 }
