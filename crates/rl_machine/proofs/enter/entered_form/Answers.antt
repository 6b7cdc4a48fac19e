use Rattle.rl_machine.proofs.EnterLaws.{enter_null, enter_literal, enter_identifier, enter_unary, enter_binary, enter_grouping, enter_assign, enter_ok, enter_err, enter_is_err, enter_unwrap, enter_other}
use Rattle.rl_machine.proofs.enter.entered_form.Goals as goal

pub returns-in-Null : goal.returns-in-Null
returns-in-Null c = let whole = enter_null _ _ c.in-Null.is in record { enters = whole.0; enters_room = whole.1 }

pub returns-in-Literal : goal.returns-in-Literal
returns-in-Literal c = let whole = enter_literal _ _ c.folded.result _ c.in-Literal.is (c.folded.ensures.means, c.folded.ensures.room) in record { enters = whole.0; enters_room = whole.1 }

pub returns-in-Identifier : goal.returns-in-Identifier
returns-in-Identifier c = let whole = enter_identifier _ _ _ c.in-Identifier.is in record { enters = whole.0; enters_room = whole.1 }

pub returns-in-Unary : goal.returns-in-Unary
returns-in-Unary c = let whole = enter_unary _ _ _ _ _ c.in-Unary.is c.push.ensures in record { enters = whole.0; enters_room = whole.1 }

pub returns-in-Binary : goal.returns-in-Binary
returns-in-Binary c = let whole = enter_binary _ _ _ _ _ _ c.in-Binary.is c.push-in-Binary.ensures in record { enters = whole.0; enters_room = whole.1 }

pub returns-in-Grouping : goal.returns-in-Grouping
returns-in-Grouping c = let whole = enter_grouping _ _ _ _ c.in-Grouping.is c.from.ensures in record { enters = whole.0; enters_room = whole.1 }

pub returns-in-Assign : goal.returns-in-Assign
returns-in-Assign c = let whole = enter_assign _ _ _ _ _ c.in-Assign.is c.push-in-Assign.ensures in record { enters = whole.0; enters_room = whole.1 }

pub returns-in-OkLiteral : goal.returns-in-OkLiteral
returns-in-OkLiteral c = let whole = enter_ok _ _ _ _ c.in-OkLiteral.is c.push-in-OkLiteral.ensures in record { enters = whole.0; enters_room = whole.1 }

pub returns-in-ErrLiteral : goal.returns-in-ErrLiteral
returns-in-ErrLiteral c = let whole = enter_err _ _ _ _ c.in-ErrLiteral.is c.push-in-ErrLiteral.ensures in record { enters = whole.0; enters_room = whole.1 }

pub returns-in-IsErr : goal.returns-in-IsErr
returns-in-IsErr c = let whole = enter_is_err _ _ _ _ c.in-IsErr.is c.push-in-IsErr.ensures in record { enters = whole.0; enters_room = whole.1 }

pub returns-in-ResultUnwrap : goal.returns-in-ResultUnwrap
returns-in-ResultUnwrap c = let whole = enter_unwrap _ _ _ _ c.in-ResultUnwrap.is c.push-in-ResultUnwrap.ensures in record { enters = whole.0; enters_room = whole.1 }

pub returns-in-Other : goal.returns-in-Other
returns-in-Other c = let whole = enter_other _ _ _ c.in-Other.is c.fault.ensures in record { enters = whole.0; enters_room = whole.1 }
