use Rattle.std.proofs.Common.{ap, rules, ◌∙◌, ◌∷◌}
use Rattle.rl_statements.proofs.LatestLaws.{now_full, now_room, now_pushed}
use Rattle.rl_statements.proofs.env.Env.bind.Goals as goal

pub returns-then-self-eq128-clause-has_room : goal.returns-then-self-eq128-clause-has_room
returns-then-self-eq128-clause-has_room c = now_full _ _ _ _ _ c.self.view_is 128 c.if-self-eq128.true

pub returns-clause-has_room : goal.returns-clause-has_room
returns-clause-has_room c = now_room _ _ _ _ _ c.self.view_is 128 c.self.invariant c.if-self-eq128.false

pub returns-clause-bindings : goal.returns-clause-bindings
returns-clause-bindings c = now_pushed _ _ _ _ _ c.self.view_is _ (search rules) ∙ ap (λ b. b ∷ c.args.self.now) c.new.ensures
