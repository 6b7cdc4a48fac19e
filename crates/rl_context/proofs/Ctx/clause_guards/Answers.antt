use Rattle.std.proofs.Common.{◌∙◌, rules}
use Rattle.rl_context.proofs.GuardLaws.{guarding_none, guarding_more, guarding_all}
use Rattle.rl_context.proofs.Ctx.clause_guards.Goals as goal

ruleset laws = (guarding_none, guarding_more, guarding_all)

pub loop-i-preserved : goal.loop-i-preserved
loop-i-preserved c = guarding_more _ _ _ _ _ _ _ _ _ _ _ _ c.loop-i-test.true c.loop-i.invariant (c.clause-clause.ensures _) c.clause_guard-made.ensures (c.push-next.ensures _) c.clause_guard-made.auto.scratch (c.push-next.auto.waiting ∙ c.clause_guard-made.auto.waiting)

pub returns : goal.returns
returns c = search (laws, rules)
