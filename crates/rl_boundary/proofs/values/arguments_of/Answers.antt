use native.Mathlib.Omega.{arith}
use mathlib.Core.Path.{refl, ◌∙◌}
use lib.ListN.{length-set}
use Rattle.rl_boundary.proofs.ValueLaws.{none_yet, argument_next, arguments_given}
use Rattle.rl_boundary.proofs.values.arguments_of.Goals as goal

pub loop-i-init : goal.loop-i-init
loop-i-init c = (refl, none_yet c.args.words.now)

pub loop-i-preserved : goal.loop-i-preserved
loop-i-preserved c = (length-set c.loop-i.values c.loop-i.i (record { value = c.value_of_words-value.result }) ∙ c.loop-i.invariant.0, argument_next c.args.words.now _ _ c.loop-i.invariant.0 (omega (arith, c.loop-i-test.true)) c.loop-i.invariant.1 _ _ _ c.get_or.ensures c.get_or-in-loop-i.ensures c.value_of_words-value.ensures)

pub returns : goal.returns
returns c = arguments_given c.args.words.now _ _ c.loop-i.invariant.0 (omega (arith, c.loop-i-test.false)) (omega (arith, c.loop-i.auto.i-end)) c.loop-i.invariant.1 _ c.count_of_words.ensures
