use mathlib.Core.Path.{refl}
use Rattle.rl_spec.specs.Tree.{ascii}
use Rattle.rl_message.proofs.DefaultLaws.{puts_requires, puts_unrefined, puts_refined}
use Rattle.rl_message.proofs.defaults.put_default.Goals as goal

pub returns-in_default-clause-bytes : goal.returns-in_default-clause-bytes
returns-in_default-clause-bytes c = (puts_unrefined _ _ _ _ _ _ _ _ _ c.in-Refinement.is c.param_of-param.ensures refl c.in_default.is).1

pub returns-in_default-clause-at : goal.returns-in_default-clause-at
returns-in_default-clause-at c = (puts_unrefined _ _ _ _ _ _ _ _ _ c.in-Refinement.is c.param_of-param.ensures refl c.in_default.is).0

pub returns-in-Some-clause-bytes : goal.returns-in-Some-clause-bytes
returns-in-Some-clause-bytes c = (puts_refined _ _ _ _ _ _ _ _ _
    c.in-Refinement.is
    c.param_of-param.ensures
    refl _ _ _
    c.in-Some.is
    (c.put_refinement.ensures.at, c.put_refinement.ensures.bytes)).1

pub returns-in-Some-clause-at : goal.returns-in-Some-clause-at
returns-in-Some-clause-at c = (puts_refined _ _ _ _ _ _ _ _ _
    c.in-Refinement.is
    c.param_of-param.ensures
    refl _ _ _
    c.in-Some.is
    (c.put_refinement.ensures.at, c.put_refinement.ensures.bytes)).0

pub returns-in-Requires-clause-bytes : goal.returns-in-Requires-clause-bytes
unfolding ascii
returns-in-Requires-clause-bytes c = (puts_requires _ _ _ _ _ _ _ _ _ c.in-Requires.is (c.text.ensures.at, c.text.ensures.bytes)).1

pub returns-in-Requires-clause-at : goal.returns-in-Requires-clause-at
unfolding ascii
returns-in-Requires-clause-at c = (puts_requires _ _ _ _ _ _ _ _ _ c.in-Requires.is (c.text.ensures.at, c.text.ensures.bytes)).0
