use Rattle.std.proofs.Common.{refl}
use Rattle.rl_statements.specs.Latest.{latest}
use Rattle.rl_statements.proofs.stack.Stack.new.Goals as goal

pub returns : goal.returns
unfolding latest
returns c = refl
