use Rattle.rl_values.proofs.Halves.{halves_joined}
use Rattle.rl_values.proofs.nearest_f64.Goals as goal

pub returns : goal.returns
returns c = halves_joined c.args.x c.ranges.x
