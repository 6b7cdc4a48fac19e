-- The frames that a stack stands for. Assumes nothing.
use Rattle.std.specs.Prelude.{Option, None, Some, List, [], ◌∷◌}
use Rattle.rl_machine.specs.declared.types.Frame.{Frame}
use Rattle.rl_machine.specs.declared.types.Frame.TheVariants.{Test}
use Rattle.rl_statements.specs.declared.stack.Stack.TheInside.{Inside}
use Rattle.rl_statements.specs.Latest.{latest}

abbrev pub stacked : Inside → List Frame
stacked s = latest (λ f. f) Test s.frames s.len

abbrev pub newest : List Frame → Option Frame
newest [] = None
newest (f ∷ fs) = Some f
