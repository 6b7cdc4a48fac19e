-- The bindings that a run begins with. Assumes nothing.
use Rattle.std.specs.Prelude.{ℕ, ◌≡◌, List, [], map}
use Rattle.rl_spec.specs.declared.Arguments.{Arguments}
use Rattle.rl_spec.specs.declared.Interval.{Interval}
use Rattle.rl_spec.specs.Image.{Image}
use Rattle.rl_spec.specs.Records.{param_at}
use Rattle.rl_spec.specs.Ranges.{numbers_in}
use Rattle.rl_spec.specs.Run.{Env, got}
use Rattle.rl_spec.specs.Reading.{bind_all}
use Rattle.rl_spec.specs.Runner.{given, values_of}

abbrev pub param_names : Image → Interval → List ℕ
param_names im params = map (λ i. (param_at im i).name) (numbers_in params)

-- an environment has the parameters bound to the values, whatever the budget
abbrev pub BindsAll : Image → Interval → Arguments → Env ℕ → Type 0
BindsAll im params args e = (n : ℕ) → bind_all (param_names im params) (values_of (given args)) [] n ≡ got tt e n
