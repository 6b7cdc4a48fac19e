-- The bindings that an environment's slots stand for. Assumes nothing.
use Rattle.std.specs.Prelude.{ℕ}
use Rattle.rl_spec.specs.Run as run
use Rattle.rl_spec.specs.Runner.{value_of, value_of_words}
use Rattle.rl_statements.specs.declared.env.Binding.{Binding}
use Rattle.rl_statements.specs.declared.env.Env.TheInside.{Inside}
use Rattle.rl_statements.specs.Latest.{latest}

-- past the end
abbrev pub blank : Binding
blank = record { name = 0; sort = 0; payload = 0 }

abbrev pub bound_of : Binding → run.Bound ℕ
bound_of b = run.named b.name (value_of (value_of_words b.sort b.payload))

abbrev pub bounds : Inside → run.Env ℕ
bounds e = latest bound_of blank e.slots e.len
