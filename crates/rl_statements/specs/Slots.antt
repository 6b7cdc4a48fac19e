-- The slot of a name. Assumes nothing.
use Rattle.std.specs.Prelude.{ℕ, zero, suc, Bool, true, false, cond, List, get_or, eqb, Option, None, Some}
use Rattle.std.proofs.Math.Option as option
use Rattle.rl_spec.specs.declared.Value.{Value}
use Rattle.rl_spec.specs.Answers.{Optional}
use Rattle.rl_spec.specs.Run as run
use Rattle.rl_spec.specs.Runner.{value_of}
use Rattle.rl_statements.specs.declared.env.Binding.{Binding}
use Rattle.rl_statements.specs.Bindings.{blank}

-- the latest of the first k slots whose name has the class of t
unfoldable pub slot_in : List ℕ → List Binding → ℕ → ℕ → Optional
slot_in cs slots t zero = None
slot_in cs slots t (suc k) = cond (eqb (get_or cs (get_or slots k blank).name 0) (get_or cs t 0)) (Some k) (slot_in cs slots t k)

-- what a search comes to
abbrev pub valued : Option Value → option.Option (run.Value ℕ)
valued None = option.none
valued (Some v) = option.some (value_of v)

-- what a change comes to
abbrev pub stored : Bool → run.Env ℕ → option.Option (run.Env ℕ)
stored true env = option.some env
stored false env = option.none
