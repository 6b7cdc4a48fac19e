-- The callee of a call, as the code has it. Assumes nothing.
use Rattle.std.specs.Prelude.{ℕ, Bool, not, ◌||◌, map, eqb, None, Some}
use Rattle.std.proofs.Math.Option.{Option, none, some}
use Rattle.rl_spec.specs.Answers.{Optional}
use Rattle.rl_spec.specs.declared.Function.{Function}
use Rattle.rl_spec.specs.Image.{Image}
use Rattle.rl_spec.specs.Ranges.{numbers_in}
use Rattle.rl_spec.specs.FnContracts.{param_of, any_refined}

-- a function that has requires or a refinement
unfoldable pub recorded : Image → Function → Bool
recorded im f = not (eqb f.required.count 0) || any_refined (map (param_of im) (numbers_in f.params))

-- an index as the definitions of the meaning have it
abbrev pub callee_in : Optional → Option ℕ
callee_in (Some f) = some f
callee_in None = none
