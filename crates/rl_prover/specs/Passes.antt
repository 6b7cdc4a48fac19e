-- What stands in the passes over arguments and parameters. Assumes nothing.
use Rattle.std.specs.Prelude.{ℕ, ◌+◌, ◌*◌, ◌≤◌, List, [], map, length, replicate, None, Some}
use Rattle.rl_spec.specs.Answers.{Folded}
use Rattle.rl_spec.specs.declared.Interval.{Interval}
use Rattle.rl_spec.specs.Image.{Image, text_of, entry_of}
use Rattle.rl_spec.specs.Folded.{folded_of}
use Rattle.rl_spec.specs.Tree.{Expr, expr_tree}
use Rattle.rl_spec.specs.Fold.{Binding}
use Rattle.rl_spec.specs.Ranges.{numbers_in}
use Rattle.rl_spec.specs.FnContracts.{Param, ContractClause, param_of, clause_of}
use Rattle.rl_spec.specs.Prove.{bound, bind_arguments}
use Rattle.rl_memory.specs.Memory.{Right}
use Rattle.rl_names.specs.Names.{Classes}
use Rattle.rl_fold.specs.Folding.{folded_at, Names}

abbrev pub forget_for : List ℕ → Folded → List ℕ
forget_for m (Some v) = replicate (length m) 0
forget_for m None = m

-- w has the words of the bindings env, of which there are `count`, and the memory m is right for them
pub record Passing (im : Image) (env : List (Binding ℕ)) (cs w : List ℕ) (count : ℕ) (m : List ℕ) : Type 0 where
  pub names : Names im env cs w count
  pub right : Right (folded_at im env) count m

-- binding the name t to v
abbrev pub Binds : List ℕ → List ℕ → ℕ → List ℕ → ℕ → Folded → List ℕ → ℕ → List ℕ → Type 0
Binds cs w count m t v out r rest =
    (im : Image) (env : List (Binding ℕ)) → Classes (text_of im) cs → (count + 1) * 3 ≤ length w → Passing im env cs w count m →
    Passing im (bound t (folded_of v) env) cs out r rest

-- the parameters, arguments and clauses of intervals
abbrev pub params_in : Image → Interval → List (Param ℕ)
params_in im i = map (param_of im) (numbers_in i)

abbrev pub args_in : Image → Interval → List (Expr ℕ)
args_in im i = map (λ k. expr_tree im (entry_of im k)) (numbers_in i)

abbrev pub clauses_in : Image → Interval → List (ContractClause ℕ)
clauses_in im i = map (clause_of im) (numbers_in i)

-- the first pass, with room for as many names as there are parameters
abbrev pub BindsAll : Image → List ℕ → Interval → Interval → List ℕ → List ℕ → List ℕ → ℕ → List ℕ → Type 0
BindsAll im cs params args w m out r rest =
    Classes (text_of im) cs → params.count * 3 ≤ length w → Right (folded_at im []) 0 m →
    Passing im (bind_arguments (text_of im) [] (params_in im params) (args_in im args)) cs out r rest
