-- What the second pass finds where the names stand and the memory is right. Assumes nothing.
use Rattle.std.specs.Prelude.{ℕ, ◌≡◌, Bool, List, ◌++◌}
use Rattle.rl_spec.specs.declared.Interval.{Interval}
use Rattle.rl_spec.specs.Answers.{ParamRefinement}
use Rattle.rl_spec.specs.Image.{Image, text_of}
use Rattle.rl_spec.specs.Tree.{expr_tree}
use Rattle.rl_spec.specs.Fold.{Binding, const_eval}
use Rattle.rl_spec.specs.FnContracts.{refinement_of}
use Rattle.rl_spec.specs.Prove.{is_false, fails_at, failed_refinements, failed_requires, report_entries}
use Rattle.rl_prover.specs.Passes.{Passing, params_in, args_in, clauses_in}
use Rattle.rl_prover.specs.Reports.{Shown}

abbrev pub FailsRefinement : Image → List ℕ → List ℕ → ℕ → List ℕ → ParamRefinement → ℕ → Bool → List ℕ → Type 0
FailsRefinement im cs w count m q arg r out =
    (env : List (Binding ℕ)) → Passing im env cs w count m → (r ≡ fails_at (text_of im) env (refinement_of q) (expr_tree im arg)) × Passing im env cs w count out

abbrev pub FailsClause : Image → List ℕ → List ℕ → ℕ → List ℕ → ℕ → Bool → List ℕ → Type 0
FailsClause im cs w count m n r out =
    (env : List (Binding ℕ)) → Passing im env cs w count m → (r ≡ is_false (const_eval (text_of im) env (expr_tree im n))) × Passing im env cs w count out

-- the reports of the violations vs behind the entries e
pub record Reported (im : Image) (env : List (Binding ℕ)) (cs w : List ℕ) (count : ℕ) (m : List ℕ) (l e : List ℕ) (at : ℕ) : Type 0 where
  pub passing : Passing im env cs w count m
  pub shown : Shown l e at

abbrev pub ReportsRefinements : Image → List ℕ → List ℕ → ℕ → List ℕ → Interval → Interval → ℕ → ℕ → List ℕ → ℕ → List ℕ → List ℕ → ℕ → Type 0
ReportsRefinements im cs w count m params args call span l start out rest r =
    (env : List (Binding ℕ)) (e : List ℕ) → Reported im env cs w count m l e start →
    Reported im env cs w count out rest (e ++ report_entries call span (failed_refinements (text_of im) env 0 (params_in im params) (args_in im args))) r

abbrev pub ReportsRequires : Image → List ℕ → List ℕ → ℕ → List ℕ → Interval → ℕ → ℕ → List ℕ → ℕ → List ℕ → List ℕ → ℕ → Type 0
ReportsRequires im cs w count m clauses call span l start out rest r =
    (env : List (Binding ℕ)) (e : List ℕ) → Reported im env cs w count m l e start →
    Reported im env cs w count out rest (e ++ report_entries call span (failed_requires (text_of im) env 0 (clauses_in im clauses))) r
