-- Statements that hold statements, by their parts, and what these say. Assumes nothing.
use Rattle.std.specs.Prelude.{ℕ, ◌<◌, ◌≤◌, ◌≡◌, Bool, true, false, Option, None, Some}
use Rattle.rl_spec.specs.Answers.{Optional}
use Rattle.rl_spec.specs.declared.Interval.{Interval}
use Rattle.rl_spec.specs.declared.StatementForm.{StatementForm}
use Rattle.rl_spec.specs.declared.StatementForm.TheVariants as form
use Rattle.rl_spec.specs.declared.Outcome.TheVariants.{Fault}
use Rattle.rl_spec.specs.Image.{Image}
use Rattle.rl_spec.specs.Run.{Env, Run, and_then}
use Rattle.rl_machine.specs.declared.types.Flow.{Flow}
use Rattle.rl_machine.specs.declared.types.Flow.TheVariants.{Onward, Breaks, Continues, Skipped, Over}
use Rattle.rl_machine.specs.Machine.{result_of}
use Rattle.rl_statements.specs.declared.types.Block.{Block}
use Rattle.rl_statements.specs.declared.types.ElseForm.{ElseForm}
use Rattle.rl_statements.specs.declared.types.ElseForm.TheVariants as else
use Rattle.rl_statements.specs.declared.types.CompoundForm.{CompoundForm}
use Rattle.rl_statements.specs.declared.types.CompoundForm.TheVariants as compound
use Rattle.rl_statements.specs.Lists.{block_run, statement_run, branch_run, otherwise_run, unskipped}

-- the list of the branch or loop at an index
abbrev pub block_of : ℕ → Bool → Optional → Interval → Block
block_of at looping n list = record { bound = at; outermost = false; looping = looping; condition = n; body = list }

abbrev pub branch_of : StatementForm → ℕ → Option Block
branch_of (form.Declaration x n) at = None
branch_of (form.Expression n) at = None
branch_of (form.Return n) at = None
branch_of form.ReturnAlone at = None
branch_of (form.Conditional b e) at = None
branch_of (form.Branch n list) at = Some (block_of at false n list)
branch_of (form.While n list) at = None
branch_of (form.Loop list) at = None
branch_of form.Break at = None
branch_of form.Continue at = None
branch_of form.Other at = None

abbrev pub else_of : StatementForm → ℕ → Option ElseForm
else_of (form.Declaration x n) s = None
else_of (form.Expression n) s = None
else_of (form.Return n) s = None
else_of form.ReturnAlone s = None
else_of (form.Conditional b e) s = Some (else.Conditional s)
else_of (form.Branch n list) s = Some (else.Branch s)
else_of (form.While n list) s = None
else_of (form.Loop list) s = None
else_of form.Break s = None
else_of form.Continue s = None
else_of form.Other s = None

abbrev pub compound_of : StatementForm → ℕ → Option CompoundForm
compound_of (form.Declaration x n) s = None
compound_of (form.Expression n) s = None
compound_of (form.Return n) s = None
compound_of form.ReturnAlone s = None
compound_of (form.Conditional b e) s = Some (compound.Conditional b e)
compound_of (form.Branch n list) s = None
compound_of (form.While n list) s = Some (compound.Loop (block_of s true (Some n) list))
compound_of (form.Loop list) s = Some (compound.Loop (block_of s true None list))
compound_of form.Break s = None
compound_of form.Continue s = None
compound_of form.Other s = None

-- two runs of the same bindings and budget come to the same
abbrev pub Alike : Run ℕ Flow → Run ℕ Flow → Type 0
Alike m k = (env : Env ℕ) (n : ℕ) → m env n ≡ k env n

-- the else part where the branch was skipped
abbrev pub or_else : Run ℕ Flow → Flow → Run ℕ Flow
or_else k Onward = result_of Onward
or_else k Breaks = result_of Breaks
or_else k Continues = result_of Continues
or_else k Skipped = k
or_else k (Over o) = result_of (Over o)

-- the branch at b: a list below b
abbrev pub BranchIs : Image → ℕ → ℕ → Option Block → Type 0
BranchIs im limit b (Some block) = (block.bound < limit) × Alike (branch_run im limit b) (block_run im block)
BranchIs im limit b None = Alike (branch_run im limit b) (result_of Onward)

abbrev pub ElseIs : Image → ℕ → Optional → Option ElseForm → Type 0
ElseIs im limit other (Some (else.Branch s)) = Alike (otherwise_run im limit other) (λ env n. and_then (branch_run im limit s env n) (λ f. result_of (unskipped f)))
ElseIs im limit other (Some (else.Conditional s)) = (s < limit) × Alike (otherwise_run im limit other) (statement_run im s)
ElseIs im limit other None = Alike (otherwise_run im limit other) (result_of Onward)

abbrev pub CompoundIs : Image → ℕ → Option CompoundForm → Type 0
CompoundIs im s (Some (compound.Conditional b other)) =
    Alike (statement_run im s) (λ env n. and_then (branch_run im s b env n) (or_else (otherwise_run im s other)))
CompoundIs im s (Some (compound.Loop block)) = (block.bound ≤ s) × Alike (statement_run im s) (block_run im block)
CompoundIs im s None = Alike (statement_run im s) (result_of (Over (Fault 1)))
