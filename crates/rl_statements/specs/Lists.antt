-- What the functions of a run promise: each comes to the run of what its index stands for. Assumes nothing.
use Rattle.std.specs.Prelude as std
use Rattle.std.specs.Prelude.{ℕ, ◌+◌, ◌-◌, ◌≤◌, ◌≡◌, Bool, true, false, List, map, length, None, Some}
use Rattle.std.proofs.Math.Option.{Option, none, some}
use Rattle.rl_spec.specs.declared.Interval.{Interval}
use Rattle.rl_spec.specs.Answers.{Optional}
use Rattle.rl_spec.specs.Image.{Image, entry_of, text_of}
use Rattle.rl_spec.specs.Tree.{Expr, optional_tree}
use Rattle.rl_spec.specs.Statement.{Body, nil, ◌▸◌, Branch, branch, as_statement, as_branch, body_from, else_by, item_tree}
use Rattle.rl_spec.specs.Ranges.{up_from}
use Rattle.rl_spec.specs.Run as run
use Rattle.rl_spec.specs.Run.{Env, Result, Run, and_then, give, halt}
use Rattle.rl_spec.specs.Reading as reading
use Rattle.rl_spec.specs.Reading.{plainly, repeat, while_turn, loop_turn, body, or_else}
use Rattle.rl_names.specs.Names.{Classes}
use Rattle.rl_machine.specs.declared.types.Flow.{Flow}
use Rattle.rl_machine.specs.declared.types.Flow.TheVariants.{Onward, Breaks, Continues, Skipped, Over}
use Rattle.rl_machine.specs.declared.types.State.{State}
use Rattle.rl_machine.specs.Machine.{outcome_of, result_of, flows, item_under, last_as, compound, guarded, meaning, Low}
use Rattle.rl_statements.specs.declared.types.Block.{Block}
use Rattle.rl_statements.specs.declared.types.Ran.{Ran}

-- ---- the statements of a list

-- at the top a last bare expression gives the value
abbrev pub last_returned : Body ℕ → Body ℕ
last_returned nil = nil
last_returned (s ▸ nil) = last_as true s ▸ nil
last_returned (s ▸ (t ▸ b)) = s ▸ last_returned (t ▸ b)

abbrev pub last_if : Bool → Body ℕ → Body ℕ
last_if true b = last_returned b
last_if false b = b

-- the statements of a list that are left when the first `done` of them are done
abbrev pub body_left : Image → ℕ → Interval → ℕ → Body ℕ
body_left im bound list done =
    body_from (map (λ k. item_under im bound (entry_of im k)) (up_from (list.first + done) (list.count - done)))

abbrev pub list_left : Image → ℕ → Bool → Interval → ℕ → Body ℕ
list_left im bound outermost list done = last_if outermost (body_left im bound list done)

-- ---- the runs

abbrev pub turn_of : Image → Option (Expr ℕ) → Body ℕ → Run ℕ reading.Flow → Run ℕ reading.Flow
turn_of im none b = loop_turn (body (text_of im) plainly b)
turn_of im (some e) b = while_turn (text_of im) e (body (text_of im) plainly b)

-- a loop after a turn: it goes on, or it ends
abbrev pub by_turn : Run ℕ reading.Flow → Flow → Run ℕ reading.Flow
by_turn k Onward = k
by_turn k Continues = k
by_turn k Breaks = give reading.onward
by_turn k Skipped = give reading.onward
by_turn k (Over o) = halt (outcome_of o)

-- the rest of a loop
abbrev pub loop_rest : Image → Option (Expr ℕ) → Body ℕ → Run ℕ reading.Flow
loop_rest im c b = repeat (turn_of im c b)

-- what follows a list: where it is a loop's, the rest of the loop
abbrev pub turned : Image → Bool → Option (Expr ℕ) → Body ℕ → Result ℕ Flow → Result ℕ Flow
turned im false c b r = r
turned im true c b r = flows (and_then r (by_turn (loop_rest im c b)))

-- a list once, where its condition holds; or over and over, each turn for a step
abbrev pub run_of : Image → Bool → Option (Expr ℕ) → Body ℕ → Run ℕ Flow
run_of im false c b = guarded im c b
run_of im true c b = λ env n. flows (loop_rest im c b env n)

abbrev pub list_run : Image → ℕ → Bool → Bool → Optional → Interval → Run ℕ Flow
list_run im bound outermost looping condition list =
    run_of im looping (optional_tree im condition) (list_left im bound outermost list 0)

abbrev pub block_left : Image → Block → ℕ → Body ℕ
block_left im block done = list_left im block.bound block.outermost block.body done

abbrev pub block_run : Image → Block → Run ℕ Flow
block_run im block = list_run im block.bound block.outermost block.looping block.condition block.body

abbrev pub statement_run : Image → ℕ → Run ℕ Flow
statement_run im s = compound im (as_statement (item_tree im s))

abbrev pub branch_of : Image → Branch ℕ → Run ℕ Flow
branch_of im (branch c b) = guarded im c b

abbrev pub branch_run : Image → ℕ → ℕ → Run ℕ Flow
branch_run im limit b = branch_of im (as_branch (item_under im limit b))

abbrev pub otherwise_run : Image → ℕ → Optional → Run ℕ Flow
otherwise_run im limit other env n = flows (or_else (text_of im) plainly (else_by (item_under im limit) other) env n)

-- a skipped branch is over
abbrev pub unskipped : Flow → Flow
unskipped Onward = Onward
unskipped Breaks = Breaks
unskipped Continues = Continues
unskipped Skipped = Onward
unskipped (Over o) = Over o

-- after a turn: another one, or the end
abbrev pub turn_after : Bool → Flow → std.Option Flow
turn_after false f = Some f
turn_after true Onward = None
turn_after true Breaks = Some Onward
turn_after true Continues = None
turn_after true Skipped = Some Onward
turn_after true (Over o) = Some (Over o)

-- ---- the promises

-- what a list begins with comes to its run
abbrev pub BeginsList : Bool → Optional → State → Type 0
BeginsList looping condition st =
    (im : Image) (rest : Body ℕ) (k : run.Value ℕ → Run ℕ Flow) (env : Env ℕ) (n : ℕ)
    → turned im looping (optional_tree im condition) rest (meaning im (length env) rest st k env n)
    ≡ run_of im looping (optional_tree im condition) rest env n

-- what a run leans on: no tree is too high for the frames, and names are compared by classes
pub record Sound (im : Image) (classes : List ℕ) : Type 0 where
  pub low : Low im
  pub same : Classes (text_of im) classes

-- r is what the run m comes to
pub record Runs (m : Run ℕ Flow) (env : Env ℕ) (n : ℕ) (r : Ran) : Type 0 where
  pub does : result_of r.flow r.env r.left ≡ m env n
  pub less : r.left ≤ n
