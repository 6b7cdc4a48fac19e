-- What a state of a list's machine comes to. Assumes nothing.
use Rattle.std.specs.Prelude.{ℕ, suc, ◌+◌, ◌<◌, ◌≤◌, ◌≡◌, Bool, true, false, length}
use Rattle.std.proofs.Math.Option.{Option}
use Rattle.rl_spec.specs.declared.Outcome.{Outcome}
use Rattle.rl_spec.specs.declared.Outcome.TheVariants as outcome
use Rattle.rl_spec.specs.Image.{Image, text_of}
use Rattle.rl_spec.specs.Tree.{Expr, other, below, expr_tree}
use Rattle.rl_spec.specs.Statement.{Stmt, declaration, expression, return, return_alone, conditional, while, loop, break, continue, other_statement, Body, Item, a_statement, as_statement, item_tree}
use Rattle.rl_spec.specs.Run as run
use Rattle.rl_spec.specs.Run.{Env, Result, Run, and_then, ◌>>=◌, ◌>>◌, give, halt, fail, bind, leaving, truth, plain_of, err_of, unwrapped, operand, folds, look, store, unary_on, binary_on, eval}
use Rattle.rl_spec.specs.Values as value
use Rattle.rl_spec.specs.Reading as reading
use Rattle.rl_spec.specs.Reading.{plainly, taken, stmt, body}
use Rattle.rl_spec.specs.Runner.{value_of}
use Rattle.rl_spec.specs.Runner as runner
use Rattle.rl_laws.specs.Heights.{expr_height}
use Rattle.rl_machine.specs.declared.types.Flow.{Flow}
use Rattle.rl_machine.specs.declared.types.Flow.TheVariants.{Onward, Breaks, Continues, Skipped, Over}
use Rattle.rl_machine.specs.declared.types.Frame.{Frame}
use Rattle.rl_machine.specs.declared.types.Frame.TheVariants.{Test, Declare, Discard, Return, Left, Right, Unary, Assign, Ok, Err, IsErr, Unwrap}
use Rattle.rl_machine.specs.declared.types.State.{State}
use Rattle.rl_machine.specs.declared.types.State.TheVariants.{Next, Tested, Compound, Visit, Push, Look, Store, Bind, Give, Ends}

-- ---- how a list ends

abbrev pub outcome_of : Outcome → run.Outcome ℕ
outcome_of (outcome.Returned v) = run.returned (value_of v)
outcome_of (outcome.Stopped p) = run.stopped (runner.plain_of p)
outcome_of (outcome.Fault k) = run.fault k
outcome_of outcome.Spent = run.spent

abbrev pub result_of : Flow → Run ℕ Flow
result_of Onward = give Onward
result_of Breaks = give Breaks
result_of Continues = give Continues
result_of Skipped = give Skipped
result_of (Over o) = halt (outcome_of o)

abbrev pub as_flow : reading.Flow → Flow
as_flow reading.onward = Onward
as_flow reading.breaks = Breaks
as_flow reading.continues = Continues

abbrev pub flows : Result ℕ reading.Flow → Result ℕ Flow
flows r = and_then r (λ f. give (as_flow f))

-- ---- trees under a limit

abbrev pub tree_under : Image → ℕ → ℕ → Expr ℕ
tree_under im limit n = below limit (λ _. other) (expr_tree im) n

abbrev pub item_under : Image → ℕ → ℕ → Item ℕ
item_under im limit n = below limit (λ _. a_statement other_statement) (item_tree im) n

-- the last bare expression of a body gives the value: it is a return
abbrev pub as_return : Stmt ℕ → Stmt ℕ
as_return (declaration x e) = declaration x e
as_return (expression e) = return e
as_return (return e) = return e
as_return return_alone = return_alone
as_return (conditional b e) = conditional b e
as_return (while e b) = while e b
as_return (loop b) = loop b
as_return break = break
as_return continue = continue
as_return other_statement = other_statement

abbrev pub last_as : Bool → Stmt ℕ → Stmt ℕ
last_as true s = as_return s
last_as false s = s

module _ (im : Image) where
  abbrev ev : Expr ℕ → Run ℕ (run.Value ℕ)
  ev = eval (text_of im)

  -- a body, run plainly; a function's own `ret` is not read then
  abbrev pub body_run : Body ℕ → Run ℕ Flow
  body_run b env n = flows (body (text_of im) plainly b env n)

  -- a statement once its step is charged
  abbrev pub begun_run : Stmt ℕ → Run ℕ Flow
  begun_run s env n = flows (stmt (text_of im) plainly s env (suc n))

  -- a statement that holds statements
  abbrev pub compound : Stmt ℕ → Run ℕ Flow
  compound (declaration x e) = fail 1
  compound (expression e) = fail 1
  compound (return e) = fail 1
  compound return_alone = fail 1
  compound (conditional b e) = begun_run (conditional b e)
  compound (while e b) = begun_run (while e b)
  compound (loop b) = begun_run (loop b)
  compound break = fail 1
  compound continue = fail 1
  compound other_statement = fail 1

  abbrev pub tested : Bool → Run ℕ Flow → Run ℕ Flow
  tested true k = k
  tested false k = give Skipped

  -- a body in a scope, where its condition holds
  abbrev pub guarded : Option (Expr ℕ) → Body ℕ → Run ℕ Flow
  guarded c b = taken (text_of im) c >>= λ t. tested t (λ env n. leaving (length env) (body_run b env n))

  -- base is how many bindings stay when the list ends, rest has the statements that are left
  module _ (base : ℕ) (rest : Body ℕ) where
    abbrev pub next : Run ℕ Flow
    next env n = leaving base (body_run rest env n)

    abbrev pub ends : Flow → Run ℕ Flow
    ends f env n = leaving base (result_of f env n)

    -- after a statement
    abbrev pub after : Flow → Run ℕ Flow
    after Onward = next
    after Breaks = ends Breaks
    after Continues = ends Continues
    after Skipped = ends Skipped
    after (Over o) = ends (Over o)

    -- what a frame does with a value; k is what the frames below it do
    abbrev pub by_frame : Frame → run.Value ℕ → (run.Value ℕ → Run ℕ Flow) → Run ℕ Flow
    by_frame Test v k = truth 2 v >>= λ t. tested t (λ env n. leaving (length env) (body_run rest env n))
    by_frame (Declare x) v k = bind (run.named x v) >> next
    by_frame Discard v k = next
    by_frame Return v k = halt (run.returned v)
    by_frame (Left op r limit) v k = ev (tree_under im limit r) >>= λ w. binary_on (text_of im) op (operand v) (operand w) >>= k
    by_frame (Right op l) v k = binary_on (text_of im) op (operand (value_of l)) (operand v) >>= k
    by_frame (Unary op) v k = unary_on (text_of im) op (operand v) >>= k
    by_frame (Assign x) v k = store (text_of im) x v >> k v
    by_frame Ok v k = plain_of v >>= λ p. k (run.ok p)
    by_frame Err v k = plain_of v >>= λ p. k (run.err p)
    by_frame IsErr v k = err_of v >>= λ b. k (folds (value.bool b))
    by_frame Unwrap v k = unwrapped v >>= k

    -- what a state comes to; k is what the frames do with a value
    abbrev pub meaning : State → (run.Value ℕ → Run ℕ Flow) → Run ℕ Flow
    meaning Next k = next
    meaning (Tested t) k = tested t (λ env n. leaving (length env) (body_run rest env n))
    meaning (Compound s) k = compound (as_statement (item_tree im s)) >>= after
    meaning (Visit n limit) k = ev (tree_under im limit n) >>= k
    meaning (Push f n limit) k = ev (tree_under im limit n) >>= λ v. by_frame f v k
    meaning (Look x) k = look (text_of im) x >>= k
    meaning (Store x v) k = store (text_of im) x (value_of v) >> k (value_of v)
    meaning (Bind x v) k = bind (run.named x (value_of v)) >> next
    meaning (Give v) k = k (value_of v)
    meaning (Ends f) k = ends f

  -- ---- room for frames: a tree needs as many as its height

  abbrev pub FrameRoom : ℕ → Frame → Type 0
  FrameRoom t Test = Unit {0}
  FrameRoom t (Declare x) = Unit {0}
  FrameRoom t Discard = Unit {0}
  FrameRoom t Return = Unit {0}
  FrameRoom t (Left op r limit) = t + 1 + expr_height (tree_under im limit r) ≤ 69
  FrameRoom t (Right op l) = Unit {0}
  FrameRoom t (Unary op) = Unit {0}
  FrameRoom t (Assign x) = Unit {0}
  FrameRoom t Ok = Unit {0}
  FrameRoom t Err = Unit {0}
  FrameRoom t IsErr = Unit {0}
  FrameRoom t Unwrap = Unit {0}

  -- a state with t frames, in a list of statements below a bound
  abbrev pub Room : ℕ → ℕ → State → Type 0
  Room bound t Next = Unit {0}
  Room bound t (Tested b) = Unit {0}
  Room bound t (Compound s) = s < bound
  Room bound t (Visit n limit) = t + expr_height (tree_under im limit n) ≤ 69
  Room bound t (Push f n limit) = (t + 1 + expr_height (tree_under im limit n) ≤ 69) × FrameRoom t f
  Room bound t (Look x) = Unit {0}
  Room bound t (Store x v) = Unit {0}
  Room bound t (Bind x v) = Unit {0}
  Room bound t (Give v) = Unit {0}
  Room bound t (Ends f) = Unit {0}

  -- no tree is too high
  abbrev pub Low : Type 0
  Low = (i : ℕ) → expr_height (expr_tree im i) ≤ 68

-- what a state adds to the steps of the machine that are left
abbrev pub weight : State → ℕ
weight Next = 1
weight (Tested t) = 2
weight (Compound s) = 2
weight (Visit n l) = 1
weight (Push f n l) = 6
weight (Look x) = 6
weight (Store x v) = 6
weight (Bind x v) = 2
weight (Give v) = 5
weight (Ends f) = 0

-- ---- what the functions promise

-- in each place of each list a state comes to the same as a run
abbrev pub Means : Image → State → ((ℕ → Body ℕ → (run.Value ℕ → Run ℕ Flow) → Run ℕ Flow)) → Type 0
Means im st r =
    (base : ℕ) (rest : Body ℕ) (k : run.Value ℕ → Run ℕ Flow) (env : Env ℕ) (n : ℕ)
    → meaning im base rest st k env n ≡ r base rest k env n

-- a tree, once its step is charged
abbrev pub Enters : Image → Expr ℕ → State → Type 0
Enters im e st = Means im st (λ base rest k env n. and_then (eval (text_of im) e env (suc n)) k)

abbrev pub EntersRoom : Image → Expr ℕ → State → Type 0
EntersRoom im e st = (bound t : ℕ) → t + expr_height e ≤ 69 → Room im bound t st

abbrev pub Resumes : Image → Frame → run.Value ℕ → State → Type 0
Resumes im f v st = Means im st (λ base rest k. by_frame im base rest f v k)

abbrev pub ResumesRoom : Image → Frame → State → Type 0
ResumesRoom im f st = (bound t : ℕ) → FrameRoom im t f → Room im bound t st

-- a statement, once its step is charged
abbrev pub Begins : Image → Stmt ℕ → State → Type 0
Begins im s st = Means im st (λ base rest k env n. and_then (begun_run im s env n) (after im base rest))

abbrev pub Follows : Image → Flow → State → Type 0
Follows im f st = Means im st (λ base rest k env n. and_then (result_of f env n) (after im base rest))
