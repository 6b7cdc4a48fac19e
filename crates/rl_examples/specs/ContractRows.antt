-- Rows of the tables of contracts: an image, and for each of its calls the texts of its reports and how the callee's contracts are read,
-- which is how the lowered callee runs.
use Rattle.std.specs.Prelude.{ℕ, ◌+◌, ◌-◌, true, false, List, [], ◌∷◌, map, pos, negsuc, from_bits, Ok, Err}
use Rattle.std.proofs.Math.Option.{Option, none, some}
use Rattle.std.specs.Float.{binary64}
use Rattle.rl_spec.specs.declared.Argument.{Argument}
use Rattle.rl_spec.specs.declared.ConstVal.{ConstVal}
use Rattle.rl_spec.specs.declared.ConstVal.TheVariants.{Int, Float, Str, Bool as Truth}
use Rattle.rl_spec.specs.declared.Plain.TheVariants.{Const}
use Rattle.rl_spec.specs.Answers.{RunAnswer}
use Rattle.rl_spec.specs.declared.Value.TheVariants.{Plain as Bare}
use Rattle.rl_spec.specs.Image.{Rec, Image}
use Rattle.rl_spec.specs.Records.{call_at}
use Rattle.rl_spec.specs.FnContracts.{is_callee, callee_among, callee_of, arguments_of}
use Rattle.rl_spec.specs.Prove.{bind_arguments, refine_bound, refutes, fails_at, failed_refinements, failed_requires, prove_call, violations_of}
use Rattle.rl_spec.specs.Message.{message_by, opening, message_of}
use Rattle.rl_spec.specs.Run.{Outcome, fault}
use Rattle.rl_spec.specs.Mapped.{Text}
use Rattle.rl_spec.specs.Functions.{reading_in}
use Rattle.rl_spec.specs.Runner.{outcome_in, values_of, ran_in}
use Rattle.rl_spec.specs.Lower.{lowered}
use Rattle.rl_examples.specs.NodeRows.{literal, number, negative}

-- ---- an argument: its node in the image, and its value for a run

pub data Given : Type 0 where
  whole minus float text : ℕ → Given
  yes no : Given

abbrev pub node_of : Given → Rec
node_of (whole n) = number n
node_of (minus n) = negative n
node_of (float bits) = literal 27 bits
node_of (text t) = literal 25 t
node_of yes = literal 26 1
node_of no = literal 26 0

abbrev const_of : Given → ConstVal
const_of (whole n) = Int (pos n)
const_of (minus n) = Int (negsuc (n - 1))
const_of (float bits) = Float (from_bits binary64 bits)
const_of (text t) = Str t
const_of yes = Truth true
const_of no = Truth false

abbrev pub argument : Given → Argument
argument g = record { value = Bare (Const (const_of g)) }

-- ---- a call

-- how a reading or a run ends, and its steps
abbrev pub Ends : Type 0
Ends = Outcome Text × ℕ

-- a call of function 0: its values, the texts of its reports, and how the function's contracts are read for them
pub record Call : Type 0 where
  pub given : List Given
  pub reports : List Text
  pub ends : Ends

-- the texts of the reports of the k-th call of an image
abbrev pub reported : Image → ℕ → List Text
reported im k = map (message_of im k) (violations_of im k)

-- for a budget: the reading, and the run in the image that lowering made
abbrev pub read_as : Image → List Argument → ℕ → Ends
read_as im vs budget = reading_in im 0 (values_of vs) budget

abbrev ran_as : Image → RunAnswer → Ends
ran_as im (Ok h) = (outcome_in im h.outcome, h.steps)
ran_as im (Err r) = (fault 0, r.place)

abbrev pub lowered_as : Option Image → List Argument → ℕ → Ends
lowered_as none vs budget = (fault 0, 0)
lowered_as (some im) vs budget = ran_as im (ran_in im 0 vs budget)

abbrev call_seen : Image → Option Image → ℕ → List Argument → List Text × (Ends × Ends)
call_seen im im' k vs = (reported im k, (read_as im vs 1000, lowered_as im' vs 1000))

-- the calls from the k-th on
unfoldable pub calls_seen : Image → Option Image → ℕ → List Call → List (List Text × (Ends × Ends))
calls_seen im im' k [] = []
calls_seen im im' k (c ∷ cs) = call_seen im im' k (map argument c.given) ∷ calls_seen im im' (k + 1) cs

-- ---- a row: an image, and its calls in order

pub record Row : Type 0 where
  pub image : Image
  pub calls : List Call

abbrev pub actual : Row → List (List Text × (Ends × Ends))
actual r = calls_seen r.image (lowered r.image 0) 0 r.calls

abbrev pub expected : Row → List (List Text × (Ends × Ends))
expected r = map (λ (c : Call). (c.reports, (c.ends, c.ends))) r.calls

-- what computation opens of proving a call, of reading, and of running
unfoldable pub proving : Unit {0}
unfolding call_at is_callee callee_among callee_of arguments_of bind_arguments refine_bound refutes fails_at failed_refinements failed_requires prove_call violations_of message_by opening message_of reading_in calls_seen
proving = tt
