-- DEMAND 3. The run of a lowered body and 01's contract reading of the original are alike, and a call that has a report never passes its
-- callee's entry checks. First from bytes to bytes; then steps and budgets; then the same of images and of trees, on which it rests.
-- Assumes nothing.
use Rattle.std.specs.Prelude.{◌≡◌, ℕ, ◌<◌, ◌≤◌, true, false, List, [], ◌∷◌, ◌++◌, map, length, take, ◌≢◌, Ok}
use Rattle.std.proofs.Math.Option.{some}
use Rattle.rl_spec.specs.Answers.{accepted, ran}
use Rattle.rl_spec.specs.declared.Arguments.{Arguments}
use Rattle.rl_spec.specs.declared.Outcome.TheVariants.{Spent}
use Rattle.rl_spec.specs.declared.Outcome.{Outcome as Ending}
use Rattle.rl_spec.specs.declared.Section.TheVariants.{Expressions, Statements, Functions}
use Rattle.rl_spec.specs.Read.{counts_of, answer_of}
use Rattle.rl_spec.specs.Image.{Image, encode, image_of, text_of, size_of, heights, AllBytes, WellFormed}
use Rattle.rl_spec.specs.Tree.{ascii}
use Rattle.rl_spec.specs.FnContracts.{callee_of, arguments_of}
use Rattle.rl_spec.specs.Prove.{violations_of}
use Rattle.rl_spec.specs.Lower.{lowered}
use Rattle.rl_spec.specs.Lowerer.{lower_of, lower_answer, lower_out}
use Rattle.rl_spec.specs.Run.{Value, Env, spent, got, used}
use Rattle.rl_spec.specs.Reading.{Function, run_function, entering, reading}
use Rattle.rl_spec.specs.Functions.{plain_function, contract_function}
use Rattle.rl_spec.specs.Runner.{all_have, given, run_of}
use Rattle.rl_laws.specs.Steps as Steps
use Rattle.rl_images.specs.Encoding.ReaderKnows.{counts}
use Rattle.rl_images.specs.Lowering.Followed as Followed
use Rattle.rl_images.specs.Lowering.Grows.{eight_sections}
use Rattle.rl_examples.specs.ContractRows as ContractRows
use Rattle.rl_examples.specs.DemandExamples as DemandExamples
use Rattle.rl_examples.specs.FunctionRows as FunctionRows
use Rattle.rl_examples.specs.LowerExamples as LowerExamples
use Rattle.rl_examples.specs.ReadingTable as ReadingTable
use Rattle.rl_examples.specs.RunnerTable as RunnerTable
use Rattle.rl_theorems.specs.Answers.AtBudgets as AtBudgets
use Rattle.rl_theorems.specs.DemandThree.Demand as Demand
use Rattle.rl_theorems.specs.DemandThree.FoldsCalls as FoldsCalls
use Rattle.rl_theorems.specs.DemandThree.FoldsEntry as FoldsEntry
use Rattle.rl_theorems.specs.DemandThree.LoweredBytes as LoweredBytes
use Rattle.rl_theorems.specs.DemandThree.OneAfterAnother as OneAfterAnother
use Rattle.rl_theorems.specs.Images.FunctionReady.{Under}
use Rattle.rl_theorems.specs.Images.LoweredWellFormed as LoweredWellFormed
use Rattle.rl_theorems.specs.Lowering.LowerBodies as LowerBodies
use Rattle.rl_theorems.specs.Lowering.LowerFrame as LowerFrame
use Rattle.rl_theorems.specs.Lowering.LowerTrees as LowerTrees
use Rattle.rl_theorems.specs.Lowering.LoweredFunctions as LoweredFunctions
use Rattle.rl_theorems.specs.Lowering.LoweredInTurn as LoweredInTurn
use Rattle.rl_theorems.specs.Lowering.LoweredOthers as LoweredOthers
use Rattle.rl_theorems.specs.Lowering.LoweredRuns as LoweredRuns
use Rattle.rl_theorems.specs.Lowering.LoweredTo as LoweredTo
use Rattle.rl_theorems.specs.Runs.Budget as Budget
use Rattle.rl_theorems.specs.Runs.TextRuns as TextRuns

-- ---- THE TWO HALVES, as Demand has them beside what their premises say and closed instances (FirstHalfExamples and SecondHalfExamples show
-- that each premise is needed; below, both of images and of trees, under weaker premises)

pub first_half : (s : List ℕ) (k f room n : ℕ) → AllBytes s → lower_answer (lower_of s k f room) ≡ Ok n → Demand.NoReservedText (image_of s) → Demand.NoBareLast (image_of s) f → (k' : ℕ) (args : Arguments) (budget : ℕ) → all_have (counts_of s) (given args) ≡ true → Demand.RunsAsRead s (take n (lower_out room (lower_of s k f room))) k' f args budget
first_half = Demand.first_half

pub reported_callee : (s : List ℕ) (call : ℕ) → Demand.Reported s call → (f : ℕ) × (callee_of (image_of s) call ≡ some f)
reported_callee = Demand.reported_callee

pub second_half : (s : List ℕ) (call f : ℕ) → Demand.Reported s call → callee_of (image_of s) call ≡ some f → Demand.NoIdentifier (image_of s) call → Demand.DistinctNames (image_of s) f → Demand.NoAssignment (image_of s) f → (vs : List (Value (List ℕ))) → Demand.ValuesFor (image_of s) call f vs → (budget : ℕ) → Demand.PassesEntry (image_of s) f vs budget → ⊥
second_half = Demand.second_half

-- functions lowered one after another, each in the bytes that came of the one before (OneAfterAnother, which has the premises;
-- OneAfterAnotherExample). `Among f fs`: f is one of fs; `NoneTwice fs`: none of them is there twice
module _ (s last : List ℕ) (fs : List ℕ) (bytes : AllBytes s) (in_turn : OneAfterAnother.BytesInTurn s fs last) (f k : ℕ) (args : Arguments) (budget : ℕ) (texts : all_have (counts_of s) (given args) ≡ true) where
  pub in_turn_lowered : LoweredInTurn.NoneTwice fs → LoweredInTurn.Among f fs → OneAfterAnother.NoReservedEnsures (image_of s) f → Demand.NoBareLast (image_of s) f → Demand.RunsAsRead s last k f args budget
  in_turn_lowered = OneAfterAnother.in_turn_lowered s last fs bytes in_turn f k args budget texts

  pub in_turn_others : (LoweredInTurn.Among f fs → ⊥) → OneAfterAnother.RunsAsBefore s last k f args budget
  in_turn_others = OneAfterAnother.in_turn_others s last fs bytes in_turn f k args budget texts

-- ---- what lowering makes of bytes

module _ (s : List ℕ) (k f room : ℕ) (im' : Image) (bytes : AllBytes s) (e : lower_of s k f room ≡ Ok im') where
  -- what it makes is well formed, the reader accepts its bytes, it is the original's records followed by the new ones, and it is what the
  -- output slice begins with (LoweredBytes)
  pub made_well_formed : WellFormed im'
  made_well_formed = LoweredBytes.made_well_formed s k f room im' bytes e

  pub made_accepted : (answer_of (encode im') k ≡ accepted (record { 0 = im'.arena }) (counts im')) × (image_of (encode im') ≡ im')
  made_accepted = LoweredBytes.made_accepted s k f room im' bytes e

  pub made_followed : Followed.Followed (image_of s) f im'
  made_followed = LoweredBytes.made_followed s k f room im' bytes e

  pub made_written : take (length (encode im')) (lower_out room (lower_of s k f room)) ≡ encode im'
  made_written = LoweredBytes.made_written s k f room im' bytes e

-- ---- the steps of a run (Budget)

module _ {Text : Type 0} (bytes : Text → List ℕ) (f : Function Text) (vs : List (Value Text)) where
  -- Fair: the steps used are at most the budget, and all of it where that is spent
  pub run_fair : (budget : ℕ) → Budget.Fair budget (used budget (run_function bytes f vs budget))
  run_fair = Budget.run_fair bytes f vs

  pub reading_fair : (ret : Text) (budget : ℕ) → Budget.Fair budget (used budget (reading bytes ret f vs budget))
  reading_fair = Budget.reading_fair bytes f vs

  -- SPENT EXACTLY WHEN THE NEXT CHARGE WOULD PASS THE BUDGET: where the budget n is not spent, every budget from the steps that it used
  -- on has the same outcome and steps, and every one below them is spent, all of it
  pub run_same : (n b : ℕ) → Steps.NotSpent (run_function bytes f vs n).0 → (used n (run_function bytes f vs n)).1 ≤ b → used b (run_function bytes f vs b) ≡ used n (run_function bytes f vs n)
  run_same = Budget.run_same bytes f vs

  pub run_spent : (n b : ℕ) → Steps.NotSpent (run_function bytes f vs n).0 → b < (used n (run_function bytes f vs n)).1 → used b (run_function bytes f vs b) ≡ (spent, b)
  run_spent = Budget.run_spent bytes f vs

  pub reading_same : (ret : Text) (n b : ℕ) → Steps.NotSpent (reading bytes ret f vs n).0 → (used n (reading bytes ret f vs n)).1 ≤ b → used b (reading bytes ret f vs b) ≡ used n (reading bytes ret f vs n)
  reading_same = Budget.reading_same bytes f vs

  pub reading_spent : (ret : Text) (n b : ℕ) → Steps.NotSpent (reading bytes ret f vs n).0 → b < (used n (reading bytes ret f vs n)).1 → used b (reading bytes ret f vs b) ≡ (spent, b)
  reading_spent = Budget.reading_spent bytes f vs

-- what the runner answers with another budget, which is no larger than may be
module _ (s : List ℕ) (k f : ℕ) (args : Arguments) (n u : ℕ) (o : Ending) (e : run_of s k f args n ≡ ran o u) (ended : o ≡ Spent → ⊥) where
  pub runner_same : (b : ℕ) → b ≤ 1000000 → u ≤ b → run_of s k f args b ≡ ran o u
  runner_same = AtBudgets.runner_same s k f args n u o e ended

  pub runner_spent : (b : ℕ) → b < u → run_of s k f args b ≡ ran Spent b
  runner_spent = AtBudgets.runner_spent s k f args n u o e ended

-- ---- closed runs and readings, a row or more for each sentence of 01's "Runner" and "Contract reading" (RunnerTable, with its first rows in
-- RunnerRows; ReadingTable; FunctionRows says what a row is)

pub runs_end_so : map (λ r. map (RunnerTable.ran r) r.budgets) RunnerTable.rows ≡ map (λ r. map (FunctionRows.expected r) r.budgets) RunnerTable.rows
runs_end_so = RunnerTable.runs_end_so

pub reads_end_so : map (λ r. map (ReadingTable.read r) r.budgets) ReadingTable.rows ≡ map (λ r. map (FunctionRows.expected r) r.budgets) ReadingTable.rows
reads_end_so = ReadingTable.reads_end_so

-- entry is passed from a row's steps on where its checks hold, and never where one is not Bool or false
pub enters_so : map (λ r. map (ReadingTable.enters r) r.budgets) (ReadingTable.held ++ ReadingTable.not_held) ≡ map (λ r. map (ReadingTable.from_steps_on r) r.budgets) ReadingTable.held ++ map (λ r. map (λ b. false) r.budgets) ReadingTable.not_held
enters_so = ReadingTable.enters_so

-- small functions: the lowered bodies run so, and so are the originals' contracts read (LowerExamples)
pub runs_so : map (λ (c : LowerExamples.Case). LowerExamples.run (lowered c.image 0) c.values c.budget) LowerExamples.cases ≡ map (λ (c : LowerExamples.Case). c.outcome) LowerExamples.cases
runs_so = LowerExamples.runs_so

pub reads_so : map (λ (c : LowerExamples.Case). LowerExamples.read c.image c.values c.budget) LowerExamples.cases ≡ map (λ (c : LowerExamples.Case). c.outcome) LowerExamples.cases
reads_so = LowerExamples.reads_so

-- shuts out 01's worthless versions "hands the body back unlowered; wraps only the first return" and "says Spent before any step; makes up
-- the steps": a function with two returns, on four values and with every budget up to 30 (DemandExamples)
pub twice_ends_so : (map (λ (c : DemandExamples.Case). DemandExamples.throughout (ContractRows.read_as DemandExamples.twice (ContractRows.argument (ContractRows.whole c.x) ∷ []))) DemandExamples.cases ≡ map DemandExamples.expected DemandExamples.cases)
    × (map (λ (c : DemandExamples.Case). DemandExamples.throughout (ContractRows.lowered_as (lowered DemandExamples.twice 0) (ContractRows.argument (ContractRows.whole c.x) ∷ []))) DemandExamples.cases ≡ map DemandExamples.expected DemandExamples.cases)
twice_ends_so = DemandExamples.twice_ends_so

-- ---- on trees, the plain run of a lowered function is its contract reading: outcome, value, message or number, and steps (LoweredRuns;
-- LowerTrees has the lowering on trees, LoweredRunExamples functions that meet the premises and, for each premise, one that does not
-- and differs)

pub lowered_runs : (f : Function (List ℕ)) (vs : List (Value (List ℕ))) (budget : ℕ) → LoweredRuns.Premises f → run_function (λ t. t) (LowerTrees.lowered f) vs budget ≡ reading (λ t. t) (ascii "ret") f vs budget
lowered_runs = LoweredRuns.lowered_runs

-- ---- the lowered image: the original's records followed by the new ones, one function's body list changed (Followed). Where no expression
-- of the original is taller than 64 and no statement taller than 32 it is well formed, and the reader accepts its bytes
-- (LoweredWellFormed; LoweredWellFormedExample meets the premises)

pub lowered_followed : (im im' : Image) (f : ℕ) → WellFormed im → lowered im f ≡ some im' → Followed.Followed im f im'
lowered_followed im im' f wf = Followed.lowered_followed im im' f (eight_sections im wf)

module _ (im im' : Image) (f : ℕ) (wf : WellFormed im) (there : f < size_of im Functions) (low : Under 64 (heights im Expressions))
    (lower : Under 32 (heights im Statements)) (e : lowered im f ≡ some im') where
  pub lowered_well_formed : WellFormed im'
  lowered_well_formed = LoweredWellFormed.lowered_well_formed im im' f wf there low lower e

  pub lowered_accepted : (k : ℕ) → 8192 ≤ k → (answer_of (encode im') k ≡ accepted (record { 0 = im'.arena }) (counts im')) × (image_of (encode im') ≡ im')
  lowered_accepted k = LoweredWellFormed.lowered_accepted im im' f k wf there low lower e

-- ---- on records, the function of a lowered image, its texts as bytes, is what the function's tree is lowered to, and so its plain run is the
-- contract reading (LoweredFunctions; LoweredTo says when a tree is lowered to another, whatever the temporaries are called;
-- LoweredFunctionsExample has a function that meets the premises)

module _ (im im' : Image) (f : ℕ) (wf : WellFormed im) (there : f < size_of im Functions) (e : lowered im f ≡ some im')
    (ensured : LowerBodies.Ensured (contract_function im f).ensures (contract_function im f).body) where
  pub lowered_trees : LoweredTo.LoweredTo (contract_function im f) (contract_function im' f)
  lowered_trees = LoweredFunctions.lowered_trees im im' f wf there e ensured

  pub lowered_reads : LowerFrame.CleanChecks (contract_function im f).ensures → (vs : List (Value (List ℕ))) (budget : ℕ) → run_function (λ t. t) (contract_function im' f) vs budget ≡ reading (λ t. t) (ascii "ret") (contract_function im f) vs budget
  lowered_reads = LoweredFunctions.lowered_reads im im' f wf there e ensured

-- what the runner runs, its texts as bytes, runs as that function does, its clauses unread
pub plain_runs : (im : Image) (f : ℕ) (vs : List (Value (List ℕ))) (budget : ℕ) → run_function (λ t. t) (TextRuns.map_function (text_of im) (plain_function im f)) vs budget ≡ run_function (λ t. t) (contract_function im f) vs budget
plain_runs = LoweredFunctions.plain_runs

-- ---- where one function is lowered, every other one is as it was: name, parameters, clauses and body, texts by bytes (LoweredOthers)

pub others_same : (im im' : Image) (f : ℕ) → WellFormed im → lowered im f ≡ some im' → (g : ℕ) → g < size_of im Functions → (g ≢ f) → contract_function im' g ≡ contract_function im g
others_same = LoweredOthers.others_same

-- ---- functions lowered one after another, in any order and none twice, each in the image that came of the one before, none of the images
-- being too tall: each runs in the last image as it is read in the first, under its premises there, and every other one is as it was
-- (LoweredInTurn; from bytes above)

module _ (im last : Image) (fs : List ℕ) (wf : WellFormed im) (in_turn : LoweredInTurn.ImagesInTurn im fs last) where
  pub each_lowered : LoweredInTurn.NoneTwice fs → (f : ℕ) → LoweredInTurn.Among f fs → LoweredRuns.Premises (contract_function im f) → (vs : List (Value (List ℕ))) (budget : ℕ) → run_function (λ t. t) (contract_function last f) vs budget ≡ reading (λ t. t) (ascii "ret") (contract_function im f) vs budget
  each_lowered = LoweredInTurn.each_reads wf in_turn

  pub others_kept : (g : ℕ) → g < size_of im Functions → (LoweredInTurn.Among g fs → ⊥) → contract_function last g ≡ contract_function im g
  others_kept = LoweredInTurn.others_kept wf in_turn

-- ---- a call that has a report never passes its callee's entry checks (FoldsCalls). `Asked`: the callee's parameter names are distinct, no
-- identifier stands in the arguments and no assignment in its conditions, and a parameter whose argument folds has that value

pub reported_never_enters : (im : Image) (call f : ℕ) (vs : List (Value (List ℕ))) → callee_of im call ≡ some f → FoldsCalls.Asked im f (arguments_of im call) vs → FoldsEntry.NonEmpty (violations_of im call) → (budget : ℕ) (env : Env (List ℕ)) (left : ℕ) → entering (λ t. t) (contract_function im f) vs [] budget ≢ got tt env left
reported_never_enters im = FoldsCalls.reported_never_enters im
