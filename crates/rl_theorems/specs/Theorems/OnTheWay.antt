-- WHAT IS PROVED ON THE WAY to the three demands: what is answered for the bytes of a well-formed image, where the records of accepted
-- bytes stand, every part of a run at two budgets, and texts by their bytes.
-- Assumes nothing.
use Rattle.std.specs.Prelude.{◌≡◌, ℕ, ◌+◌, ◌*◌, ◌<◌, ◌≤◌, Bool, true, false, List, [], map, take, drop, slice_index, Ok}
use Rattle.rl_spec.specs.Answers.{accepted}
use Rattle.rl_spec.specs.declared.ArenaNo.{ArenaNo}
use Rattle.rl_spec.specs.declared.Arguments.{Arguments}
use Rattle.rl_spec.specs.declared.Counts.{Counts}
use Rattle.rl_spec.specs.declared.Section.TheVariants.{Expressions, Statements, Functions, Calls}
use Rattle.rl_spec.specs.declared.Section.{Section}
use Rattle.rl_spec.specs.Bytes.{u16_at}
use Rattle.rl_spec.specs.Schema.{text_bytes_at, count_of}
use Rattle.rl_spec.specs.Fields.{entry_at}
use Rattle.rl_spec.specs.Read.{answer_of, starts_of}
use Rattle.rl_spec.specs.Image.{Image, encode, image_of, text_of, size_of, WellFormed, entry_of}
use Rattle.rl_spec.specs.Found.{image_found}
use Rattle.rl_spec.specs.Folded.{as_folded}
use Rattle.rl_spec.specs.Tree.{expr_tree, Expr}
use Rattle.rl_spec.specs.Fold.{const_eval, fold_of}
use Rattle.rl_spec.specs.Records.{function_at}
use Rattle.rl_spec.specs.FnContracts.{FnContracts}
use Rattle.rl_spec.specs.Prove.{call_entries, all_entries, fitting, slice_by, prove_of, reports_of, prove_all_of, all_reports_of, prove_call}
use Rattle.rl_spec.specs.Lower.{lowered}
use Rattle.rl_spec.specs.Lowerer.{too_tall, or_limit, lower_of}
use Rattle.rl_spec.specs.Statement.{Stmt, Body}
use Rattle.rl_spec.specs.Run.{Value, Env, tick, ◌>>◌, eval}
use Rattle.rl_spec.specs.Reading.{Function, run_function, reading, Check, Mode, repeat, loop_turn, while_turn, checks, stmt, body, top}
use Rattle.rl_spec.specs.Mapped.{map_value, map_expr, map_stmt, map_body, map_contracts}
use Rattle.rl_spec.specs.Runner.{all_have, given, is_for, ran_in, run_of}
use Rattle.rl_laws.specs.Steps as Steps
use Rattle.rl_images.specs.Encoding.ReaderKnows.{counts}
use Rattle.rl_images.specs.Reading.Found as Found
use Rattle.rl_images.specs.Reading.Starts as Starts
use Rattle.rl_theorems.specs.Reading.Access as Access
use Rattle.rl_theorems.specs.Reading.EncodedAnswers as EncodedAnswers
use Rattle.rl_theorems.specs.Runs.ProvesTexts as ProvesTexts
use Rattle.rl_theorems.specs.Runs.TextRuns as TextRuns
use Rattle.rl_theorems.specs.Runs.Texts as Texts

-- ---- what folding, proving, lowering and running answer for the bytes of a well-formed image (EncodedAnswers)

module _ (im : Image) (wf : WellFormed im) (k : ℕ) (long : 8192 ≤ k) where
  pub folded_encoded : (n : ℕ) → n < size_of im Expressions → fold_of (encode im) k (record { arena = record { 0 = im.arena }; node = record { 0 = n } }) ≡ Ok (as_folded (const_eval (text_of im) [] (expr_tree im n)))
  folded_encoded = EncodedAnswers.folded_encoded im wf k long

  -- one call, and what is left in a slice of so many entries
  pub proved_encoded : (call room : ℕ) → call < size_of im Calls → prove_of (encode im) k call room ≡ fitting room (call_entries im call)
  proved_encoded = EncodedAnswers.proved_encoded im wf k long

  pub reports_encoded : (call room : ℕ) → call < size_of im Calls → reports_of (encode im) k call room ≡ slice_by room (call_entries im call) (fitting room (call_entries im call))
  reports_encoded = EncodedAnswers.reports_encoded im wf k long

  -- all calls
  pub all_proved_encoded : (room : ℕ) → prove_all_of (encode im) k room ≡ fitting room (all_entries im (size_of im Calls) 0)
  all_proved_encoded = EncodedAnswers.all_proved_encoded im wf k long

  pub all_reports_encoded : (room : ℕ) → all_reports_of (encode im) k room ≡ slice_by room (all_entries im (size_of im Calls) 0) (fitting room (all_entries im (size_of im Calls) 0))
  all_reports_encoded = EncodedAnswers.all_reports_encoded im wf k long

  -- lowering a function of an image that is not too tall, with an output slice that is long enough
  pub lowered_encoded : (f room : ℕ) → f < size_of im Functions → too_tall im ≡ false → 65535 ≤ room → lower_of (encode im) k f room ≡ or_limit (lowered im f)
  lowered_encoded = EncodedAnswers.lowered_encoded im wf k long

  -- running a function, on as many values as it has parameters, whose texts the image has, with a budget that is taken
  pub ran_encoded : (f : ℕ) (args : Arguments) (budget : ℕ) → f < size_of im Functions → is_for args.count (function_at im f).params.count ≡ true → all_have (counts im) (given args) ≡ true → budget ≤ 1000000 → run_of (encode im) k f args budget ≡ ran_in im f (given args) budget
  ran_encoded = EncodedAnswers.ran_encoded im wf k long

module _ (s : List ℕ) (k : ℕ) (a : ArenaNo) (c : Counts) (e : answer_of s k ≡ accepted a c) where
  pub sizes_are_counts : (o : Section) → size_of (image_of s) o ≡ count_of c o
  sizes_are_counts = Starts.sizes_are_counts s k a c e

  pub starts_expression : (i : ℕ) → i < c.expressions → Starts.StandsAt s Expressions i (slice_index (starts_of s k) i)
  starts_expression = Starts.starts_expression s k a c e

  pub starts_statement : (i : ℕ) → i < c.statements → Starts.StandsAt s Statements i (slice_index (starts_of s k) (c.expressions + i))
  starts_statement = Starts.starts_statement s k a c e

-- ---- where the bytes of a list entry and of a text stand (Access)

module _ (s : List ℕ) (k : ℕ) (a : ArenaNo) (c : Counts) (e : answer_of s k ≡ accepted a c) where
  pub entry_of_lem : (n : ℕ) → n < c.lists → entry_at s c n ≡ entry_of (image_of s) n
  entry_of_lem = Access.entry_of_lem s k a c e

  pub text_of_lem : (t : ℕ) → t < c.texts → take (u16_at s (text_bytes_at + c.bytes + t * 5 + 1 + 2)) (drop (text_bytes_at + u16_at s (text_bytes_at + c.bytes + t * 5 + 1)) s) ≡ text_of (image_of s) t
  text_of_lem = Access.text_of_lem s k a c e

-- ---- the image that bytes, starts and counts give, of accepted bytes (Found; rl_records has the functions, which answer for all bytes)

pub found_is_image : (s : List ℕ) (k : ℕ) (a : ArenaNo) (c : Counts) → answer_of s k ≡ accepted a c → image_found s (starts_of s k) c ≡ image_of s
found_is_image = Found.found_is_image

-- ---- the steps of a run at two budgets (Steps)

module _ {Text : Type 0} (bytes : Text → List ℕ) where
  -- Exact: of a run at the budgets n and n + k, either both go alike, k more being left, or n is spent and n + k is too or is left with less
  -- than k
  pub eval_exact : (e : Expr Text) → Steps.Exact (eval bytes e)
  eval_exact = Steps.evals bytes

  pub checks_exact : (r : Bool) (cs : List (Check Text)) → Steps.Exact (checks bytes r cs)
  checks_exact = Steps.checkses bytes

  -- plainly and checked
  pub stmt_exact : (m : Mode Text) (s : Stmt Text) → Steps.Exact (stmt bytes m s)
  stmt_exact = Steps.stmts bytes

  pub body_exact : (m : Mode Text) (b : Body Text) → Steps.Exact (body bytes m b)
  body_exact = Steps.bodies bytes

  pub top_exact : (m : Mode Text) (b : Body Text) → Steps.Exact (top bytes m b)
  top_exact = Steps.tops bytes

  -- a loop is its unfolding: a step, a turn, and the loop again
  pub while_unfolds : (m : Mode Text) (e : Expr Text) (b : Body Text) (env : Env Text) (n : ℕ) → repeat (while_turn bytes e (body bytes m b)) env n ≡ (tick >> while_turn bytes e (body bytes m b) (repeat (while_turn bytes e (body bytes m b)))) env n
  while_unfolds = Steps.while_unfolds bytes

  pub loop_unfolds : (m : Mode Text) (b : Body Text) (env : Env Text) (n : ℕ) → repeat (loop_turn (body bytes m b)) env n ≡ (tick >> loop_turn (body bytes m b) (repeat (loop_turn (body bytes m b)))) env n
  loop_unfolds = Steps.loop_unfolds bytes

-- ---- another account of the texts that keeps their bytes (Texts, TextRuns): a mapped tree in mapped bindings runs as the tree does, mapped

module _ {A B : Type 0} (f : A → B) (bytesA : A → List ℕ) (bytesB : B → List ℕ) (keeps : (t : A) → bytesB (f t) ≡ bytesA t) where
  pub eval_mapped : (e : Expr A) (env : Env A) (n : ℕ) → eval bytesB (map_expr f e) (Texts.map_env f env) n ≡ Texts.map_result f (map_value f) (eval bytesA e env n)
  eval_mapped e = (Texts.evals f bytesA bytesB keeps e).runs

  -- statements and bodies plainly and checked
  pub stmt_mapped : (m : Mode A) (s : Stmt A) (env : Env A) (n : ℕ) → stmt bytesB (TextRuns.map_mode f m) (map_stmt f s) (Texts.map_env f env) n ≡ Texts.map_result f Texts.same (stmt bytesA m s env n)
  stmt_mapped m s = (TextRuns.stmts f bytesA bytesB keeps m s).runs

  pub body_mapped : (m : Mode A) (b : Body A) (env : Env A) (n : ℕ) → body bytesB (TextRuns.map_mode f m) (map_body f b) (Texts.map_env f env) n ≡ Texts.map_result f Texts.same (body bytesA m b env n)
  body_mapped m b = (TextRuns.bodies f bytesA bytesB keeps m b).runs

  pub top_mapped : (m : Mode A) (b : Body A) (env : Env A) (n : ℕ) → top bytesB (TextRuns.map_mode f m) (map_body f b) (Texts.map_env f env) n ≡ Texts.map_result f (map_value f) (top bytesA m b env n)
  top_mapped m b = (TextRuns.tops f bytesA bytesB keeps m b).runs

  pub run_mapped : (g : Function A) (vs : List (Value A)) (budget : ℕ) → run_function bytesB (TextRuns.map_function f g) (map (map_value f) vs) budget ≡ TextRuns.map_ended f (run_function bytesA g vs budget)
  run_mapped = TextRuns.run_mapped f bytesA bytesB keeps

  pub reading_mapped : (ret : A) (g : Function A) (vs : List (Value A)) (budget : ℕ) → reading bytesB (f ret) (TextRuns.map_function f g) (map (map_value f) vs) budget ≡ TextRuns.map_ended f (reading bytesA ret g vs budget)
  reading_mapped = TextRuns.reading_mapped f bytesA bytesB keeps

  -- a call with mapped contracts and arguments has the reports that it had (ProvesTexts)
  pub prove_mapped : (c : FnContracts A) (args : List (Expr A)) → prove_call bytesB (map_contracts f c) (map (map_expr f) args) ≡ prove_call bytesA c args
  prove_mapped = ProvesTexts.prove_mapped f bytesA bytesB keeps
