-- `prove_call` of rl-checker's contracts.rs, and what proving answers. T is the type of texts, and `bytes` gives a text's bytes.
use Rattle.std.specs.Prelude.{ℕ, zero, suc, ◌+◌, ◌-◌, ◌/◌, Bool, true, false, cond, List, [], ◌∷◌, ◌++◌, length, replicate, nat_lt, Ok, Err}
use Rattle.std.proofs.Math.Option.{Option, none, some}
use Rattle.rl_spec.specs.Answers.{Answer, refused, ProveAnswer}
use Rattle.rl_spec.specs.declared.Cause.TheVariants.{NoSuchCall, ReportsTooShort}
use Rattle.rl_spec.specs.declared.Violation.{Violation}
use Rattle.rl_spec.specs.declared.Violation.TheVariants.{Refinement, Requires}
use Rattle.rl_spec.specs.Read.{number_of, counts_of, answer_of}
use Rattle.rl_spec.specs.Image.{Image, text_of, image_of}
use Rattle.rl_spec.specs.Values as value
use Rattle.rl_spec.specs.Values.{ConstVal, RefineOp, compare_values}
use Rattle.rl_spec.specs.Tree.{Expr}
use Rattle.rl_spec.specs.Records.{call_at}
use Rattle.rl_spec.specs.Fold.{Binding, lookup, const_eval}
use Rattle.rl_spec.specs.FnContracts.{RefineOperand, integer, str, bool, param, ParamRefinement, Param, ContractClause, FnContracts, contracts_of, callee_of, arguments_of}

-- an argument without a value binds nothing
abbrev pub bound : {T : Type 0} → T → Option (ConstVal T) → List (Binding T) → List (Binding T)
bound x none env = env
bound x (some v) env = record { name = x; value = v } ∷ env

-- a verdict, or a value, that is false
abbrev pub is_no : Option Bool → Bool
is_no none = false
is_no (some true) = false
is_no (some false) = true

abbrev pub is_false : {T : Type 0} → Option (ConstVal T) → Bool
is_false none = false
is_false (some (value.int x)) = false
is_false (some (value.float x)) = false
is_false (some (value.str x)) = false
is_false (some (value.bool true)) = false
is_false (some (value.bool false)) = true

-- a report ahead of others, if there is one
abbrev pub report : Bool → Violation → List Violation → List Violation
report true v vs = v ∷ vs
report false v vs = vs

module _ {T : Type 0} (bytes : T → List ℕ) where
  -- the first pass: each argument under the names found so far, up to the shorter list
  unfoldable pub bind_arguments : List (Binding T) → List (Param T) → List (Expr T) → List (Binding T)
  bind_arguments env [] args = env
  bind_arguments env (p ∷ ps) [] = env
  bind_arguments env (p ∷ ps) (a ∷ args) = bind_arguments (bound p.name (const_eval bytes env a) env) ps args

  unfoldable pub refine_bound : List (Binding T) → RefineOperand T → Option (ConstVal T)
  refine_bound env (integer x) = some (value.int x)
  refine_bound env (str x) = some (value.str x)
  refine_bound env (bool x) = some (value.bool x)
  refine_bound env (param x) = lookup bytes env x

  -- whether a value provably fails a comparison; one that is missing fails none
  unfoldable pub refutes : RefineOp → Option (ConstVal T) → Option (ConstVal T) → Bool
  refutes op none expected = false
  refutes op (some x) none = false
  refutes op (some x) (some y) = is_no (compare_values bytes op x y)

  -- whether an argument provably fails the refinement of its parameter
  unfoldable pub fails_at : List (Binding T) → Option (ParamRefinement T) → Expr T → Bool
  fails_at env none a = false
  fails_at env (some r) a = refutes r.op (const_eval bytes env a) (refine_bound env r.operand)

  -- the second pass: each argument under all names
  unfoldable pub failed_refinements : List (Binding T) → ℕ → List (Param T) → List (Expr T) → List Violation
  failed_refinements env n [] args = []
  failed_refinements env n (p ∷ ps) [] = []
  failed_refinements env n (p ∷ ps) (a ∷ args) =
      report (fails_at env p.refinement a) (Refinement n) (failed_refinements env (n + 1) ps args)

  unfoldable pub failed_requires : List (Binding T) → ℕ → List (ContractClause T) → List Violation
  failed_requires env n [] = []
  failed_requires env n (c ∷ cs) =
      report (is_false (const_eval bytes env c.condition)) (Requires n) (failed_requires env (n + 1) cs)

  unfoldable pub prove_call : FnContracts T → List (Expr T) → List Violation
  prove_call f args =
      failed_refinements (bind_arguments [] f.params args) 0 f.params args
      ++ failed_requires (bind_arguments [] f.params args) 0 f.requires

-- ---- the reports of a call of an image

abbrev pub violations_by : Image → ℕ → Option ℕ → List Violation
violations_by im call none = []
violations_by im call (some f) = prove_call (text_of im) (contracts_of im f) (arguments_of im call)

unfoldable pub violations_of : Image → ℕ → List Violation
violations_of im call = violations_by im call (callee_of im call)

-- ---- THE ANSWER: reading first, then 17 no such call, 18 fewer than four entries a report

-- a report's four entries
abbrev pub entries_by : ℕ → ℕ → Violation → List ℕ
entries_by call span (Refinement n) = call ∷ span ∷ 0 ∷ n ∷ []
entries_by call span (Requires n) = call ∷ span ∷ 1 ∷ n ∷ []

unfoldable pub report_entries : ℕ → ℕ → List Violation → List ℕ
report_entries call span [] = []
report_entries call span (v ∷ vs) = entries_by call span v ++ report_entries call span vs

-- the reports of a call, in entries; and those of n calls from the k-th on
unfoldable pub call_entries : Image → ℕ → List ℕ
call_entries im call = report_entries call (call_at im call).span (violations_of im call)

unfoldable pub all_entries : Image → ℕ → ℕ → List ℕ
all_entries im zero k = []
all_entries im (suc n) k = call_entries im k ++ all_entries im n (k + 1)

-- the answer for the entries e and a slice of so many
abbrev pub fitting : ℕ → List ℕ → ProveAnswer
fitting room e = cond (nat_lt room (length e)) (refused ReportsTooShort 0) (Ok (length e / 4))

-- the slice: the entries, then zeros; all zero where something is refused
abbrev pub slice_by : ℕ → List ℕ → ProveAnswer → List ℕ
slice_by room e (Ok n) = e ++ replicate (room - length e) 0
slice_by room e (Err r) = replicate room 0

-- one call
abbrev pub prove_from : List ℕ → ℕ → ℕ → Answer → ProveAnswer
prove_from s call room (Ok h) =
    cond (nat_lt call h.counts.calls) (fitting room (call_entries (image_of s) call)) (refused NoSuchCall 0)
prove_from s call room (Err r) = Err r

unfoldable pub prove_of : List ℕ → ℕ → ℕ → ℕ → ProveAnswer
prove_of s k call room = prove_from s call room (answer_of s k)

unfoldable pub reports_of : List ℕ → ℕ → ℕ → ℕ → List ℕ
reports_of s k call room = slice_by room (call_entries (image_of s) call) (prove_of s k call room)

-- all calls, in order
abbrev pub prove_all_from : List ℕ → ℕ → Answer → ProveAnswer
prove_all_from s room (Ok h) = fitting room (all_entries (image_of s) h.counts.calls 0)
prove_all_from s room (Err r) = Err r

unfoldable pub prove_all_of : List ℕ → ℕ → ℕ → ProveAnswer
prove_all_of s k room = prove_all_from s room (answer_of s k)

unfoldable pub all_reports_of : List ℕ → ℕ → ℕ → List ℕ
all_reports_of s k room = slice_by room (all_entries (image_of s) (counts_of s).calls 0) (prove_all_of s k room)

abbrev pub prove_number : ProveAnswer → ℕ
prove_number (Ok n) = 0
prove_number (Err r) = number_of r.cause
