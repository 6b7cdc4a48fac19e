-- The words of the definitions for what may be missing or refused: each is an Option or a Result.
use Rattle.std.specs.Prelude.{ℕ, Bool, Option, Some, Result, Ok, Err}
use Rattle.rl_spec.specs.declared.Accepted.{Accepted}
use Rattle.rl_spec.specs.declared.ArenaNo.{ArenaNo}
use Rattle.rl_spec.specs.declared.Cause.{Cause}
use Rattle.rl_spec.specs.declared.ConstVal.{ConstVal}
use Rattle.rl_spec.specs.declared.Counts.{Counts}
use Rattle.rl_spec.specs.declared.Next.{Next}
use Rattle.rl_spec.specs.declared.Outcome.{Outcome}
use Rattle.rl_spec.specs.declared.RefineOp.{RefineOp}
use Rattle.rl_spec.specs.declared.RefineOperand.{RefineOperand}
use Rattle.rl_spec.specs.declared.Refinement.{Refinement}
use Rattle.rl_spec.specs.declared.Refusal.{Refusal}
use Rattle.rl_spec.specs.declared.Run.{Run}
use Rattle.rl_spec.specs.declared.TextPart.{TextPart}

-- ---- an index, a folded value, what a comparison says, a parameter's refinement

abbrev pub Optional : Type 0
Optional = Option ℕ

abbrev pub Folded : Type 0
Folded = Option ConstVal

abbrev pub Verdict : Type 0
Verdict = Option Bool

abbrev pub ParamRefinement : Type 0
ParamRefinement = Option Refinement

abbrev pub refined : RefineOp → RefineOperand → ParamRefinement
refined op operand = Some (record { op = op; operand = operand })

-- ---- a refusal

-- of an argument other than the image
abbrev pub at_zero : Cause → Refusal
at_zero c = record { cause = c; place = 0 }

abbrev pub refused : {A : Type 0} → Cause → ℕ → Result A Refusal
refused c q = Err (record { cause = c; place = q })

-- ---- a field: the greatest height of a child so far. Records: the next place beside it

abbrev pub Check : Type 0
Check = Result ℕ Cause

abbrev pub Step : Type 0
Step = Result Next Refusal

abbrev pub goes_on : ℕ → ℕ → Step
goes_on at tall = Ok (record { at = at; tall = tall })

-- ---- the answers: of reading, of folding, of proving (how many reports), of lowering (the image's length), of a text, of a message (its
-- length), of pages (how many bytes), of a run

abbrev pub Answer : Type 0
Answer = Result Accepted Refusal

abbrev pub accepted : ArenaNo → Counts → Answer
accepted a c = Ok (record { arena = a; counts = c })

abbrev pub FoldAnswer : Type 0
FoldAnswer = Result Folded Refusal

abbrev pub ProveAnswer : Type 0
ProveAnswer = Result ℕ Refusal

abbrev pub LowerAnswer : Type 0
LowerAnswer = Result ℕ Refusal

abbrev pub TextAnswer : Type 0
TextAnswer = Result TextPart Refusal

abbrev pub MessageAnswer : Type 0
MessageAnswer = Result ℕ Refusal

abbrev pub PagesAnswer : Type 0
PagesAnswer = Result ℕ Refusal

abbrev pub RunAnswer : Type 0
RunAnswer = Result Run Refusal

abbrev pub ran : Outcome → ℕ → RunAnswer
ran o n = Ok (record { outcome = o; steps = n })
