-- What proving writes into the slice. Assumes nothing.
use Rattle.std.specs.Prelude.{ℕ, ◌-◌, ◌/◌, ◌≤◌, cond, List, [], ltb, Ok}
use Rattle.rl_spec.specs.declared.Cause.TheVariants.{ReportsTooShort}
use Rattle.rl_spec.specs.declared.Counts.{Counts}
use Rattle.rl_spec.specs.Answers.{ProveAnswer, refused}
use Rattle.rl_spec.specs.Image.{Image, text_of}
use Rattle.rl_spec.specs.Records.{function_at}
use Rattle.rl_spec.specs.Prove.{all_entries}
use Rattle.rl_names.specs.Names.{Classes}
use Rattle.rl_prover.specs.Reports.{Shown}
use Rattle.rl_prover.specs.Calls.{Room}

-- the limits of an accepted image that proving leans on
pub record Limited (im : Image) (c : Counts) : Type 0 where
  pub texts : c.texts ≤ 2048
  pub parameters : (f : ℕ) → (function_at im f).params.count ≤ 256

-- the reports of the calls from the first to before the end
abbrev pub ProvesEach : Image → List ℕ → ℕ → ℕ → List ℕ → List ℕ → List ℕ → ℕ → Type 0
ProvesEach im cs first end w l out r =
    Classes (text_of im) cs → Room im w → Shown l [] 0 → Shown out (all_entries im (end - first) first) r

abbrev pub ProvesCalls : Image → Counts → ℕ → ℕ → List ℕ → List ℕ → ℕ → Type 0
ProvesCalls im c first end l out r = Limited im c → Shown l [] 0 → Shown out (all_entries im (end - first) first) r

-- for entries up to a place, the answer
unfoldable pub fitting_at : ℕ → ℕ → ProveAnswer
fitting_at room at = cond (ltb room at) (refused ReportsTooShort 0) (Ok (at / 4))
