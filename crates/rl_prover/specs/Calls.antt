-- What proving a call writes. Assumes nothing.
use Rattle.std.specs.Prelude.{ℕ, ◌*◌, ◌≤◌, ◌<◌, List, ◌++◌, length}
use Rattle.rl_spec.specs.declared.Interval.{Interval}
use Rattle.rl_spec.specs.Image.{Image, text_of}
use Rattle.rl_spec.specs.Records.{function_at, call_at}
use Rattle.rl_spec.specs.FnContracts.{contracts_of}
use Rattle.rl_spec.specs.Prove.{prove_call, violations_of, report_entries}
use Rattle.rl_names.specs.Names.{Classes}
use Rattle.rl_prover.specs.Passes.{args_in}
use Rattle.rl_prover.specs.Reports.{Shown}

-- room for the parameters of each function
abbrev pub Room : Image → List ℕ → Type 0
Room im w = (f : ℕ) → (function_at im f).params.count * 3 ≤ length w

abbrev pub ProvesCallee : Image → List ℕ → ℕ → Interval → ℕ → ℕ → List ℕ → List ℕ → ℕ → List ℕ → ℕ → Type 0
ProvesCallee im cs f args call span w l start out r =
    Classes (text_of im) cs → Room im w → (e : List ℕ) → Shown l e start →
    Shown out (e ++ report_entries call span (prove_call (text_of im) (contracts_of im f) (args_in im args))) r

abbrev pub ProvesCall : Image → List ℕ → ℕ → List ℕ → List ℕ → ℕ → List ℕ → ℕ → Type 0
ProvesCall im cs call w l start out r =
    start < 1125899906842624 → Classes (text_of im) cs → Room im w → (e : List ℕ) → Shown l e start →
    Shown out (e ++ report_entries call (call_at im call).span (violations_of im call)) r
