-- The lines of a call, and what stands in lent slices. Assumes nothing.
use Rattle.std.specs.Prelude.{ℕ, ◌-◌, ◌<◌, ◌≡◌, List, ◌++◌, length, get_or, replicate}
use Rattle.std.proofs.Math.Option.{Option, none, some}
use Rattle.rl_spec.specs.declared.Violation.{Violation}
use Rattle.rl_spec.specs.declared.Violation.TheVariants.{Refinement}
use Rattle.rl_spec.specs.Image.{Image}
use Rattle.rl_spec.specs.Records.{call_at}
use Rattle.rl_spec.specs.FnContracts.{callee_of}
use Rattle.rl_spec.specs.Prove.{violations_of, report_entries, call_entries}
use Rattle.rl_images.specs.Images.Reports.{number_among}
use Rattle.rl_lines.specs.declared.lines.Lines.{Lines}

-- a list, then zeros up to a length
abbrev pub padded : ℕ → List ℕ → List ℕ
padded room l = l ++ replicate (room - length l) 0

abbrev pub function_or : Option ℕ → ℕ
function_or none = 0
function_or (some f) = f

unfoldable pub lines_for : Image → ℕ → Lines
lines_for im call =
    record {
      call = call;
      function = function_or (callee_of im call);
      span = (call_at im call).span;
      count = length (violations_of im call);
    }

-- the entries of its reports in a slice of 2,048
unfoldable pub entries_for : Image → ℕ → List ℕ
entries_for im call = padded 2048 (call_entries im call)

-- v is the i-th of the violations whose entries the slice begins with
abbrev pub ReportAt : List ℕ → ℕ → Violation → Type 0
ReportAt l i v =
    (call span : ℕ) (vs : List Violation) (zeros : List ℕ) → l ≡ report_entries call span vs ++ zeros → i < length vs →
    number_among (get_or vs i (Refinement 0)) < 65536 → v ≡ get_or vs i (Refinement 0)
