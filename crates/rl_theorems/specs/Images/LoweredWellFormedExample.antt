-- A function with contracts that meets the premises of LoweredWellFormed.
-- Assumes nothing.
use Rattle.std.specs.Prelude.{◌≡◌, refl}
use Rattle.std.proofs.Math.Option.{some}
use Rattle.std.proofs.Common.{lit<, lit≤}
use Rattle.rl_spec.specs.declared.Section.TheVariants.{Expressions, Statements}
use Rattle.rl_spec.specs.Image.{Image, tallest_entry, tallest_child, heights_from, heights, encode, record_in, records_in, next_at, end_at, fields_at, sections_in, image_of, widths_of, WellFormed}
use Rattle.rl_spec.specs.Lower.{lowered}
use Rattle.rl_theorems.specs.Reading.EncodedAnswers.{well_formed_by}
use Rattle.rl_examples.specs.LowerExamples.{requires_identifier, lowering, decoding}
use Rattle.rl_theorems.specs.Images.FunctionReady.{Under}
use Rattle.rl_theorems.specs.Images.LoweredWellFormed.{lowered_well_formed}

original : WellFormed requires_identifier
unfolding lowering decoding image_of sections_in records_in record_in next_at end_at fields_at widths_of
original = well_formed_by (encode requires_identifier) _ _ refl refl

low : Under 64 (heights requires_identifier Expressions)
unfolding lowering heights heights_from tallest_child tallest_entry
low = (lit≤ tt, tt)

lower : Under 32 (heights requires_identifier Statements)
unfolding lowering heights heights_from tallest_child tallest_entry
lower = tt

-- what it is lowered to, LowerExamples' case10-whole, is well formed
pub example_lowered : (im : Image) → lowered requires_identifier 0 ≡ some im → WellFormed im
example_lowered im e = lowered_well_formed requires_identifier im 0 original (lit< tt) low lower e
