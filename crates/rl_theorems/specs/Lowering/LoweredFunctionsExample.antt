-- A function that meets the premises of LoweredFunctions: a result function that ensures something and returns.
-- Assumes nothing.
use Rattle.std.specs.Prelude.{◌≡◌, ℕ, List, refl}
use Rattle.std.proofs.Math.Option.{some}
use Rattle.std.proofs.Common.{lit<}
use Rattle.rl_spec.specs.Image.{Image, encode, record_in, records_in, next_at, end_at, fields_at, sections_in, image_of, widths_of, WellFormed}
use Rattle.rl_spec.specs.Tree.{ascii}
use Rattle.rl_spec.specs.Mapped.{Text}
use Rattle.rl_spec.specs.Functions.{contract_function}
use Rattle.rl_spec.specs.Run.{Value}
use Rattle.rl_spec.specs.Reading.{run_function, reading}
use Rattle.rl_spec.specs.Lower.{lowered}
use Rattle.rl_theorems.specs.Reading.EncodedAnswers.{well_formed_by}
use Rattle.rl_examples.specs.LowerExamples.{returns_ok, lowering, decoding, running}
use Rattle.rl_theorems.specs.Lowering.LowerBodies.{Ensured}
use Rattle.rl_theorems.specs.Lowering.LowerFrame.{begins, CleanChecks}
use Rattle.rl_theorems.specs.Lowering.LoweredFunctions.{lowered_reads}

original : WellFormed returns_ok
unfolding lowering decoding image_of sections_in records_in record_in next_at end_at fields_at widths_of
original = well_formed_by (encode returns_ok) _ _ refl refl

only : Ensured (contract_function returns_ok 0).ensures (contract_function returns_ok 0).body
unfolding lowering running
only = tt

clean : CleanChecks (contract_function returns_ok 0).ensures
unfolding lowering running CleanChecks begins
clean = (refl, tt, tt)

-- what it is lowered to, LowerExamples' case11-whole, runs as the function is read
pub example_reads : (im : Image) → lowered returns_ok 0 ≡ some im → (vs : List (Value Text)) (budget : ℕ) →
    run_function (λ t. t) (contract_function im 0) vs budget
    ≡ reading (λ t. t) (ascii "ret") (contract_function returns_ok 0) vs budget
example_reads im e = lowered_reads returns_ok im 0 original (lit< tt) e only clean
