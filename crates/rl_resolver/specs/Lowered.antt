-- What lowering an image that was read answers and leaves.
use Rattle.std.specs.Prelude.{ℕ, ◌≡◌, true, List, ◌++◌, length, drop, Ok, Err}
use Rattle.rl_spec.specs.declared.Counts.{Counts}
use Rattle.rl_spec.specs.Answers.{LowerAnswer}
use Rattle.rl_spec.specs.Image.{Image, encode}
use Rattle.rl_spec.specs.Lower.{new_body, start, finished, lowered}
use Rattle.rl_spec.specs.Lowerer.{Lowering, or_limit, lower_answer}
use Rattle.rl_records.specs.declared.ImageRef.{ImageRef}
use Rattle.rl_records.specs.Found.{found}
use Rattle.rl_assemble.specs.Pieces.{Source}
use Rattle.rl_assemble.specs.Written.{Assembled, Written}
use Rattle.rl_admission.specs.Lowering.{lowering_admission, lowering_or}

-- an image as it was read
abbrev pub source_of : ImageRef → Type 0
source_of image = Source (found image) image.bytes.now image.starts.now image.counts

-- the image with a function's new body is put
abbrev pub Finished : Image → ℕ → List ℕ → Assembled → List ℕ → Type 0
Finished im f out r after = Written (finished true f (new_body im f (start im f))) out r after

-- the checks, by the heights in the work slice, then the lowered image
abbrev pub lowering_in : List ℕ → Counts → ℕ → ℕ → Image → Lowering
lowering_in work c f room im = lowering_or (lowering_admission work c f room) (or_limit (lowered im f))

-- an image's bytes at the front of a slice, or the slice as it was
abbrev pub put_over : Lowering → List ℕ → List ℕ
put_over (Ok im) out = encode im ++ drop (length (encode im)) out
put_over (Err r) out = out

pub record Lowered (x : Lowering) (out : List ℕ) (r : LowerAnswer) (after : List ℕ) : Type 0 where
  pub answer : r ≡ lower_answer x
  pub bytes : after ≡ put_over x out
