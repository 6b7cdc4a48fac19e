-- The bytes that lowering writes: they are those of a well-formed image, accepted, and they stand for the original's records followed by
-- the new ones.
-- Assumes nothing.
use Rattle.std.specs.Prelude.{◌≡◌, ℕ, ◌-◌, ◌<◌, List, length, take, replicate, refl, Ok, Err}
use Rattle.std.proofs.Common.{ap, sym, ◌∙◌, subst, arith}
use Rattle.std.proofs.Math.Seq.{take-append_seam}
use Rattle.rl_spec.specs.Answers.{accepted, LowerAnswer}
use Rattle.rl_spec.specs.declared.Section.TheVariants.{Functions}
use Rattle.rl_spec.specs.Read.{answer_of}
use Rattle.rl_spec.specs.Image.{Image, size_of, encode, image_of, AllBytes, WellFormed}
use Rattle.rl_spec.specs.Lowerer.{Lowering, lower_of, lower_answer, lower_out}
use Rattle.rl_images.specs.Encoding.ReaderKnows.{counts}
use Rattle.rl_images.specs.Reading.Starts.{sizes_are_counts}
use Rattle.rl_images.specs.Encoding.Accepted.{accepted_long, accepted_well_formed}
use Rattle.rl_images.specs.Lowering.Grows.{eight_sections}
use Rattle.rl_images.specs.Lowering.Followed.{Followed, lowered_followed}
use Rattle.rl_theorems.specs.Images.LoweredWellFormed.{lowered_well_formed, lowered_accepted}
use Rattle.rl_theorems.specs.DemandThree.LowerAnswers.{Made, made_for}

abbrev size_in : LowerAnswer → ℕ
size_in (Ok n) = n
size_in (Err r) = 0

abbrev IsLowered : LowerAnswer → Type 0
IsLowered (Ok n) = Unit {0}
IsLowered (Err r) = ⊥

written : (room : ℕ) (im' : Image) → take (length (encode im')) (lower_out room (Ok im')) ≡ encode im'
written room im' = take-append_seam (encode im') (replicate (room - length (encode im')) 0)

-- where lowering answers a length, it made an image, whose bytes stand in the output slice at that length
pub out_made : (s : List ℕ) (k f room n : ℕ) → lower_answer (lower_of s k f room) ≡ Ok n →
    (im' : Image) × (lower_of s k f room ≡ Ok im') × (take n (lower_out room (lower_of s k f room)) ≡ encode im')
out_made s k f room n e = go (lower_of s k f room) refl e
  where
    go : (l : Lowering) → lower_of s k f room ≡ l → lower_answer l ≡ Ok n →
        (im' : Image) × (lower_of s k f room ≡ Ok im') × (take n (lower_out room l) ≡ encode im')
    go (Ok im') d q =
        (im', d, ap (λ m. take m (lower_out room (Ok im'))) (sym (ap size_in q)) ∙ written room im')
    go (Err r) d q = absurd (subst IsLowered (sym q) tt)

module _ (s : List ℕ) (k f room : ℕ) (im' : Image) (bytes : AllBytes s) (e : lower_of s k f room ≡ Ok im') where
  by : Made s k f room im'
  by = made_for s k f room im' e

  -- the original is well formed
  pub original_well_formed : WellFormed (image_of s)
  original_well_formed = accepted_well_formed s k by.arena by.counts bytes by.accepted

  -- the function is there
  pub function_there : f < size_of (image_of s) Functions
  function_there = omega (arith, by.there, sizes_are_counts s k by.arena by.counts by.accepted Functions)

  -- THEOREMS
  pub made_well_formed : WellFormed im'
  made_well_formed = lowered_well_formed (image_of s) im' f original_well_formed function_there by.low by.lower by.is

  pub made_accepted : (answer_of (encode im') k ≡ accepted (record { 0 = im'.arena }) (counts im')) × (image_of (encode im') ≡ im')
  made_accepted =
      lowered_accepted (image_of s) im' f k original_well_formed function_there by.low by.lower by.is
      (accepted_long s k by.arena by.counts by.accepted)

  pub made_followed : Followed (image_of s) f im'
  made_followed = lowered_followed (image_of s) im' f (eight_sections (image_of s) original_well_formed) by.is

  -- they are what the output slice begins with
  pub made_written : take (length (encode im')) (lower_out room (lower_of s k f room)) ≡ encode im'
  made_written = ap (λ l. take (length (encode im')) (lower_out room l)) e ∙ written room im'
