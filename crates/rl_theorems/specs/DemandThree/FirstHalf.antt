-- DEMAND 3, FIRST HALF, from bytes to bytes: where the runner refuses the original's run, it refuses the lowered body's by the same
-- number; otherwise the run of the lowered bytes and the contract reading of the original have equal outcome and steps used, and
-- equal value, message or number, texts by bytes. Lowering has a work slice of k entries, the two runs one of k'.
-- Assumes nothing.
use Rattle.std.specs.Prelude.{◌≡◌, ℕ, true, List, map, take, Ok}
use Rattle.std.proofs.Math.Path.{ap}
use Rattle.std.proofs.Common.{sym, ◌∙◌, subst}
use Rattle.rl_spec.specs.declared.Arguments.{Arguments}
use Rattle.rl_spec.specs.declared.Cause.{Cause}
use Rattle.rl_spec.specs.Answers.{ran, refused}
use Rattle.rl_spec.specs.declared.Outcome.{Outcome}
use Rattle.rl_spec.specs.Read.{counts_of}
use Rattle.rl_spec.specs.Image.{Image, text_of, encode, image_of, AllBytes, WellFormed}
use Rattle.rl_spec.specs.Run as run
use Rattle.rl_spec.specs.Reading.{run_function}
use Rattle.rl_spec.specs.Mapped.{map_value}
use Rattle.rl_spec.specs.Functions.{contract_function, reading_in}
use Rattle.rl_spec.specs.Lowerer.{lower_of, lower_answer, lower_out}
use Rattle.rl_spec.specs.Runner.{outcome_in, all_have, given, values_of, run_of}
use Rattle.rl_images.specs.Reading.Decode.{accepted_encodes}
use Rattle.rl_theorems.specs.Lowering.LoweredRuns.{Premises}
use Rattle.rl_theorems.specs.Lowering.LoweredFunctions.{lowered_reads}
use Rattle.rl_theorems.specs.Lowering.LoweredArguments.{Keeps, followed_keeps}
use Rattle.rl_theorems.specs.DemandThree.LowerAnswers.{Made, made_for}
use Rattle.rl_theorems.specs.DemandThree.LoweredBytes.{out_made, original_well_formed, function_there, made_well_formed, made_accepted, made_followed}
use Rattle.rl_theorems.specs.DemandThree.KeptRuns.{Whole, refused_alike, runs_alike}

module _ (s : List ℕ) (k f room : ℕ) (im' : Image) (bytes : AllBytes s) (e : lower_of s k f room ≡ Ok im') where
  abbrev im : Image
  im = image_of s

  by : Made s k f room im'
  by = made_for s k f room im' e

  same : image_of (encode im') ≡ im'
  same = (made_accepted s k f room im' bytes e).1

  -- both are bytes of well-formed images, and the second keeps the texts and the parameters of the first
  pub original_whole : Whole s
  original_whole =
      record {
        well_formed = original_well_formed s k f room im' bytes e;
        bytes = accepted_encodes s k by.arena by.counts bytes by.accepted;
      }

  pub made_whole : Whole (encode im')
  made_whole = record { well_formed = subst WellFormed (sym same) (made_well_formed s k f room im' bytes e); bytes = ap encode same }

  pub made_keeps : Keeps im (image_of (encode im'))
  made_keeps =
      subst (Keeps im) (sym same)
      (followed_keeps im im' f (original_well_formed s k f room im' bytes e) (made_followed s k f room im' bytes e))

  module _ (k' : ℕ) (args : Arguments) (budget : ℕ) (texts : all_have (counts_of s) (given args) ≡ true) where
    -- THEOREM: where the runner refuses the original's run, it refuses the lowered one's by the same number, at the same place
    pub first_half_refused : (q : Cause) (p : ℕ) → run_of s k' f args budget ≡ refused q p → run_of (encode im') k' f args budget ≡ refused q p
    first_half_refused = refused_alike s (encode im') original_whole made_whole made_keeps k' f args budget texts

    -- THEOREM: where it does not, both run, and the lowered body's run is the original's contract reading
    pub first_half : Premises (contract_function im f) → (o : Outcome) (n : ℕ) → run_of s k' f args budget ≡ ran o n →
        (o' : Outcome) × (n' : ℕ) × (run_of (encode im') k' f args budget ≡ ran o' n')
        × ((outcome_in (image_of (encode im')) o', n') ≡ reading_in im f (values_of (given args)) budget)
    unfolding reading_in
    first_half h o n r =
        let x = runs_alike s (encode im') original_whole made_whole made_keeps k' f args budget texts o n r in
        let vs = map (map_value (text_of im)) (values_of (given args)) in
        let reads = lowered_reads im im' f original_whole.well_formed (function_there s k f room im' bytes e) by.is h.last h.ensures vs budget in (
          x.0,
          x.1,
          x.2,
          x.3 ∙ ap (λ g. run.used budget (run_function (λ t. t) (contract_function g f) vs budget)) same ∙ ap (run.used budget) reads,
        )

-- the same of the bytes that stand in the output slice at the length that lowering answers
module _ (s : List ℕ) (k f room n : ℕ) (bytes : AllBytes s) (e : lower_answer (lower_of s k f room) ≡ Ok n) (k' : ℕ) (args : Arguments)
    (budget : ℕ) (texts : all_have (counts_of s) (given args) ≡ true) where
  abbrev out : List ℕ
  out = take n (lower_out room (lower_of s k f room))

  there : (im' : Image) × (lower_of s k f room ≡ Ok im') × (out ≡ encode im')
  there = out_made s k f room n e

  -- THEOREMS
  pub out_refused : (q : Cause) (p : ℕ) → run_of s k' f args budget ≡ refused q p → run_of out k' f args budget ≡ refused q p
  out_refused q p r = rw there.2 (first_half_refused s k f room there.0 bytes there.1 k' args budget texts q p r)

  pub out_reads : Premises (contract_function (image_of s) f) → (o : Outcome) (m : ℕ) → run_of s k' f args budget ≡ ran o m →
      (o' : Outcome) × (m' : ℕ) × (run_of out k' f args budget ≡ ran o' m')
      × ((outcome_in (image_of out) o', m') ≡ reading_in (image_of s) f (values_of (given args)) budget)
  out_reads h o m r = rw there.2 (first_half s k f room there.0 bytes there.1 k' args budget texts h o m r)
