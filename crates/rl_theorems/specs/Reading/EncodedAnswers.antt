-- What folding, proving, lowering and running answer for the bytes of a well-formed image; and of bytes that are accepted by
-- computation.
-- Assumes nothing.
use Rattle.std.specs.Prelude.{◌≡◌, ℕ, ◌-◌, ◌/◌, ◌<◌, ◌≤◌, Bool, true, false, cond, List, [], ◌∷◌, ◌++◌, length, replicate, nat_lt, Ok}
use Rattle.std.proofs.Math.Path.{refl}
use Rattle.std.proofs.Common.{sym, ◌∙◌, lit≤}
use Rattle.std.proofs.lemmas.Bool.{false≢true}
use borrow.Author.Tests.{lt-ltb, le-ltb, eq-eqb}
use Rattle.rl_laws.specs.Tests.{by_ltb}
use Rattle.rl_spec.specs.declared.ArenaNo.{ArenaNo}
use Rattle.rl_spec.specs.declared.Counts.{Counts}
use Rattle.rl_spec.specs.declared.Arguments.{Arguments}
use Rattle.rl_spec.specs.declared.Id.{Id}
use Rattle.rl_spec.specs.Answers.{accepted}
use Rattle.rl_spec.specs.declared.Section.TheVariants.{Expressions, Functions, Calls}
use Rattle.rl_spec.specs.Read.{answer_of}
use Rattle.rl_spec.specs.Image.{Image, size_of, text_of, encode, image_of, AllBytes, WellFormed}
use Rattle.rl_spec.specs.Folded.{as_folded}
use Rattle.rl_spec.specs.Tree.{expr_tree}
use Rattle.rl_spec.specs.Fold.{const_eval, fold_of}
use Rattle.rl_spec.specs.Prove.{call_entries, all_entries, fitting, slice_by, prove_of, reports_of, prove_all_of, all_reports_of}
use Rattle.rl_spec.specs.Lower.{lowered}
use Rattle.rl_spec.specs.Lowerer.{too_tall, or_limit, lower_of}
use Rattle.rl_spec.specs.Records.{function_at}
use Rattle.rl_spec.specs.Runner.{all_have, given, is_for, ran_in, run_of}
use Rattle.rl_images.specs.Reading.Decode.{accepted_encodes}
use Rattle.rl_images.specs.Encoding.ReaderKnows.{counts}
use Rattle.rl_images.specs.Encoding.Header.{counts_are}
use Rattle.rl_images.specs.Encoding.Encoded.{encoded_accepted, encoded_image}
use Rattle.rl_images.specs.Encoding.Accepted.{accepted_well_formed}

module _ (im : Image) (wf : WellFormed im) (k : ℕ) (long : 8192 ≤ k) where
  -- THEOREMS: folding a node
  pub folded_encoded : (n : ℕ) → n < size_of im Expressions → fold_of (encode im) k (record { arena = record { 0 = im.arena }; node = record { 0 = n } }) ≡ Ok (as_folded (const_eval (text_of im) [] (expr_tree im n)))
  unfolding fold_of
  folded_encoded n l =
      rw (
        encoded_accepted im k wf long,
        eq-eqb im.arena im.arena refl,
        lt-ltb n (size_of im Expressions) l,
        encoded_image im wf,
      )

  -- proving a call, with a slice of so many entries
  module _ (call room : ℕ) (l : call < size_of im Calls) where
    pub proved_encoded : prove_of (encode im) k call room ≡ fitting room (call_entries im call)
    unfolding prove_of
    proved_encoded =
        rw (encoded_accepted im k wf long, lt-ltb call (size_of im Calls) l, encoded_image im wf)

    pub reports_encoded : reports_of (encode im) k call room ≡ slice_by room (call_entries im call) (fitting room (call_entries im call))
    unfolding reports_of
    reports_encoded = rw (proved_encoded, encoded_image im wf)

  -- proving all calls
  module _ (room : ℕ) where
    pub all_proved_encoded : prove_all_of (encode im) k room ≡ fitting room (all_entries im (size_of im Calls) 0)
    unfolding prove_all_of
    all_proved_encoded = rw (encoded_accepted im k wf long, encoded_image im wf)

    pub all_reports_encoded : all_reports_of (encode im) k room ≡ slice_by room (all_entries im (size_of im Calls) 0) (fitting room (all_entries im (size_of im Calls) 0))
    unfolding all_reports_of
    all_reports_encoded = rw (all_proved_encoded, counts_are im wf, encoded_image im wf)

  -- lowering a function, with an output slice that is long enough
  pub lowered_encoded : (f room : ℕ) → f < size_of im Functions → too_tall im ≡ false → 65535 ≤ room → lower_of (encode im) k f room ≡ or_limit (lowered im f)
  unfolding lower_of
  lowered_encoded f room l low long' =
      rw (encoded_accepted im k wf long, lt-ltb f (size_of im Functions) l, encoded_image im wf, low, le-ltb room 65535 long')

  -- running a function, on as many values as it has parameters, whose texts the image has, with a budget that is taken
  pub ran_encoded : (f : ℕ) (args : Arguments) (budget : ℕ) → f < size_of im Functions → is_for args.count (function_at im f).params.count ≡ true → all_have (counts im) (given args) ≡ true → budget ≤ 1000000 → run_of (encode im) k f args budget ≡ ran_in im f (given args) budget
  unfolding run_of
  ran_encoded f args budget l fits have taken =
      rw (
        encoded_accepted im k wf long,
        lt-ltb f (size_of im Functions) l,
        encoded_image im wf,
        fits,
        have,
        le-ltb 1000000 budget taken,
      )

-- a slice that has room for the entries
module _ (room : ℕ) (e : List ℕ) (l : length e ≤ room) where
  pub fitting_room : fitting room e ≡ Ok (length e / 4)
  fitting_room = rw (le-ltb room (length e) l)

  pub slice_room : slice_by room e (fitting room e) ≡ e ++ replicate (room - length e) 0
  slice_room = rw fitting_room

-- ---- by computation, with the shortest work slice

abbrev pub are_bytes : List ℕ → Bool
are_bytes [] = true
are_bytes (b ∷ s) = cond (nat_lt b 256) (are_bytes s) false

pub bytes_by : (s : List ℕ) → are_bytes s ≡ true → AllBytes s
bytes_by [] e = tt
bytes_by (b ∷ s) e =
    by_ltb b 256 (λ l. (l, bytes_by s (rw (lt-ltb b 256 l) at e)))
    (λ l. absurd (false≢true (rw (le-ltb b 256 l) at e)))

module _ (s : List ℕ) (a : ArenaNo) (c : Counts) (b : are_bytes s ≡ true) (e : answer_of s 8192 ≡ accepted a c) where
  -- THEOREMS: what is accepted so stands for a well-formed image, and is accepted with a longer slice
  pub well_formed_by : WellFormed (image_of s)
  well_formed_by = accepted_well_formed s 8192 a c (bytes_by s b) e

  pub accepted_longer : (k : ℕ) → 8192 ≤ k → answer_of s k ≡ accepted a c
  accepted_longer k l =
      let d : encode (image_of s) ≡ s = accepted_encodes s 8192 a c (bytes_by s b) e in
      let x = encoded_accepted (image_of s) k well_formed_by l in
      let y = encoded_accepted (image_of s) 8192 well_formed_by (lit≤ tt) in
      (rw d at x) ∙ sym (rw d at y) ∙ e

  pub folded_longer : (id : Id) (k : ℕ) → 8192 ≤ k → fold_of s k id ≡ fold_of s 8192 id
  unfolding fold_of
  folded_longer id k l = rw (accepted_longer k l, e)
