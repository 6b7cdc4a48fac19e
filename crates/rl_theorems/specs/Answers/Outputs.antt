-- What each entry point leaves in the slices that are lent to it: zeros where it refuses, and else what it answers, then zeros.
-- Assumes nothing.
use Rattle.std.specs.Prelude.{◌≡◌, ℕ, ◌+◌, ◌-◌, ◌*◌, ◌^◌, List, [], ◌∷◌, ◌++◌, length, replicate, Ok}
use Rattle.std.proofs.Math.Path.{refl, ap}
use Rattle.std.proofs.Common.{sym, ◌∙◌}
use Rattle.rl_spec.specs.Answers.{ran, refused, Folded}
use Rattle.rl_spec.specs.declared.Id.{Id}
use Rattle.rl_spec.specs.declared.Cause.{Cause}
use Rattle.rl_spec.specs.declared.Section.TheVariants.{Calls}
use Rattle.rl_spec.specs.declared.Arguments.{Arguments}
use Rattle.rl_spec.specs.declared.Outcome.{Outcome}
use Rattle.rl_spec.specs.declared.TextPart.{TextPart}
use Rattle.rl_spec.specs.Read.{counts_of, work_of, packed}
use Rattle.rl_spec.specs.Image.{Image, encode, image_of}
use Rattle.rl_spec.specs.Fold.{fold_of, fold_number, work_unless}
use Rattle.rl_spec.specs.Prove.{call_entries, all_entries, prove_of, reports_of, prove_all_of, all_reports_of, prove_number}
use Rattle.rl_spec.specs.Texts.{text_for, text_number, message_at, message_answer, message_bytes, message_out, message_number}
use Rattle.rl_spec.specs.Pages.{pages_of, pages_answer, pages_slice, pages_out, pages_number}
use Rattle.rl_spec.specs.Lowerer.{lower_of, lower_number, lower_out}
use Rattle.rl_spec.specs.Runner.{run_of, run_number}
use Rattle.rl_spec.specs.Words.{sort_word_of, payload_word_of}
use Rattle.rl_spec.specs.Boundary.{prove_packed, lower_packed, fold_packed, fold_words, outcome_words, run_packed, run_words, text_packed, message_packed, pages_packed}
use Rattle.rl_images.specs.Reading.Refusals.{zeros_unless}
use Rattle.rl_images.specs.Reading.Starts.{section_size}
use Rattle.rl_theorems.specs.Answers.OfTexts.{message_accepts}
use Rattle.rl_theorems.specs.Answers.OfPages.{pages_accepts}

module _ (s : List ℕ) (k : ℕ) where
  -- folding: the work slice and the value's two words
  pub fold_zero : (id : Id) (q : Cause) (p : ℕ) → fold_of s k id ≡ refused q p →
      (work_unless (fold_number (fold_of s k id)) s k ≡ replicate k 0) × (fold_words (fold_of s k id) ≡ replicate 2 0)
  fold_zero id q p e = rw e (sym (zeros_unless q s k), refl)

  pub fold_leaves : (id : Id) (v : Folded) → fold_of s k id ≡ Ok v →
      (work_unless (fold_number (fold_of s k id)) s k ≡ work_of s k) × (fold_words (fold_of s k id) ≡ sort_word_of v ∷ payload_word_of v ∷ [])
  fold_leaves id v e = rw e (refl, refl)

  -- proving a call: the work slice and the slice of reports
  module _ (call room : ℕ) where
    pub prove_zero : (q : Cause) (p : ℕ) → prove_of s k call room ≡ refused q p →
        (work_unless (prove_number (prove_of s k call room)) s k ≡ replicate k 0) × (reports_of s k call room ≡ replicate room 0)
    unfolding reports_of
    prove_zero q p e = rw e (sym (zeros_unless q s k), refl)

    pub prove_leaves : (n : ℕ) → prove_of s k call room ≡ Ok n →
        (work_unless (prove_number (prove_of s k call room)) s k ≡ work_of s k)
        × (reports_of s k call room ≡ call_entries (image_of s) call ++ replicate (room - length (call_entries (image_of s) call)) 0)
    unfolding reports_of
    prove_leaves n e = rw e (refl, refl)

  -- proving all calls
  module _ (room : ℕ) where
    pub prove_all_zero : (q : Cause) (p : ℕ) → prove_all_of s k room ≡ refused q p →
        (work_unless (prove_number (prove_all_of s k room)) s k ≡ replicate k 0) × (all_reports_of s k room ≡ replicate room 0)
    unfolding all_reports_of
    prove_all_zero q p e = rw e (sym (zeros_unless q s k), refl)

    abbrev entries : List ℕ
    entries = all_entries (image_of s) (counts_of s).calls 0

    pub prove_all_leaves : (n : ℕ) → prove_all_of s k room ≡ Ok n →
        (work_unless (prove_number (prove_all_of s k room)) s k ≡ work_of s k)
        × (all_reports_of s k room ≡ entries ++ replicate (room - length entries) 0)
    unfolding all_reports_of
    prove_all_leaves n e = rw e (refl, refl)

  -- a text: the work slice
  module _ (t : ℕ) where
    pub text_zero : (q : Cause) (p : ℕ) → text_for s k t ≡ refused q p → work_unless (text_number (text_for s k t)) s k ≡ replicate k 0
    text_zero q p e = rw e (sym (zeros_unless q s k))

    pub text_leaves : (part : TextPart) → text_for s k t ≡ Ok part → work_unless (text_number (text_for s k t)) s k ≡ work_of s k
    text_leaves part e = rw e refl

  -- a message: the work slice and the array of 65,535 bytes
  module _ (call n : ℕ) where
    pub message_zero : (q : Cause) (p : ℕ) → message_answer s k call n ≡ refused q p →
        (work_unless (message_number (message_answer s k call n)) s k ≡ replicate k 0) × (message_out s k call n ≡ replicate 65535 0)
    unfolding message_out
    message_zero q p e = (rw e (sym (zeros_unless q s k)), ap (message_bytes s call n) e)

    bytes_of : (l : ℕ) → message_answer s k call n ≡ Ok l → length (message_at (image_of s) call n) ≡ l
    bytes_of l e = ((message_accepts s k call n l).0 e).1

    pub message_leaves : (l : ℕ) → message_answer s k call n ≡ Ok l →
        (work_unless (message_number (message_answer s k call n)) s k ≡ work_of s k)
        × (message_out s k call n ≡ message_at (image_of s) call n ++ replicate (65535 - length (message_at (image_of s) call n)) 0)
    unfolding message_out
    message_leaves l e = (rw e refl, ap (message_bytes s call n) (e ∙ ap Ok (sym (bytes_of l e))))

  -- pages: the work slice and the page slice
  module _ (room : ℕ) where
    pub pages_zero : (q : Cause) (p : ℕ) → pages_answer s k room ≡ refused q p →
        (work_unless (pages_number (pages_answer s k room)) s k ≡ replicate k 0) × (pages_out s k room ≡ replicate room 0)
    unfolding pages_out
    pages_zero q p e = (rw e (sym (zeros_unless q s k)), ap (pages_slice s room) e)

    abbrev bytes : List ℕ
    bytes = pages_of (image_of s) (counts_of s).calls

    written : (n : ℕ) → pages_answer s k room ≡ Ok n → length bytes ≡ n
    written n e = rw (← section_size s Calls) ((pages_accepts s k room n).0 e).1

    pub pages_leaves : (n : ℕ) → pages_answer s k room ≡ Ok n →
        (work_unless (pages_number (pages_answer s k room)) s k ≡ work_of s k)
        × (pages_out s k room ≡ bytes ++ replicate (room - length bytes) 0)
    unfolding pages_out
    pages_leaves n e = (rw e refl, ap (pages_slice s room) (e ∙ ap Ok (sym (written n e))))

  -- lowering: the work slice and the output slice
  module _ (f room : ℕ) where
    pub lower_zero : (q : Cause) (p : ℕ) → lower_of s k f room ≡ refused q p →
        (work_unless (lower_number (lower_of s k f room)) s k ≡ replicate k 0) × (lower_out room (lower_of s k f room) ≡ replicate room 0)
    lower_zero q p e = rw e (sym (zeros_unless q s k), refl)

    pub lower_leaves : (im' : Image) → lower_of s k f room ≡ Ok im' →
        (work_unless (lower_number (lower_of s k f room)) s k ≡ work_of s k)
        × (lower_out room (lower_of s k f room) ≡ encode im' ++ replicate (room - length (encode im')) 0)
    lower_leaves im' e = rw e (refl, refl)

  -- running: the work slice and the outcome's four words
  module _ (f : ℕ) (args : Arguments) (budget : ℕ) where
    pub run_zero : (q : Cause) (p : ℕ) → run_of s k f args budget ≡ refused q p →
        (work_unless (run_number (run_of s k f args budget)) s k ≡ replicate k 0) × (run_words (run_of s k f args budget) ≡ replicate 4 0)
    run_zero q p e = rw e (sym (zeros_unless q s k), refl)

    pub run_leaves : (o : Outcome) (n : ℕ) → run_of s k f args budget ≡ ran o n →
        (work_unless (run_number (run_of s k f args budget)) s k ≡ work_of s k) × (run_words (run_of s k f args budget) ≡ outcome_words o n)
    run_leaves o n e = rw e (refl, refl)

-- ---- an answer in one number: a refusal's is the number and the place of `packed`, in all of them; any other is what is answered

module _ (q : Cause) (p : ℕ) where
  pub refusals_packed : (fold_packed (refused q p) ≡ packed (refused q p))
      × (run_packed (refused q p) ≡ packed (refused q p))
      × (prove_packed (refused q p) ≡ packed (refused q p))
      × (lower_packed (refused q p) ≡ packed (refused q p))
      × (text_packed (refused q p) ≡ packed (refused q p))
      × (message_packed (refused q p) ≡ packed (refused q p))
      × (pages_packed (refused q p) ≡ packed (refused q p))
  refusals_packed = (refl, refl, refl, refl, refl, refl, refl)

pub answers_packed : (v : Folded) (o : Outcome) (n : ℕ) (part : TextPart) → (fold_packed (Ok v) ≡ 0) × (run_packed (ran o n) ≡ 0)
    × (prove_packed (Ok n) ≡ n) × (lower_packed (Ok n) ≡ n) × (message_packed (Ok n) ≡ n)
    × (pages_packed (Ok n) ≡ n) × (text_packed (Ok part) ≡ part.start + part.length * 2 ^ 16)
answers_packed v o n part = (refl, refl, refl, refl, refl, refl, refl)
