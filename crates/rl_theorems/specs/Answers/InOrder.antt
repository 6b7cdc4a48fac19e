-- The printer's lines by their numbers are all that it writes: call after call, and of a call one for each report, in order; and what a line is.
-- Assumes nothing.
use Rattle.std.specs.Prelude.{◌≡◌, ℕ, zero, suc, ◌+◌, ◌<◌, List, [], ◌∷◌, ◌++◌, map, length, get_or, slice_index_or}
use Rattle.std.proofs.Math.Path.{refl, ap₂}
use Rattle.std.proofs.Common.{sym, ap, append-nil, append_assoc}
use native.Mathlib.Omega.{arith}
use Rattle.rl_spec.specs.Answers.{accepted, refused}
use Rattle.rl_spec.specs.declared.ArenaNo.{ArenaNo}
use Rattle.rl_spec.specs.declared.Cause.{Cause}
use Rattle.rl_spec.specs.declared.Counts.{Counts}
use Rattle.rl_spec.specs.declared.Violation.{Violation}
use Rattle.rl_spec.specs.declared.Violation.TheVariants.{Refinement}
use Rattle.rl_spec.specs.Read.{answer_of}
use Rattle.rl_spec.specs.Image.{Image, image_of}
use Rattle.rl_spec.specs.Tree.{ascii}
use Rattle.rl_spec.specs.Records.{call_at}
use Rattle.rl_spec.specs.Ranges.{up_from}
use Rattle.rl_spec.specs.Prove.{violations_of}
use Rattle.rl_spec.specs.Message.{decimal, opening, message_by}
use Rattle.rl_spec.specs.Texts.{message_at}
use Rattle.rl_spec.specs.Printed.{refused_line, line_with, line_of, call_lines, line_at, all_lines, lines_of, joined, output_of}
use Rattle.rl_images.specs.Images.Reports.{lines_count, line_at_lem, message_at_lem, callee_there}

-- ---- the lines in order

-- of n calls from the k-th on, each by its number
unfoldable pub in_order : Image → ℕ → ℕ → List (List ℕ)
in_order im zero k = []
in_order im (suc n) k = map (line_at im k) (up_from 0 (length (violations_of im k))) ++ in_order im n (k + 1)

-- a list, by its elements' numbers
by_number : (l : List (List ℕ)) (f : ℕ → List ℕ) (k : ℕ) → ((i : ℕ) → f (k + i) ≡ slice_index_or l i []) → map f (up_from k (length l)) ≡ l
unfolding up_from
by_number [] f k h = refl
by_number (x ∷ l) f k h =
    let here : k + 0 ≡ k = omega arith in
    ap₂ ◌∷◌ (rw here at (h 0)) (by_number l f (k + 1) (λ i. let next : k + 1 + i ≡ k + suc i = omega arith in rw next (h (suc i))))

module _ (im : Image) where
  of_call : (call : ℕ) → map (line_at im call) (up_from 0 (length (violations_of im call))) ≡ call_lines im call
  unfolding line_at
  of_call call =
      rw (← lines_count im call)
      (by_number (call_lines im call) (line_at im call) 0 (λ i. let here : 0 + i ≡ i = omega arith in rw here refl))

  of_calls : (n k : ℕ) → all_lines im n k ≡ in_order im n k
  unfolding all_lines in_order
  of_calls zero k = refl
  of_calls (suc n) k = ap₂ ◌++◌ (sym (of_call k)) (of_calls n (k + 1))

module _ (s : List ℕ) where
  -- THEOREM: of an image that is accepted, all lines of its calls, and nothing else
  pub output_in_order : (a : ArenaNo) (c : Counts) → answer_of s 8192 ≡ accepted a c → output_of s ≡ joined (in_order (image_of s) c.calls 0)
  unfolding output_of lines_of
  output_in_order a c e = rw e (ap joined (of_calls (image_of s) c.calls 0))

  -- THEOREM: of one that is refused, the one line of its refusal
  pub output_refused : (q : Cause) (p : ℕ) → answer_of s 8192 ≡ refused q p → output_of s ≡ refused_line q p
  unfolding output_of lines_of joined
  output_refused q p e = rw e (append-nil (refused_line q p))

-- ---- a line

module _ (im : Image) (call n : ℕ) where
  module _ (l : n < length (violations_of im call)) where
    -- THEOREM: where there is a report, the call's number, its span, the report's message and a newline
    pub message_in_line : line_at im call n ≡ decimal call ++ ascii " " ++ decimal (call_at im call).span ++ ascii " " ++ message_at im call n ++ ascii "\n"
    unfolding line_of line_with
    message_in_line =
        let f = callee_there im call (omega arith) in
        let v : Violation = get_or (violations_of im call) n (Refinement 0) in
        let span : ℕ = (call_at im call).span in
        rw (line_at_lem im call f.0 n f.1 l, message_at_lem im call f.0 n f.1 l)
        (ap (λ (t : List ℕ). t ++ ascii "\n")
        (append_assoc (decimal call ++ ascii " " ++ decimal span ++ ascii " ") opening (message_by im f.0 v)))

    -- THEOREM: so it ends in one, and is not empty
    pub line_ends : (t : List ℕ) × (line_at im call n ≡ t ++ ascii "\n")
    line_ends = (decimal call ++ ascii " " ++ decimal (call_at im call).span ++ ascii " " ++ message_at im call n, message_in_line)
