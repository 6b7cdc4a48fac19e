-- The ways out of putting a line or a message. Assumes nothing.
use Prim.Native.Nat.{ℕ, zero, suc, ◌+◌, ◌-◌, ◌*◌, ◌%◌, ◌≤◌, ◌<◌}
use mathlib.Core.Path.{◌≡◌, refl, sym, ap, subst, ◌∙◌}
use mathlib.Core.List.{List, ◌++◌}
use mathlib.Core.Option.{some}
use native.Mathlib.Omega.{arith}
use lib.ListN.{length, get_or, drop, replicate, length-replicate}
use lib.Seq.{take-length}
use Rattle.rl_spec.specs.declared.Cause.{Cause}
use Rattle.rl_spec.specs.declared.Counts.{Counts}
use Rattle.rl_spec.specs.declared.Violation.{Violation}
use Rattle.rl_spec.specs.declared.Violation.TheVariants.{Refinement, Requires}
use Rattle.rl_spec.specs.Image.{Image, image_of}
use Rattle.rl_spec.specs.Found.{image_found}
use Rattle.rl_spec.specs.Records.{call_at}
use Rattle.rl_spec.specs.FnContracts.{callee_of}
use Rattle.rl_spec.specs.Prove.{call_entries, violations_of, report_entries}
use Rattle.rl_spec.specs.Message.{default_text, message_by, opening}
use Rattle.rl_spec.specs.Printed.{refused_line, line_of, line_at}
use Rattle.rl_spec.specs.Texts.{message_at}
use Rattle.rl_images.specs.Images.Reports.{kind_of, number_among, at_most_512, numbered, default_short, line_fits, message_fits, refused_short, entry_kind, entry_number, line_at_lem, no_line, message_at_lem, no_message_lem, callee_there}
use Rattle.rl_text_out.specs.Put.{fitting, with_text, after_text}
use Rattle.rl_lines.specs.declared.lines.Lines.{Lines}
use Rattle.rl_lines.specs.Opened.{Known}
use Rattle.rl_lines.specs.Lines.{function_or, padded, lines_for, entries_for, ReportAt}

-- ---- a text that has room in a buffer of zeros

pub drop_zeros : (k n : ℕ) → drop k (replicate {A = ℕ} n 0) ≡ replicate (n - k) 0
drop_zeros zero n = let z : n - zero ≡ n = omega arith in rw z refl
drop_zeros (suc k) zero = let z : zero - suc k ≡ zero = omega arith in rw z refl
drop_zeros (suc k) (suc n) = let z : suc n - suc k ≡ n - k = omega arith in drop_zeros k n ∙ rw z refl

module _ (n : ℕ) (l t : List ℕ) (z : l ≡ replicate n 0) (h : length t ≤ n) where
  all_fits : fitting l 0 t ≡ length t
  unfolding fitting
  all_fits = let m : length l ≡ n = ap length z ∙ length-replicate n 0 in omega arith

  pub put_after : after_text l 0 t ≡ length t
  unfolding after_text
  put_after = omega (arith, all_fits)

  pub put_whole : with_text l 0 t ≡ padded n t
  unfolding with_text
  put_whole =
      let k : 0 + length t ≡ length t = omega arith in
      rw (all_fits, take-length t, k, z, drop_zeros (length t) n) refl

-- ---- the violation of a report

is_refinement : (v : Violation) (n : ℕ) → kind_of v ≡ 0 → number_among v ≡ n → Refinement n ≡ v
is_refinement (Refinement m) n k e = ap Refinement (sym e)
is_refinement (Requires m) n k e = absurd (omega arith)

is_requires : (v : Violation) (n : ℕ) → (kind_of v ≡ 0 → ⊥) → number_among v ≡ n → Requires n ≡ v
is_requires (Refinement m) n k e = absurd (k refl)
is_requires (Requires m) n k e = ap Requires (sym e)

module _ (l : List ℕ) (i : ℕ) where
  abbrev number : ℕ
  number = get_or l (i * 4 + 3) 0 % 65536

  module _ (call span : ℕ) (vs : List Violation) (zeros : List ℕ) (e : l ≡ report_entries call span vs ++ zeros) (h : i < length vs) where
    kind_is : kind_of (get_or vs i (Refinement 0)) ≡ get_or l (i * 4 + 2) 0
    kind_is = sym (rw e (entry_kind call span vs zeros i h))

    number_is : number_among (get_or vs i (Refinement 0)) < 65536 → number_among (get_or vs i (Refinement 0)) ≡ number
    number_is b =
        let f : get_or l (i * 4 + 3) 0 ≡ number_among (get_or vs i (Refinement 0)) = rw e (entry_number call span vs zeros i h) in
        omega arith

  pub at_refinement : get_or l (i * 4 + 2) 0 ≡ 0 → ReportAt l i (Refinement number)
  at_refinement z call span vs zeros e h b =
      is_refinement (get_or vs i (Refinement 0)) number (kind_is call span vs zeros e h ∙ z) (number_is call span vs zeros e h b)

  pub at_requires : (get_or l (i * 4 + 2) 0 ≡ 0 → ⊥) → ReportAt l i (Requires number)
  at_requires z call span vs zeros e h b =
      is_requires (get_or vs i (Refinement 0)) number (λ k. z (sym (kind_is call span vs zeros e h) ∙ k)) (number_is call span vs zeros e h b)

-- ---- a line and a message

module _ (s p : List ℕ) (c : Counts) (kn : Known s p c) (lines : Lines) (a : lines ≡ lines_for (image_of s) lines.call)
    (reports : List ℕ) (b : reports ≡ entries_for (image_of s) lines.call) (number : ℕ) where
  abbrev im : Image
  im = image_of s

  count_is : lines.count ≡ length (violations_of im lines.call)
  unfolding lines_for
  count_is = ap (λ (x : Lines). x.count) a

  pub number_low : number < lines.count → number < 512
  number_low h = omega (arith, count_is, at_most_512 im kn.whole lines.call)

  -- the call has no such report
  module _ (h : lines.count ≤ number) where
    none : length (violations_of im lines.call) ≤ number
    none = omega (arith, count_is)

    pub no_line_length : 0 ≡ length (line_at im lines.call number)
    no_line_length = sym (ap length (no_line im lines.call number none))

    pub no_line_out : (n : ℕ) (l : List ℕ) → n ≡ 65536 → l ≡ replicate n 0 → l ≡ padded 65536 (line_at im lines.call number)
    no_line_out n l m z = rw (no_line im lines.call number none) (z ∙ ap (λ (k : ℕ). replicate k 0) m)

    pub no_message_length : 0 ≡ length (message_at im lines.call number)
    no_message_length = sym (ap length (no_message_lem im lines.call number none))

    pub no_message_out : (n : ℕ) (l : List ℕ) → n ≡ 65535 → l ≡ replicate n 0 → l ≡ padded 65535 (message_at im lines.call number)
    no_message_out n l m z = rw (no_message_lem im lines.call number none) (z ∙ ap (λ (k : ℕ). replicate k 0) m)

  -- the report of that number
  module _ (h : number < lines.count) (v : Violation) (r : ReportAt reports number v) where
    pub there : number < length (violations_of im lines.call)
    there = omega (arith, count_is)

    abbrev pub found : Violation
    found = get_or (violations_of im lines.call) number (Refinement 0)

    pub found_is : v ≡ found
    unfolding entries_for call_entries
    found_is =
        r lines.call (call_at im lines.call).span (violations_of im lines.call) _ b there
        (omega (arith, numbered im kn.whole lines.call number there))

    pub callee : callee_of im lines.call ≡ some lines.function
    unfolding lines_for
    callee =
        let f = callee_there im lines.call (omega (arith, there)) in
        let g : lines.function ≡ f.0 = ap (λ (x : Lines). x.function) a ∙ ap function_or f.1 in
        f.1 ∙ ap some (sym g)

    pub span_is : lines.span ≡ (call_at im lines.call).span
    unfolding lines_for
    span_is = ap (λ (x : Lines). x.span) a

    room : length (default_text (image_found s p c) lines.function v) ≤ length (replicate {A = ℕ} 32800 0)
    room =
        subst (λ (x : Image). length (default_text x lines.function v) ≤ length (replicate {A = ℕ} 32800 0)) (sym kn.found)
        (subst (λ (k : ℕ). length (default_text im lines.function v) ≤ k) (sym (length-replicate {A = ℕ} 32800 0)) (default_short im kn.whole lines.function v))

    abbrev Roomy : Type 0 → Type 0
    Roomy A = length (default_text (image_found s p c) lines.function v) ≤ length (replicate {A = ℕ} 32800 0) → A

    line_is : line_of (image_found s p c) lines.function lines.call lines.span v ≡ line_at im lines.call number
    line_is = rw (kn.found, span_is, found_is) (sym (line_at_lem im lines.call lines.function number callee there))

    message_is : opening ++ message_by (image_found s p c) lines.function v ≡ message_at im lines.call number
    message_is = rw (kn.found, found_is) (sym (message_at_lem im lines.call lines.function number callee there))

    module _ (n : ℕ) (l : List ℕ) (z : l ≡ replicate n 0) where
      module _ (m : n ≡ 65536) where
        short : length (line_at im lines.call number) ≤ n
        short = omega (arith, line_fits im kn.whole lines.call number)

        pub line_length : (x : ℕ) → Roomy (x ≡ after_text l 0 (line_of (image_found s p c) lines.function lines.call lines.span v)) → x ≡ length (line_at im lines.call number)
        line_length x g = g room ∙ ap (after_text l 0) line_is ∙ put_after n l _ z short

        pub line_out : (w : List ℕ) → Roomy (w ≡ with_text l 0 (line_of (image_found s p c) lines.function lines.call lines.span v)) → w ≡ padded 65536 (line_at im lines.call number)
        line_out w g = g room ∙ ap (with_text l 0) line_is ∙ put_whole n l _ z short ∙ ap (λ (k : ℕ). padded k (line_at im lines.call number)) m

      module _ (m : n ≡ 65535) where
        told : length (message_at im lines.call number) ≤ n
        told = omega (arith, message_fits im kn.whole lines.call number)

        pub message_length : (x : ℕ) → Roomy (x ≡ after_text l 0 (opening ++ message_by (image_found s p c) lines.function v)) → x ≡ length (message_at im lines.call number)
        message_length x g = g room ∙ ap (after_text l 0) message_is ∙ put_after n l _ z told

        pub message_out_lem : (w : List ℕ) → Roomy (w ≡ with_text l 0 (opening ++ message_by (image_found s p c) lines.function v)) → w ≡ padded 65535 (message_at im lines.call number)
        message_out_lem w g = g room ∙ ap (with_text l 0) message_is ∙ put_whole n l _ z told ∙ ap (λ (k : ℕ). padded k (message_at im lines.call number)) m

-- ---- a refusal

module _ (q : Cause) (place n : ℕ) (l : List ℕ) (m : n ≡ 65536) (z : l ≡ replicate n 0) where
  fits : length (refused_line q place) ≤ n
  fits = omega (arith, refused_short q place)

  pub refused_length : (x : ℕ) → x ≡ after_text l 0 (refused_line q place) → x ≡ length (refused_line q place)
  refused_length x g = g ∙ put_after n l _ z fits

  pub refused_out : (w : List ℕ) → w ≡ with_text l 0 (refused_line q place) → w ≡ padded 65536 (refused_line q place)
  refused_out w g = g ∙ put_whole n l _ z fits ∙ ap (λ (k : ℕ). padded k (refused_line q place)) m
