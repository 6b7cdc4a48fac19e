-- How long a page's line is, and its bytes; what stands in the line of a report, and the lines in order.
-- Assumes nothing.
use Prim.Native.Nat.{ℕ, zero, suc, ◌+◌, ◌-◌, ◌*◌, ◌≤◌, ◌<◌}
use Rattle.std.specs.Prelude.{◌≡◌, get_or, take, drop}
use Rattle.std.proofs.Math.Path.{refl, ap}
use Rattle.std.proofs.Common.{sym, ◌∙◌, add-one, le-leb}
use mathlib.Core.List.{List, [], ◌∷◌, ◌++◌, map, append_assoc, append-nil, map-append}
use Rattle.std.proofs.Math.Option.{some}
use native.Mathlib.Omega.{arith}
use Rattle.std.proofs.Math.ListN.{length, length-append, length-map, length-take}
use Rattle.std.proofs.lemmas.List.{length-replicate}
use Rattle.std.proofs.Math.Seq.{drop-append_seam}
use Rattle.std.proofs.lemmas.Bool.{lt-leb}
use Rattle.rl_spec.specs.declared.Violation.{Violation}
use Rattle.rl_spec.specs.declared.Violation.TheVariants.{Refinement}
use Rattle.rl_spec.specs.Utf8.{encode_scalar, encode_text, scalars_of}
use Rattle.rl_spec.specs.Image.{Image, text_of}
use Rattle.rl_spec.specs.Ranges.{up_from}
use Rattle.rl_spec.specs.Records.{call_at}
use Rattle.rl_spec.specs.FnContracts.{callee_of}
use Rattle.rl_spec.specs.Prove.{violations_of}
use Rattle.rl_spec.specs.Mapped.{Text}
use Rattle.rl_spec.specs.Message.{decimal, opening, message_by, message_of}
use Rattle.rl_spec.specs.Printed.{joined}
use Rattle.rl_spec.specs.Texts.{message_at}
use Rattle.rl_spec.specs.Pages.{spaces, printed, fitted, left, right, page_line, unopened, report_line, report_lines, all_report_lines}
use Rattle.rl_laws.specs.Tests.{by_ltb}
use Rattle.rl_images.specs.Images.Reports.{map_at}

-- ---- bytes

pub encoded_append : (s t : List ℕ) → encode_text (s ++ t) ≡ encode_text s ++ encode_text t
unfolding encode_text
encoded_append [] t = refl
encoded_append (c ∷ s) t =
    ap (λ (x : List ℕ). encode_scalar c ++ x) (encoded_append s t) ∙ sym (append_assoc (encode_scalar c) (encode_text s) (encode_text t))

octets_short : (c : ℕ) → length (encode_scalar c) ≤ 4
unfolding encode_scalar
octets_short c =
    by_ltb c 0x80 (λ x. rw (le-leb c 0x7F (omega arith)) (omega arith)) λ x.
    by_ltb c 0x800 (λ y. rw (lt-leb c 0x7F x, le-leb c 0x7FF (omega arith)) (omega arith)) λ y.
    by_ltb c 0x10000
    (λ z. rw (lt-leb c 0x7F x, lt-leb c 0x7FF y, le-leb c 0xFFFF (omega arith)) (omega arith))
    (λ z. rw (lt-leb c 0x7F x, lt-leb c 0x7FF y, lt-leb c 0xFFFF z) (omega arith))

-- THEOREM: at most four bytes a scalar
pub encoded_short : (cs : List ℕ) → length (encode_text cs) ≤ length cs * 4
unfolding encode_text
encoded_short [] = omega arith
encoded_short (c ∷ cs) = omega (arith, length-append (encode_scalar c) (encode_text cs), octets_short c, encoded_short cs)

-- ---- a field and a line

module _ (columns : ℕ) (text : Text) where
  fitted_length : length (fitted columns text) ≤ columns
  unfolding fitted
  fitted_length = omega (arith, length-map (take columns (scalars_of text)) printed, length-take columns (scalars_of text))

  -- THEOREMS: a field has as many scalars as columns
  pub left_length : length (left columns text) ≡ columns
  unfolding left
  left_length =
      let k : ℕ = columns - length (fitted columns text) in
      length-append (fitted columns text) (spaces k) ∙ rw (length-replicate {A = ℕ} k 32) (omega (arith, fitted_length))

  pub right_length : length (right columns text) ≡ columns
  unfolding right
  right_length =
      let k : ℕ = columns - length (fitted columns text) in
      length-append (spaces k) (fitted columns text) ∙ rw (length-replicate {A = ℕ} k 32) (omega (arith, fitted_length))

-- THEOREM: a line has 72
pub line_72 : (call span : ℕ) (callee message : Text) → length (page_line call span callee message) ≡ 72
unfolding page_line
line_72 call span callee message =
    simp length-append
    (omega (arith, right_length 4 (decimal call), right_length 10 (decimal span), left_length 16 callee, left_length 39 message))

-- ---- the line of a report

module _ (im : Image) (call : ℕ) where
  pub report_at : (i : ℕ) → i < length (violations_of im call) → get_or (report_lines im call) i [] ≡ report_line im call (get_or (violations_of im call) i (Refinement 0))
  unfolding report_lines
  report_at i l = map_at (report_line im call) (violations_of im call) i l

  pub reports_count : length (report_lines im call) ≡ length (violations_of im call)
  unfolding report_lines
  reports_count = length-map (violations_of im call) (report_line im call)

  -- THEOREM: what is left of a message is the text of its report
  pub unopened_is : (f : ℕ) (v : Violation) → callee_of im call ≡ some f → unopened im call v ≡ message_by im f v
  unfolding unopened message_of
  unopened_is f v e = rw e (drop-append_seam opening (message_by im f v))

  -- THEOREM: the i-th line has the call's number, span and callee, and the message of its i-th report without the opening
  pub report_line_lem : (i : ℕ) → i < length (violations_of im call) →
      get_or (report_lines im call) i [] ≡ page_line call (call_at im call).span (text_of im (call_at im call).callee) (drop (length opening) (message_at im call i))
  unfolding report_line unopened message_at
  report_line_lem i l = report_at i l ∙ rw (map_at (message_of im call) (violations_of im call) i l) refl

-- ---- the lines of calls in order

pub joined_append : {A : Type 0} (a b : List (List A)) → joined (a ++ b) ≡ joined a ++ joined b
unfolding joined
joined_append [] b = refl
joined_append (x ∷ a) b = ap (λ y. x ++ y) (joined_append a b) ∙ sym (append_assoc x (joined a) (joined b))

up_more : (k n : ℕ) → up_from k (suc n) ≡ up_from k n ++ (k + n) ∷ []
unfolding up_from
up_more k zero = let z : k + 0 ≡ k = omega arith in rw z refl
up_more k (suc n) = let z : k + 1 + n ≡ k + suc n = omega arith in ap (λ (x : List ℕ). k ∷ x) (up_more (k + 1) n ∙ rw z refl)

module _ (im : Image) where
  -- THEOREMS: none of no call; a call more, and its lines stand behind the others
  pub all_none : all_report_lines im 0 ≡ []
  unfolding all_report_lines up_from joined
  all_none = refl

  pub all_more : (n : ℕ) → all_report_lines im (n + 1) ≡ all_report_lines im n ++ report_lines im n
  unfolding all_report_lines joined
  all_more n =
      let z : 0 + n ≡ n = omega arith in
      let up : up_from 0 (n + 1) ≡ up_from 0 n ++ n ∷ [] = ap (up_from 0) (add-one n) ∙ up_more 0 n ∙ ap (λ (i : ℕ). up_from 0 n ++ i ∷ []) z in
      ap (λ (l : List ℕ). joined (map (report_lines im) l)) up
      ∙ ap joined (map-append (report_lines im) (up_from 0 n) (n ∷ []))
      ∙ joined_append (map (report_lines im) (up_from 0 n)) (report_lines im n ∷ [])
      ∙ ap (λ x. joined (map (report_lines im) (up_from 0 n)) ++ x) (append-nil (report_lines im n))
