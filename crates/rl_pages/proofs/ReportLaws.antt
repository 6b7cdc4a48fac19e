-- The line of a report.
-- Assumes nothing.
use Prim.Native.Nat.{ℕ, ◌+◌, ◌*◌, ◌≤◌, ◌<◌}
use mathlib.Core.Path.{◌≡◌, refl, sym, ap, ◌∙◌}
use mathlib.Core.List.{List, [], ◌∷◌}
use mathlib.Core.Option.{Option, none, some, map}
use native.Mathlib.Omega.{arith}
use lib.ListN.{length, get_or, take, drop, replicate, length-append, length-replicate}
use Rattle.rl_spec.specs.declared.Call.{Call}
use Rattle.rl_spec.specs.declared.Counts.{Counts}
use Rattle.rl_spec.specs.declared.Violation.{Violation}
use Rattle.rl_spec.specs.declared.Violation.TheVariants.{Refinement, Requires}
use Rattle.rl_spec.specs.Utf8.{encode_text}
use Rattle.rl_spec.specs.Image.{Image, text_of, image_of, WellFormed}
use Rattle.rl_spec.specs.Found.{image_found}
use Rattle.rl_spec.specs.Tree.{optional_tree}
use Rattle.rl_spec.specs.Records.{function_at, clause_at, call_at}
use Rattle.rl_spec.specs.Prove.{violations_of}
use Rattle.rl_spec.specs.Mapped.{Text}
use Rattle.rl_spec.specs.Message.{own_string, or_default, default_text, message_with, message_by}
use Rattle.rl_spec.specs.Pages.{left, page_line, unopened, report_line, report_lines, ended}
use Rattle.rl_images.specs.Images.Reports.{at_most_512}
use Rattle.rl_images.specs.Images.PageLines.{encoded_short, line_72, report_at, unopened_is}
use Rattle.rl_images.specs.Reading.Scalars.{scalars_taken}
use Rattle.rl_columns.proofs.ColumnLaws.{left_is}
use Rattle.rl_lines.specs.declared.lines.Lines.{Lines}
use Rattle.rl_lines.specs.Opened.{Known}
use Rattle.rl_lines.specs.Lines.{lines_for, entries_for, ReportAt}
use Rattle.rl_lines.proofs.LineLaws.{there, found_is, callee, span_is}
use Rattle.rl_text_out.specs.Put.{after_text, with_text}
use Rattle.rl_text_out.proofs.Joined.{Puts, puts_as, room_begins, room_holds}
use Rattle.rl_pages.specs.Added.{line_bytes}

-- ---- a field shows the beginning of a text

left_taken : (n m : ℕ) (t : Text) → n * 4 ≤ m → left n (take m t) ≡ left n t
left_taken n m t l = rw (left_is (take m t) n, left_is t n, scalars_taken n m t l) refl

-- 39 scalars stand in 156 bytes
module _ (m : ℕ) (enough : 156 ≤ m) where
  own_left : (own : Option Text) (default : Text) → left 39 (or_default own (take m default)) ≡ left 39 (or_default own default)
  own_left none default = left_taken 39 m default (omega arith)
  own_left (some t) default = refl

  message_left : (im : Image) (f : ℕ) (v : Violation) (default : Text) → left 39 (message_with im f v (take m default)) ≡ left 39 (message_with im f v default)
  message_left im f (Refinement n) default = left_taken 39 m default (omega arith)
  message_left im f (Requires n) default =
      own_left (map (text_of im) (own_string (optional_tree im (clause_at im ((function_at im f).required.first + n)).message))) default

line_left : (call span : ℕ) (name a b : Text) → left 39 a ≡ left 39 b → page_line call span name a ≡ page_line call span name b
unfolding page_line
line_left call span name a b e = rw e refl

-- ---- the line

module _ (s p : List ℕ) (c : Counts) (kn : Known s p c) (lines : Lines) (a : lines ≡ lines_for (image_of s) lines.call)
    (reports : List ℕ) (b : reports ≡ entries_for (image_of s) lines.call) (number : ℕ) (h : number < lines.count) where
  abbrev im : Image
  im = image_of s

  abbrev call : ℕ
  call = lines.call

  module _ (v : Violation) (r : ReportAt reports number v) (empty room default text name : List ℕ) (n : ℕ) (record' : Call)
      (after : (q : List ℕ) → n ≡ after_text empty 0 (default_text (image_found s q c) lines.function v))
      (put : (q : List ℕ) → room ≡ with_text empty 0 (default_text (image_found s q c) lines.function v))
      (enough : 156 ≤ length empty)
      (cut : default ≡ take n (drop 0 room))
      (told : text ≡ message_with (image_found s p c) lines.function v default)
      (called : (q : List ℕ) → record' ≡ call_at (image_found s q c) call)
      (named : (q : List ℕ) → name ≡ text_of (image_found s q c) record'.callee) where
    abbrev f : ℕ
    f = lines.function

    room_is : take n (drop 0 room) ≡ take (length empty) (default_text im f v)
    room_is =
        room_begins empty (default_text (image_found s p c) f v) room n (after p) (put p)
        ∙ rw kn.found refl

    text_left : left 39 text ≡ left 39 (unopened im call v)
    unfolding message_by
    text_left =
        rw (told, cut, room_is, kn.found)
        (message_left (length empty) enough im f v (default_text im f v)
        ∙ ap (left 39) (sym (unopened_is im call f v (callee s p c kn lines a reports b number h v r))))

    name_is : name ≡ text_of im (call_at im call).callee
    name_is = named p ∙ rw (kn.found, called p, kn.found) refl

    line_is : page_line call lines.span name text ≡ get_or (report_lines im call) number []
    unfolding report_line
    line_is =
        line_left call lines.span name text (unopened im call v) text_left
        ∙ rw (name_is, span_is s p c kn lines a reports b number h v r, found_is s p c kn lines a reports b number h v r)
        (sym (report_at im call number (there s p c kn lines a reports b number h v r)))

    pub puts_report : (out w : List ℕ) (z : ℕ) → Puts out 0 (encode_text (ended (page_line call lines.span name text))) w z → Puts out 0 (line_bytes im call number) w z
    unfolding line_bytes
    puts_report out w z g = puts_as out 0 _ _ w z g (ap (λ (x : List ℕ). encode_text (ended x)) line_is)

-- ---- how long it is

ended_short : (line : List ℕ) → length line ≤ 72 → length (encode_text (ended line)) ≤ 292
ended_short line l = omega (arith, encoded_short (ended line), length-append line (10 ∷ []))

pub blank_short : length (encode_text (ended (replicate 72 32))) ≤ 292
blank_short = ended_short (replicate 72 32) (omega (arith, length-replicate {A = ℕ} 72 32))

pub line_short : (im : Image) (call number : ℕ) → number < length (violations_of im call) → length (line_bytes im call number) ≤ 292
unfolding line_bytes report_line
line_short im call number l =
    ended_short (get_or (report_lines im call) number []) (rw (report_at im call number l) (omega (arith, line_72 call (call_at im call).span (text_of im (call_at im call).callee) (unopened im call (get_or (violations_of im call) number (Refinement 0))))))

-- ---- a line in a buffer of 292 bytes

module _ (bytes w text : List ℕ) (n : ℕ) (l : length bytes ≤ 292) (put : Puts (replicate 292 0) 0 bytes w n) (cut : text ≡ take n (drop 0 w)) where
  pub buffered : text ≡ bytes
  buffered =
      let room : length bytes ≤ length (replicate {A = ℕ} 292 0) = rw (length-replicate {A = ℕ} 292 0) l in
      cut ∙ room_holds (replicate 292 0) bytes w n room put.0 put.1

  pub buffered_short : length text ≤ 292
  buffered_short = rw buffered l

module _ (im : Image) (lines : Lines) (a : lines ≡ lines_for im lines.call) where
  pub count_is : lines.count ≡ length (violations_of im lines.call)
  unfolding lines_for
  count_is = ap (λ (x : Lines). x.count) a

  pub few_lines : WellFormed im → lines.count ≤ 512
  few_lines wf = omega (arith, count_is, at_most_512 im wf lines.call)

  module _ (number : ℕ) where
    pub report_there : number < lines.count → number < length (violations_of im lines.call)
    report_there h = omega (arith, count_is)

    pub no_more : lines.count ≤ number → length (violations_of im lines.call) ≤ number
    no_more h = omega (arith, count_is)

  pub report_short : (number : ℕ) → number < lines.count → length (line_bytes im lines.call number) ≤ 292
  report_short number h = line_short im lines.call number (report_there number h)
