-- Reports on printed pages, of every image: what a page is, whatever the texts are; that the pages' bytes are UTF-8 and which scalars they
-- encode; how many pages there are; and what a field shows of a text.
-- Assumes nothing.
use Rattle.std.specs.Prelude.{◌≡◌, ℕ, zero, suc, ◌+◌, ◌-◌, ◌*◌, ◌/◌, ◌≤◌, true, ◌↔◌, List, [], ◌∷◌, ◌++◌, map, length, take, drop, replicate, Ok}
use Rattle.std.proofs.Math.Path.{refl, ap, ap₂}
use Rattle.std.proofs.Common.{◌∙◌, append-nil, arith, lt-ltb, le-ltb, take_all}
use Rattle.std.proofs.Math.ListN.{length-append, length-take, length-map}
use Rattle.std.proofs.lemmas.List.{length-replicate}
use Rattle.rl_spec.specs.declared.Section.TheVariants.{Calls}
use Rattle.rl_spec.specs.declared.Violation.{Violation}
use Rattle.rl_spec.specs.Utf8.{utf8, is_scalar, encode_text, scalars_by, scalars_of}
use Rattle.rl_spec.specs.Read.{counts_of}
use Rattle.rl_spec.specs.Image.{Image, image_of, text_of}
use Rattle.rl_spec.specs.Ranges.{up_from}
use Rattle.rl_spec.specs.Records.{call_at}
use Rattle.rl_spec.specs.Prove.{violations_of, all_entries, prove_all_of}
use Rattle.rl_spec.specs.Mapped.{Text}
use Rattle.rl_spec.specs.Message.{decimal}
use Rattle.rl_spec.specs.Printed.{joined}
use Rattle.rl_spec.specs.Pages.{spaces, printed, fitted, left, right, page_line, unopened, report_line, report_lines, all_report_lines, page, pages_by, on_pages, ended, lines_bytes, pages_of}
use Rattle.rl_laws.specs.Tests.{by_ltb}
use Rattle.rl_images.specs.Reading.Utf8.{All, scalar_low, encoded_is_utf8}
use Rattle.rl_images.specs.Reading.Scalars.{all_scalars, scalars_encoded}
use Rattle.rl_images.specs.Reading.Starts.{section_size}
use Rattle.rl_images.specs.Images.PageLines.{left_length, right_length, reports_count}
use Rattle.rl_images.specs.Images.Paged.{pages_count}
use Rattle.rl_theorems.specs.Answers.Tables.{reports_from}
use Rattle.rl_theorems.specs.Answers.OfProving.{all_length, prove_all_accepts}

-- ---- what holds of each of a list

abbrev pub Every : {A : Type 0} → (A → Type 0) → List A → Type 0
Every P [] = Unit {0}
Every P (x ∷ xs) = P x × Every P xs

module _ {A : Type 0} (P : A → Type 0) where
  pub every_append : (s t : List A) → Every P s → Every P t → Every P (s ++ t)
  every_append [] t p q = q
  every_append (x ∷ s) t p q = (p.0, every_append s t p.1 q)

  pub every_replicate : (n : ℕ) (x : A) → P x → Every P (replicate n x)
  every_replicate zero x p = tt
  every_replicate (suc n) x p = (p, every_replicate n x p)

  every_take : (n : ℕ) (s : List A) → Every P s → Every P (take n s)
  every_take zero s p = tt
  every_take (suc n) [] p = tt
  every_take (suc n) (x ∷ s) p = (p.0, every_take n s p.1)

  every_drop : (n : ℕ) (s : List A) → Every P s → Every P (drop n s)
  every_drop zero s p = p
  every_drop (suc n) [] p = tt
  every_drop (suc n) (x ∷ s) p = every_drop n s p.1

  pub every_joined : (ss : List (List A)) → Every (Every P) ss → Every P (joined ss)
  unfolding joined
  every_joined [] p = tt
  every_joined (s ∷ ss) p = every_append s (joined ss) p.0 (every_joined ss p.1)

  pub every_map : {B : Type 0} (f : B → A) → ((b : B) → P (f b)) → (bs : List B) → Every P (map f bs)
  every_map f h [] = tt
  every_map f h (b ∷ bs) = (h b, every_map f h bs)

-- ---- what a page is

-- a scalar that is printed
abbrev pub Printable : ℕ → Type 0
Printable c = (is_scalar c ≡ true) × (32 ≤ c)

-- so many columns: of each a scalar, and none below 32, so no newline
pub record Columns (n : ℕ) (line : List ℕ) : Type 0 where
  pub wide : length line ≡ n
  pub shown : Every Printable line

pub record Page (lines : List (List ℕ)) : Type 0 where
  pub sixty : length lines ≡ 60
  pub each : Every (Columns 72) lines

-- ---- a field

shown_space : Printable 32
shown_space = (scalar_low 32 (omega arith), omega arith)

shown_printed : (c : ℕ) → is_scalar c ≡ true → Printable (printed c)
unfolding printed
shown_printed c e =
    by_ltb c 32 (λ l. rw (lt-ltb c 32 l) (scalar_low 63 (omega arith), omega arith)) (λ l. rw (le-ltb c 32 l) (e, l))

shown_map : (cs : List ℕ) → All is_scalar cs → Every Printable (map printed cs)
shown_map [] a = tt
shown_map (c ∷ cs) a = (shown_printed c a.0, shown_map cs a.1)

all_take : (n : ℕ) (cs : List ℕ) → All is_scalar cs → All is_scalar (take n cs)
all_take zero cs a = tt
all_take (suc n) [] a = tt
all_take (suc n) (c ∷ cs) a = (a.0, all_take n cs a.1)

pub blank : (n : ℕ) → Columns n (spaces n)
blank n = record { wide = length-replicate n 32; shown = every_replicate Printable n 32 shown_space }

beside : (a b : ℕ) (s t : List ℕ) → Columns a s → Columns b t → Columns (a + b) (s ++ t)
beside a b s t p q =
    record { wide = simp length-append (omega arith); shown = every_append Printable s t p.shown q.shown }

module _ (columns : ℕ) (text : Text) where
  fitted_shown : Every Printable (fitted columns text)
  unfolding fitted scalars_of
  fitted_shown = shown_map (take columns (scalars_of text)) (all_take columns (scalars_of text) (all_scalars (length text) text))

  abbrev gap : ℕ
  gap = columns - length (fitted columns text)

  pub left_columns : Columns columns (left columns text)
  unfolding left
  left_columns =
      record {
        wide = left_length columns text;
        shown = every_append Printable (fitted columns text) (spaces gap) fitted_shown (blank gap).shown;
      }

  pub right_columns : Columns columns (right columns text)
  unfolding right
  right_columns =
      record {
        wide = right_length columns text;
        shown = every_append Printable (spaces gap) (fitted columns text) (blank gap).shown fitted_shown;
      }

-- ---- a line, whatever the texts are

pub line_columns : (call span : ℕ) (callee message : Text) → Columns 72 (page_line call span callee message)
unfolding page_line
line_columns call span callee message =
    beside 33 39 _ _
    (beside 32 1 _ _
    (beside 16 16 _ _
    (beside 15 1 _ _ (beside 5 10 _ _ (beside 4 1 _ _ (right_columns 4 (decimal call)) (blank 1)) (right_columns 10 (decimal span))) (blank 1))
    (left_columns 16 callee)) (blank 1)) (left_columns 39 message)

module _ (im : Image) where
  report_columns : (call : ℕ) (v : Violation) → Columns 72 (report_line im call v)
  unfolding report_line
  report_columns call v = line_columns call (call_at im call).span (text_of im (call_at im call).callee) (unopened im call v)

  lines_columns : (call : ℕ) → Every (Columns 72) (report_lines im call)
  unfolding report_lines
  lines_columns call = every_map (Columns 72) (report_line im call) (report_columns call) (violations_of im call)

  all_columns : (n : ℕ) → Every (Columns 72) (all_report_lines im n)
  unfolding all_report_lines
  all_columns n = every_joined (Columns 72) _ (every_map (Every (Columns 72)) (report_lines im) lines_columns (up_from 0 n))

-- ---- pages

module _ (lines : List (List ℕ)) where
  page_sixty : length (page (take 60 lines)) ≡ 60
  unfolding page
  page_sixty = simp (length-append, length-replicate) (omega (arith, length-take 60 lines))

  a_page : Every (Columns 72) lines → Page (page (take 60 lines))
  unfolding page
  a_page p =
      let more : ℕ = 60 - length (take 60 lines) in
      record {
        sixty = page_sixty;
        each =
            every_append (Columns 72) (take 60 lines) (replicate more (spaces 72)) (every_take (Columns 72) 60 lines p)
            (every_replicate (Columns 72) more (spaces 72) (blank 72));
      }

pages_by_lem : (n : ℕ) (lines : List (List ℕ)) → Every (Columns 72) lines → Every Page (pages_by n lines)
unfolding pages_by
pages_by_lem zero lines p = tt
pages_by_lem (suc n) [] p = tt
pages_by_lem (suc n) (line ∷ lines) p =
    (a_page (line ∷ lines) p, pages_by_lem n (drop 60 (line ∷ lines)) (every_drop (Columns 72) 60 (line ∷ lines) p))

-- THEOREM: each page has 60 lines, and each line 72 scalars, none below 32
pub pages_so : (im : Image) (n : ℕ) → Every Page (on_pages (all_report_lines im n))
unfolding on_pages
pages_so im n = pages_by_lem (length (all_report_lines im n)) (all_report_lines im n) (all_columns im n)

-- ---- the pages' bytes

page_lines : (pages : List (List (List ℕ))) → Every Page pages → Every (Columns 72) (joined pages)
unfolding joined
page_lines [] p = tt
page_lines (lines ∷ pages) p = every_append (Columns 72) lines (joined pages) p.0.each (page_lines pages p.1)

all_append : (s t : List ℕ) → All is_scalar s → All is_scalar t → All is_scalar (s ++ t)
all_append [] t a b = b
all_append (c ∷ s) t a b = (a.0, all_append s t a.1 b)

shown_scalars : (s : List ℕ) → Every Printable s → All is_scalar s
shown_scalars [] p = tt
shown_scalars (c ∷ s) p = (p.0.0, shown_scalars s p.1)

ended_scalars : (lines : List (List ℕ)) → Every (Columns 72) lines → All is_scalar (joined (map ended lines))
unfolding joined
ended_scalars [] p = tt
ended_scalars (line ∷ lines) p =
    all_append (ended line) (joined (map ended lines))
    (all_append line (10 ∷ []) (shown_scalars line p.0.shown) (scalar_low 10 (omega arith), tt)) (ended_scalars lines p.1)

module _ (im : Image) (n : ℕ) where
  abbrev pages : List (List (List ℕ))
  pages = on_pages (all_report_lines im n)

  all_scalar : All is_scalar (joined (map ended (joined pages)))
  all_scalar = ended_scalars (joined pages) (page_lines pages (pages_so im n))

  -- THEOREMS: they are UTF-8, and their scalars are those of the lines of the pages, each ended by a newline
  pub pages_utf8 : utf8 (pages_of im n) ≡ true
  unfolding pages_of lines_bytes
  pages_utf8 = encoded_is_utf8 (joined (map ended (joined pages))) all_scalar

  pub pages_scalars : scalars_of (pages_of im n) ≡ joined (map ended (joined pages))
  unfolding pages_of lines_bytes
  pages_scalars = scalars_encoded (joined (map ended (joined pages))) all_scalar

-- ---- how many pages: by the number of reports

module _ (im : Image) where
  lines_from : (n k : ℕ) → length (joined (map (report_lines im) (up_from k n))) ≡ reports_from im n k
  unfolding joined up_from reports_from
  lines_from zero k = refl
  lines_from (suc n) k =
      length-append (report_lines im k) (joined (map (report_lines im) (up_from (k + 1) n)))
      ∙ ap₂ ◌+◌ (reports_count im k) (lines_from n (k + 1))

  module _ (n : ℕ) where
    -- THEOREMS: a line for each report, of which proving makes four entries
    pub lines_reports : length (all_report_lines im n) ≡ reports_from im n 0
    unfolding all_report_lines
    lines_reports = lines_from n 0

    pub lines_entries : length (all_report_lines im n) ≡ length (all_entries im n 0) / 4
    lines_entries = omega (arith, lines_reports, all_length im n 0)

    -- THEOREM: a page for each 60 reports or part of them
    pub pages_reports : length (on_pages (all_report_lines im n)) ≡ (reports_from im n 0 + 59) / 60
    pages_reports = pages_count (all_report_lines im n) ∙ ap (λ (r : ℕ). (r + 59) / 60) lines_reports

joined_length : {A : Type 0} (m : ℕ) (ss : List (List A)) → Every (λ (s : List A). length s ≡ m) ss → length (joined ss) ≡ m * length ss
unfolding joined
joined_length m [] p = omega arith
joined_length m (s ∷ ss) p = length-append s (joined ss) ∙ omega (arith, p.0, joined_length m ss p.1)

sixties : (ps : List (List (List ℕ))) → Every Page ps → Every (λ (p : List (List ℕ)). length p ≡ 60) ps
sixties [] p = tt
sixties (x ∷ ps) p = (p.0.sixty, sixties ps p.1)

ended_lengths : (lines : List (List ℕ)) → Every (Columns 72) lines → Every (λ (s : List ℕ). length s ≡ 73) (map ended lines)
ended_lengths [] p = tt
ended_lengths (line ∷ lines) p =
    (simp length-append (omega (arith, p.0.wide)), ended_lengths lines p.1)

none_scalars : length (scalars_of []) ≡ 0
unfolding scalars_of scalars_by
none_scalars = refl

no_lines : (lines : List (List ℕ)) → length lines ≡ 0 → lines_bytes (joined (on_pages lines)) ≡ []
unfolding lines_bytes joined on_pages pages_by encode_text
no_lines [] e = refl
no_lines (line ∷ lines) e = absurd (omega arith)

module _ (im : Image) (n : ℕ) where
  -- THEOREMS: 60 lines for each page, and 73 scalars for each line
  pub pages_lines : length (joined (on_pages (all_report_lines im n))) ≡ 60 * ((reports_from im n 0 + 59) / 60)
  pages_lines =
      joined_length 60 (on_pages (all_report_lines im n)) (sixties (on_pages (all_report_lines im n)) (pages_so im n))
      ∙ ap (λ (p : ℕ). 60 * p) (pages_reports im n)

  pub pages_size : length (scalars_of (pages_of im n)) ≡ 4380 * ((reports_from im n 0 + 59) / 60)
  pages_size =
      let lines : List (List ℕ) = joined (on_pages (all_report_lines im n)) in
      let long : length (joined (map ended lines)) ≡ 73 * length (map ended lines) =
      joined_length 73 (map ended lines) (ended_lengths lines (page_lines (on_pages (all_report_lines im n)) (pages_so im n)))
      in
      ap length (pages_scalars im n) ∙ omega (arith, long, length-map lines ended, pages_lines)

  -- THEOREM: no page exactly where there is no report
  pub no_page : (pages_of im n ≡ []) ↔ (reports_from im n 0 ≡ 0)
  unfolding pages_of
  no_page = (
    λ e. omega (arith, pages_size, ap (λ (s : List ℕ). length (scalars_of s)) e, none_scalars),
    λ e. no_lines (all_report_lines im n) (lines_reports im n ∙ e),
  )

-- THEOREM: from bytes, where all calls are proved with r reports
pub proved_pages : (s : List ℕ) (k room r : ℕ) → prove_all_of s k room ≡ Ok r →
    length (on_pages (all_report_lines (image_of s) (counts_of s).calls)) ≡ (r + 59) / 60
proved_pages s k room r e =
    pages_reports (image_of s) (counts_of s).calls
    ∙ ap (λ (n : ℕ). (n + 59) / 60)
    (rw (← section_size s Calls) ((prove_all_accepts s k room r).0 e).1)

-- ---- what a field shows of a text

module _ (columns : ℕ) (text : Text) where
  -- THEOREMS: all of one that is short enough, and else as many scalars as there are columns
  pub field_whole : length (scalars_of text) ≤ columns → left columns text ≡ map printed (scalars_of text) ++ spaces (columns - length (scalars_of text))
  unfolding left fitted
  field_whole l = rw (take_all columns (scalars_of text) l, length-map (scalars_of text) printed) refl

  pub field_cut : columns ≤ length (scalars_of text) → left columns text ≡ map printed (take columns (scalars_of text))
  unfolding left fitted
  field_cut l =
      let full : columns - length (map printed (take columns (scalars_of text))) ≡ 0 =
      omega (arith, length-map (take columns (scalars_of text)) printed, length-take columns (scalars_of text))
      in
      rw full (append-nil (map printed (take columns (scalars_of text))))

-- THEOREM: a text without scalars below 32 is shown as it is
pub printed_same : (cs : List ℕ) → Every (λ (c : ℕ). 32 ≤ c) cs → map printed cs ≡ cs
unfolding printed
printed_same [] p = refl
printed_same (c ∷ cs) p = ap₂ ◌∷◌ (rw (le-ltb c 32 p.0) refl) (printed_same cs p.1)
