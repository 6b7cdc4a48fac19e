-- The bytes of lines one after another.
-- Assumes nothing.
use Prim.Native.Nat.{ℕ, zero, suc, ◌+◌, ◌-◌, ◌%◌, ◌≤◌, ◌<◌}
use mathlib.Core.Path.{◌≡◌, refl, sym, ap, ◌∙◌}
use mathlib.Core.List.{List, [], ◌∷◌, ◌++◌, map, append-nil, map-append}
use native.Mathlib.Omega.{arith}
use native.Mathlib.Numerals.{add-one}
use lib.ListN.{length, take, replicate, length-append}
use lib.Seq.{take-suc, take_all}
use Rattle.rl_spec.specs.declared.Counts.{Counts}
use Rattle.rl_spec.specs.declared.Section.TheVariants.{Calls}
use Rattle.rl_spec.specs.Schema.{limits}
use Rattle.rl_spec.specs.Utf8.{encode_text}
use Rattle.rl_spec.specs.Image.{Image, records_of, image_of}
use Rattle.rl_spec.specs.Prove.{violations_of}
use Rattle.rl_spec.specs.Pages.{spaces, report_lines, all_report_lines, ended, lines_bytes, pages_of}
use Rattle.rl_spec.specs.Printed.{joined}
use Rattle.rl_laws.specs.Found.{size_found}
use Rattle.rl_images.specs.Images.Limits.{size_within}
use Rattle.rl_images.specs.Images.Reports.{at_most_512}
use Rattle.rl_images.specs.Images.PageLines.{encoded_append, reports_count, joined_append, all_none, all_more}
use Rattle.rl_images.specs.Images.Paged.{paged}
use Rattle.rl_lines.specs.declared.lines.Lines.{Lines}
use Rattle.rl_lines.specs.Opened.{Known}
use Rattle.rl_lines.specs.Lines.{lines_for}
use Rattle.rl_lines.proofs.CallLaws.{same_call}
use Rattle.rl_pages.specs.Added.{Adds, line_bytes}
use Rattle.rl_pages.proofs.AddedLaws.{adds_none, adds_then, adds_as}

-- ---- lines behind lines

pub lines_append : (a b : List (List ℕ)) → lines_bytes (a ++ b) ≡ lines_bytes a ++ lines_bytes b
unfolding lines_bytes
lines_append a b =
    rw (map-append ended a b, joined_append (map ended a) (map ended b)) (encoded_append (joined (map ended a)) (joined (map ended b)))

lines_one : (x : List ℕ) → lines_bytes (x ∷ []) ≡ encode_text (ended x)
unfolding lines_bytes joined
lines_one x = ap encode_text (append-nil (ended x))

lines_more : (a : List (List ℕ)) (x : List ℕ) → lines_bytes a ++ encode_text (ended x) ≡ lines_bytes (a ++ x ∷ [])
lines_more a x = rw (lines_append a (x ∷ []), lines_one x) refl

-- ---- none yet, and a line more

pub adds_no_lines : (l : List ℕ) (at : ℕ) → Adds l at (lines_bytes []) l at
unfolding lines_bytes joined encode_text
adds_no_lines l at = adds_none l at

module _ (l m out : List ℕ) (at p r : ℕ) where
  pub adds_line : (a : List (List ℕ)) (x : List ℕ) → Adds l at (lines_bytes a) m p → Adds m p (encode_text (ended x)) out r → Adds l at (lines_bytes (a ++ x ∷ [])) out r
  adds_line a x f g = adds_as l _ _ out at r (lines_more a x) (adds_then l _ m _ out at p r f g)

  pub adds_lines : (a b : List (List ℕ)) → Adds l at (lines_bytes a) m p → Adds m p (lines_bytes b) out r → Adds l at (lines_bytes (a ++ b)) out r
  adds_lines a b f g = adds_as l _ _ out at r (sym (lines_append a b)) (adds_then l _ m _ out at p r f g)

-- ---- of a call

module _ (im : Image) (call : ℕ) where
  module _ (number : ℕ) (h : number < length (violations_of im call)) where
    pub adds_report : (l m out : List ℕ) (at p r : ℕ) → Adds l at (lines_bytes (take number (report_lines im call))) m p → Adds m p (line_bytes im call number) out r
        → Adds l at (lines_bytes (take (number + 1) (report_lines im call))) out r
    unfolding line_bytes
    adds_report l m out at p r f g =
        rw (add-one number, take-suc (report_lines im call) number [] (omega (arith, reports_count im call))) (adds_line l m out at p r _ _ f g)

  pub adds_reports : (number : ℕ) → length (violations_of im call) ≤ number → (l out : List ℕ) (at r : ℕ)
      → Adds l at (lines_bytes (take number (report_lines im call))) out r → Adds l at (lines_bytes (report_lines im call)) out r
  adds_reports number h l out at r =
      adds_as l _ _ out at r (ap lines_bytes (take_all number (report_lines im call) (omega (arith, reports_count im call))))

-- by the number that the lines have themselves
module _ (im : Image) (call : ℕ) (lines : Lines) (a : lines ≡ lines_for im call) where
  pub adds_own : (l out : List ℕ) (at r : ℕ) → Adds l at (lines_bytes (report_lines im lines.call)) out r → Adds l at (lines_bytes (report_lines im call)) out r
  adds_own l out at r = adds_as l _ _ out at r (ap (λ (i : ℕ). lines_bytes (report_lines im i)) (sym (same_call im call lines a)))

  pub own_count : lines.count ≡ length (violations_of im call)
  unfolding lines_for
  own_count = ap (λ (x : Lines). x.count) a

-- ---- of all calls

pub few_calls : (s p : List ℕ) (c : Counts) → Known s p c → c.calls ≤ 256
unfolding limits
few_calls s p c kn =
    let n : c.calls ≡ length (records_of (image_of s) Calls) = sym (size_found s p c Calls) ∙ ap (λ (x : Image). length (records_of x Calls)) kn.found in
    omega (arith, n, size_within (image_of s) kn.whole Calls)

pub few_of_call : (s p : List ℕ) (c : Counts) → Known s p c → (call n : ℕ) → n ≡ length (violations_of (image_of s) call) → n ≤ 512
few_of_call s p c kn call n e = omega (arith, e, at_most_512 (image_of s) kn.whole call)

module _ (im : Image) where
  pub no_count : 0 ≡ length (all_report_lines im 0)
  no_count = rw (all_none im) refl

  pub adds_no_call : (l : List ℕ) (at : ℕ) → Adds l at (lines_bytes (all_report_lines im 0)) l at
  adds_no_call l at = rw (all_none im) (adds_no_lines l at)

  pub adds_call : (n : ℕ) (l m out : List ℕ) (at p r : ℕ) → Adds l at (lines_bytes (all_report_lines im n)) m p → Adds m p (lines_bytes (report_lines im n)) out r
      → Adds l at (lines_bytes (all_report_lines im (n + 1))) out r
  adds_call n l m out at p r f g = rw (all_more im n) (adds_lines l m out at p r _ _ f g)

  pub count_more : (n lines more : ℕ) → lines ≡ length (all_report_lines im n) → more ≡ length (violations_of im n) → lines + more ≡ length (all_report_lines im (n + 1))
  count_more n lines more e f = rw (all_more im n, length-append (all_report_lines im n) (report_lines im n), reports_count im n, e, f) refl

  -- ---- pages

  pub adds_pages : (n : ℕ) (l m out : List ℕ) (at p r lines blanks : ℕ) → lines ≡ length (all_report_lines im n) → blanks ≡ (60 - lines % 60) % 60
      → Adds l at (lines_bytes (all_report_lines im n)) m p → Adds m p (lines_bytes (replicate blanks (spaces 72))) out r → Adds l at (pages_of im n) out r
  unfolding pages_of
  adds_pages n l m out at p r lines blanks e f a b =
      let k : blanks ≡ (60 - length (all_report_lines im n) % 60) % 60 = f ∙ ap (λ (i : ℕ). (60 - i % 60) % 60) e in
      adds_as l _ _ out at r (ap lines_bytes (rw k refl ∙ sym (paged (all_report_lines im n)))) (adds_lines l m out at p r _ _ a b)

-- ---- lines of spaces

same_more : (n : ℕ) (x : List ℕ) → replicate (suc n) x ≡ replicate n x ++ x ∷ []
same_more zero x = refl
same_more (suc n) x = ap (λ y. x ∷ y) (same_more n x)

pub adds_blank : (n : ℕ) (l m out text : List ℕ) (at p r : ℕ) → text ≡ encode_text (ended (spaces 72)) → Adds l at (lines_bytes (replicate n (spaces 72))) m p
    → Adds m p text out r → Adds l at (lines_bytes (replicate (n + 1) (spaces 72))) out r
adds_blank n l m out text at p r e f g = rw (add-one n, same_more n (spaces 72)) (adds_line l m out at p r _ _ f (adds_as m _ _ out p r e g))
