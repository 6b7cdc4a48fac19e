-- The bytes of a well-formed image are accepted, leave its heights in the work slice, and stand for that image.
-- Assumes nothing.
use Rattle.std.specs.Prelude.{ℕ, ◌+◌, ◌-◌, ◌≤◌, ◌≡◌, List, [], ◌++◌, length, take, drop, replicate}
use Rattle.std.proofs.Math.Path.{refl}
use Rattle.std.proofs.Common.{ap, ◌∙◌, arith, zero-add}
use Rattle.std.proofs.Math.ListN.{length-replicate}
use Rattle.std.proofs.Math.Seq.{take-length}
use borrow.Author.Tests.{le-ltb}
use Rattle.rl_spec.specs.declared.Counts.{Counts}
use Rattle.rl_spec.specs.Answers.{accepted}
use Rattle.rl_spec.specs.declared.Section.{Section}
use Rattle.rl_spec.specs.declared.Section.TheVariants.{Texts, Lists, Expressions, Statements, Parameters, Clauses, Functions, Calls}
use Rattle.rl_spec.specs.Schema.{text_bytes_at, sections}
use Rattle.rl_spec.specs.Read.{good, counts_of, end_of, body_of, most_starts, read_of, answer_of, work_of}
use Rattle.rl_spec.specs.Image.{Image, records_of, size_of, encode, image_of, sections_in, heights, WellFormed}
use Rattle.rl_images.specs.Encoding.BytesAt.{there, piece}
use Rattle.rl_images.specs.Reading.Filled.{two_filled}
use Rattle.rl_images.specs.Encoding.SectionLoop.{length_heights}
use Rattle.rl_images.specs.Encoding.Header.{starts_fit, text_stands, arena_is, header_good, counts_are}
use Rattle.rl_images.specs.Encoding.Sections.{kept, starts_in, sections_good, records_back}

module _ (im : Image) (wf : WellFormed im) where
  body_good : (w p : List ℕ) → size_of im Expressions + size_of im Statements ≤ length w → size_of im Expressions + size_of im Statements ≤ length p → body_of (encode im) (counts_of (encode im)) w p ≡ good (length (encode im)) (kept im (heights im) w) (kept im (starts_in im) p)
  unfolding body_of end_of
  body_good w p room roomy =
      rw (
        counts_are im wf,
        there (text_stands im wf) (length im.bytes) refl,
        sections_good im wf w p room roomy,
        le-ltb (length (encode im)) (length (encode im)) (omega arith),
      )

  read_good : (k : ℕ) → 8192 ≤ k → read_of (encode im) k ≡ good (length (encode im)) (kept im (heights im) (replicate k 0)) (kept im (starts_in im) (replicate most_starts 0))
  unfolding read_of
  read_good k l =
      rw (le-ltb 65535 (length (encode im)) wf.size, le-ltb k 8192 l, header_good im wf)
      (body_good (replicate k 0) (replicate most_starts 0) (rw length-replicate (omega (arith, starts_fit im wf.counts))) (rw length-replicate (starts_fit im wf.counts)))

-- ---- the work slice

pub heights_all : (im : Image) (o : Section) → length (heights im o) ≡ size_of im o
unfolding heights
heights_all im o = length_heights im o (records_of im o) [] ∙ zero-add (size_of im o)

-- THE THEOREMS
pub encoded_accepted : (im : Image) (k : ℕ) → WellFormed im → 8192 ≤ k → answer_of (encode im) k ≡ accepted (record { 0 = im.arena }) (record {
  bytes = length im.bytes;
  texts = size_of im Texts;
  lists = size_of im Lists;
  expressions = size_of im Expressions;
  statements = size_of im Statements;
  parameters = size_of im Parameters;
  clauses = size_of im Clauses;
  functions = size_of im Functions;
  calls = size_of im Calls;
})
unfolding answer_of
encoded_accepted im k wf l = rw (read_good im wf k l, arena_is im wf, counts_are im wf)

pub encoded_image : (im : Image) → WellFormed im → image_of (encode im) ≡ im
unfolding image_of
encoded_image im wf =
    let s : List ℕ = encode im in
    let c = counts_are im wf in
    let b : take (length im.bytes) (drop text_bytes_at s) ≡ im.bytes = piece (text_stands im wf) 0 (length im.bytes) (omega arith) ∙ take-length im.bytes in
    λ i.
    record {
      arena = arena_is im wf i;
      bytes = (ap (λ (n : Counts). take n.bytes (drop text_bytes_at s)) c ∙ b) i;
      records = (ap (λ (n : Counts). sections_in s n sections (text_bytes_at + n.bytes)) c ∙ records_back im wf) i;
    }

pub encoded_work : (im : Image) (k : ℕ) → WellFormed im → 8192 ≤ k → work_of (encode im) k ≡ heights im Expressions ++ heights im Statements ++ replicate (k - (size_of im Expressions + size_of im Statements)) 0
unfolding work_of
encoded_work im k wf l =
    rw (read_good im wf k l)
    (two_filled k (heights im Expressions) (heights im Statements) (size_of im Expressions) (size_of im Statements)
    (heights_all im Expressions) (heights_all im Statements) (omega (arith, starts_fit im wf.counts)))
