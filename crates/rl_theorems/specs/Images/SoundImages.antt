-- An image that grows stays well formed, its bytes aside, where each new record fits.
-- Assumes nothing.
use Rattle.std.specs.Prelude.{◌≡◌, ℕ, zero, suc, ◌+◌, ◌-◌, ◌^◌, ◌<◌, ◌≤◌, true, List, [], ◌∷◌, ◌++◌, map, length, get_or, slice_index, slice_index_or, slice_set, refl}
use Rattle.std.proofs.Common.{ap, sym, ◌∙◌, subst, arith, length-append, get_or-append-add}
use Rattle.rl_spec.specs.declared.Section.{Section}
use Rattle.rl_spec.specs.declared.Section.TheVariants.{Texts, Lists, Expressions, Statements, Parameters, Clauses, Functions, Calls}
use Rattle.rl_spec.specs.Schema.{limits, sections, tallest, in_section, sort_of, fields_of}
use Rattle.rl_spec.specs.Image.{Rec, Image, order_of, records_of, size_of, no_record, record_of, tallest_child, heights, encode, FieldsFit, RecordFits, AllBytes, AllWithin, WellFormed}
use Rattle.rl_spec.specs.Make.{with_bytes, most, most_bytes}
use Rattle.rl_laws.specs.Tests.{by_ltb, by_eqb}
use Rattle.rl_theorems.specs.Reading.EncodedBytes.{append_bytes_lem}
use Rattle.rl_images.specs.Lowering.Grows.{Longer, Grows, Eight, eight_sections, Growing, appended, appended_grows, bytes_grow, grows_records, record_kept, records_own, records_other}
use Rattle.rl_theorems.specs.Images.KeptFields.{fields_kept, grows_keeps}
use Rattle.rl_theorems.specs.Images.KeptHeights.{AllFit, height_stays, height_new}

-- well formed, but for the number of its bytes
pub record Sound (im : Image) : Type 0 where
  pub arena : im.arena < 2 ^ 32
  pub bytes : AllBytes im.bytes
  pub counts : AllWithin (length im.bytes ∷ map length im.records) limits
  pub eight : Eight im
  pub fits : (o : Section) (i : ℕ) → i < size_of im o → RecordFits im o i (record_of im o i)

pub well_formed_sound : (im : Image) → WellFormed im → Sound im
well_formed_sound im wf =
    record { arena = wf.arena; bytes = wf.bytes; counts = wf.counts; eight = eight_sections im wf; fits = wf.fits }

pub sound_well_formed : (im : Image) → Sound im → length (encode im) ≤ 65535 → WellFormed im
sound_well_formed im s l = record { arena = s.arena; bytes = s.bytes; counts = s.counts; fits = s.fits; size = l }

pub all_fit : {im : Image} → Sound im → (o : Section) → AllFit im o
all_fit s o i p = (s.fits o i p).fields

-- ---- counts

within_set : (ns ms : List ℕ) (k n : ℕ) → AllWithin ns ms → n ≤ slice_index ms k → AllWithin (slice_set ns k n) ms
within_set [] [] k n h l = h
within_set [] (m ∷ ms) k n h l = absurd h
within_set (x ∷ ns) [] k n h l = absurd h
within_set (x ∷ ns) (m ∷ ms) zero n h l = (l, h.1)
within_set (x ∷ ns) (m ∷ ms) (suc k) n h l = (h.0, within_set ns ms k n h.1 l)

lengths_set : (rss : List (List Rec)) (k : ℕ) (rs : List Rec) → map length (slice_set rss k rs) ≡ slice_set (map length rss) k (length rs)
lengths_set [] k rs = refl
lengths_set (x ∷ rss) zero rs = refl
lengths_set (x ∷ rss) (suc k) rs = ap (λ (l : List ℕ). length x ∷ l) (lengths_set rss k rs)

pub counts_set : (im : Image) (o : Section) (rs : List Rec) → AllWithin (length im.bytes ∷ map length im.records) limits →
    length rs ≤ most o → AllWithin (length im.bytes ∷ map length (slice_set im.records (order_of o) rs)) limits
counts_set im o rs h l =
    rw (lengths_set im.records (order_of o) rs)
    (within_set (length im.bytes ∷ map length im.records) limits (suc (order_of o)) (length rs) h l)

counts_bytes : (n : ℕ) (ns : List ℕ) (m : ℕ) → AllWithin (n ∷ ns) limits → m ≤ most_bytes → AllWithin (m ∷ ns) limits
counts_bytes n ns m h l = within_set (n ∷ ns) limits 0 m h l

-- ---- what was there goes on fitting

pub fits_kept : {im im' : Image} → Sound im → Grows im im' → (o : Section) (i : ℕ) → i < size_of im o → RecordFits im' o i (record_of im' o i)
fits_kept {im} {im'} s g o i p =
    let r : Rec = record_of im o i in
    let f : RecordFits im o i r = s.fits o i p in
    let l : Longer (records_of im o) (records_of im' o) = grows_records g o in
    rw (record_kept g o i p)
    (record {
      kind = f.kind;
      fields = fields_kept (grows_keeps g) o i i (omega arith) (omega arith) f.fields;
      height = rw (height_stays (grows_keeps g) o (all_fit s o) l.rest l.is i p) f.height;
    })

-- ---- one section grows

section_at : ℕ → Section
section_at n = slice_index_or sections n Texts

section_at_lem : (o : Section) → section_at (order_of o) ≡ o
unfolding sections section_at
section_at_lem Texts = refl
section_at_lem Lists = refl
section_at_lem Expressions = refl
section_at_lem Statements = refl
section_at_lem Parameters = refl
section_at_lem Clauses = refl
section_at_lem Functions = refl
section_at_lem Calls = refl

pub same_order : (o q : Section) → order_of o ≡ order_of q → q ≡ o
same_order o q e = sym (section_at_lem q) ∙ ap section_at (sym e) ∙ section_at_lem o

module _ {im : Image} (s : Sound im) (q : Section) (k : Growing q) (rs : List Rec) where
  abbrev longer : Image
  longer = appended im q rs

  pub longer_grows : Grows im longer
  longer_grows = appended_grows im q rs k s.eight

  pub own : records_of longer q ≡ records_of im q ++ rs
  own = records_own im q (records_of im q ++ rs) s.eight

  module _ (new : (j : ℕ) → j < length rs → RecordFits longer q (size_of im q + j) (slice_index_or rs j no_record)) where
    new_fits : (i : ℕ) → size_of im q ≤ i → i < size_of longer q → RecordFits longer q i (record_of longer q i)
    new_fits i p l =
        let j : ℕ = i - size_of im q in
        let e : size_of im q + j ≡ i = omega arith in
        let m : size_of longer q ≡ size_of im q + length rs = ap length own ∙ length-append (records_of im q) rs in
        let d : record_of longer q (size_of im q + j) ≡ get_or rs j no_record =
        ap (λ (l : List Rec). get_or l (size_of im q + j) no_record) own ∙ get_or-append-add (records_of im q) rs j no_record in
        subst (λ (n : ℕ). RecordFits longer q n (record_of longer q n)) e (rw d (new j (omega arith)))

    longer_fits : (o : Section) (i : ℕ) → i < size_of longer o → RecordFits longer o i (record_of longer o i)
    longer_fits o i l =
        by_ltb i (size_of im o) (fits_kept s longer_grows o i)
        (λ p. by_eqb (order_of q) (order_of o)
        (λ e.
        let d : o ≡ q = same_order q o e in
        rw d (new_fits i (rw d at p) (rw d at l)))
        (λ n.
        let e : records_of longer o ≡ records_of im o = records_other im q o (records_of im q ++ rs) (λ d. n (sym d)) in
        let d : size_of longer o ≡ size_of im o = ap length e in
        absurd (omega arith)))

    pub appended_sound : size_of im q + length rs ≤ most q → Sound longer
    appended_sound l =
        record {
          arena = s.arena;
          bytes = s.bytes;
          counts = counts_set im q (records_of im q ++ rs) s.counts (rw length-append l);
          eight = longer_grows.sections ∙ s.eight;
          fits = longer_fits;
        }

-- one record
module _ {im : Image} (s : Sound im) (q : Section) (k : Growing q) (r : Rec) where
  pub new_height : FieldsFit im q (size_of im q) 0 (map sort_of (fields_of r.kind)) r.fields →
      slice_index (heights (appended im q (r ∷ [])) q) (size_of im q) ≡ tallest_child im q (heights im q) (fields_of r.kind) r.fields + 1
  new_height f = height_new (grows_keeps (longer_grows s q k (r ∷ []))) q (all_fit s q) r (own s q k (r ∷ [])) f

  pub one_sound : in_section q r.kind ≡ true → FieldsFit im q (size_of im q) 0 (map sort_of (fields_of r.kind)) r.fields →
      tallest_child im q (heights im q) (fields_of r.kind) r.fields < tallest q → size_of im q + 1 ≤ most q →
      Sound (appended im q (r ∷ []))
  one_sound kind f h l = appended_sound s q k (r ∷ []) fits l
    where
      fits : (j : ℕ) → j < 1 → RecordFits (appended im q (r ∷ [])) q (size_of im q + j) (slice_index_or (r ∷ []) j no_record)
      fits zero p =
          let e : size_of im q + 0 ≡ size_of im q = omega arith in
          rw e
          (record {
            kind = kind;
            fields = fields_kept (grows_keeps (longer_grows s q k (r ∷ []))) q (size_of im q) (size_of im q) (omega arith) (omega arith) f;
            height = rw (new_height f) (omega arith);
          })
      fits (suc j) p = absurd (omega arith)

-- the text bytes grow
pub bytes_sound : (im : Image) (x : List ℕ) → Sound im → AllBytes x → length im.bytes + length x ≤ most_bytes →
    Sound (with_bytes im (im.bytes ++ x))
bytes_sound im x s b l =
    record {
      arena = s.arena;
      bytes = append_bytes_lem im.bytes x s.bytes b;
      counts = counts_bytes (length im.bytes) (map length im.records) (length (im.bytes ++ x)) s.counts (rw length-append l);
      eight = s.eight;
      fits = fits_kept s (bytes_grow im x);
    }
