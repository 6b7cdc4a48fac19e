-- The reader accepts the sections of a well-formed image, and they are read back.
-- Assumes nothing.
use Prim.Native.Nat.{ℕ, suc, ◌+◌, ◌*◌, ◌≤◌, ◌<◌}
use Rattle.std.specs.Prelude.{◌≡◌, get_or, take}
use Rattle.std.proofs.Math.Path.{refl, ap, subst}
use Rattle.std.proofs.Common.{sym, ◌∙◌, arith, length-append}
use mathlib.Core.List.{List, [], ◌∷◌, map}
use Rattle.std.proofs.Math.ListN.{length}
use Rattle.std.proofs.Math.Seq.{sets, length-sets}
use Rattle.rl_spec.specs.declared.Section.{Section}
use Rattle.rl_spec.specs.declared.Section.TheVariants.{Texts, Lists, Expressions, Statements, Parameters, Clauses, Functions, Calls}
use Rattle.rl_spec.specs.Bytes.{u16_at}
use Rattle.rl_spec.specs.Schema.{text_bytes_at, sections, lowest, highest, sort_of, fields_of, fields_in, schema}
use Rattle.rl_spec.specs.Fields.{lists_at}
use Rattle.rl_spec.specs.Read.{good, sections_from}
use Rattle.rl_spec.specs.Image.{Field, Rec, Image, order_of, records_of, size_of, no_field, no_record, record_of, first, entry_of, encode_record, encode_records, encode_sections, encode, fields_at, widths_of, sections_in, heights, WellFormed}
use Rattle.rl_images.specs.Encoding.BytesAt.{BytesAt, left, right, moved, u16_number}
use Rattle.rl_images.specs.Images.SchemaSorts.{kind_range}
use Rattle.rl_images.specs.Encoding.FieldWidths.{SizedRecord, AllSizedRecords, record_sized, length_record, fields_in_lem, fields_stand, records_in_lem, end_at_lem, length_records, nth_stands}
use Rattle.rl_images.specs.Encoding.SectionLoop.{keep_all, starts, AlwaysReady, records_good}
use Rattle.rl_images.specs.Encoding.ReaderKnows.{counts, count_is, Placed, Told, told, texts_ready, lists_ready, expressions_ready, statements_ready, parameters_ready, clauses_ready, functions_ready, calls_ready}
use Rattle.rl_images.specs.Encoding.Header.{bounded, records_are, text_stands, sections_stand, length_encode}

all_sized : (rs : List Rec) → ((n : ℕ) → n < length rs → SizedRecord (get_or rs n no_record)) → AllSizedRecords rs
all_sized [] f = tt
all_sized (r ∷ rs) f = (f 0 (omega arith), all_sized rs (λ n l. f (suc n) (omega arith)))

-- where sections that start at a place end
abbrev end_from : Image → ℕ → List Section → ℕ
end_from im at [] = at
end_from im at (o ∷ os) = end_from im (at + length (encode_records (records_of im o))) os

end_is : (im : Image) (os : List Section) (at : ℕ) → end_from im at os ≡ at + length (encode_sections (map (records_of im) os))
unfolding encode_sections
end_is im [] at = omega arith
end_is im (o ∷ os) at =
    end_is im os (at + length (encode_records (records_of im o))) ∙ rw length-append (omega arith)

-- a number for each expression and each statement, kept
abbrev pub kept : Image → (Section → List ℕ) → List ℕ → List ℕ
kept im f w = sets (sets w 0 (f Expressions)) (size_of im Expressions) (f Statements)

-- where the sections start, and the records of each
abbrev pub place_of : Image → Section → ℕ
place_of im o = end_from im (text_bytes_at + length im.bytes) (take (order_of o) sections)

abbrev pub starts_in : Image → Section → List ℕ
starts_in im o = starts (place_of im o) (records_of im o)

module _ (im : Image) (wf : WellFormed im) where
  pub sized_at : (o : Section) (i : ℕ) → i < size_of im o → SizedRecord (record_of im o i)
  sized_at o i l = record_sized im (bounded im wf.counts) o i (omega (arith, (bounded im wf.counts).sizes o)) (record_of im o i) (wf.fits o i l)

  section_sized : (o : Section) → AllSizedRecords (records_of im o)
  section_sized o = all_sized (records_of im o) (sized_at o)

  -- ---- where the text bytes and the list entries stand

  -- the records of a section of one kind
  module _ (o : Section) (e : lowest o ≡ highest o) (i : ℕ) (l : i < size_of im o) where
    pub kind_at : (record_of im o i).kind ≡ lowest o
    kind_at = omega (arith, kind_range o (record_of im o i).kind (wf.fits o i l).kind)

    pub length_at : length (encode_record (record_of im o i)) ≡ suc (widths_of (fields_of (lowest o)))
    length_at = rw (length_record (record_of im o i) (sized_at o i l), kind_at)

  -- the sections from one on
  rest_stands : (o : Section) (os : List Section) (at : ℕ) → BytesAt (encode im) at (encode_sections (map (records_of im) (o ∷ os))) → BytesAt (encode im) at (encode_records (records_of im o))
  unfolding encode_sections
  rest_stands o os at st = left (encode_records (records_of im o)) (encode_sections (map (records_of im) os)) st

  next_stands : (o : Section) (os : List Section) (at : ℕ) → BytesAt (encode im) at (encode_sections (map (records_of im) (o ∷ os))) → BytesAt (encode im) (at + length (encode_records (records_of im o))) (encode_sections (map (records_of im) os))
  unfolding encode_sections
  next_stands o os at st = right (encode_records (records_of im o)) (encode_sections (map (records_of im) os)) st

  all_stand : BytesAt (encode im) (text_bytes_at + length im.bytes) (encode_sections (map (records_of im) sections))
  all_stand = subst (λ (rss : List (List Rec)). BytesAt (encode im) (text_bytes_at + length im.bytes) (encode_sections rss)) (records_are im wf) (sections_stand im wf)

  lists_stand : BytesAt (encode im) (lists_at (counts im)) (encode_records (records_of im Lists))
  unfolding sections widths_of fields_of fields_in schema sort_of
  lists_stand =
      let os : List Section = Expressions ∷ Statements ∷ Parameters ∷ Clauses ∷ Functions ∷ Calls ∷ [] in
      let st = rest_stands Lists os _ (next_stands Texts (Lists ∷ os) (text_bytes_at + length im.bytes) all_stand) in
      let e : length (encode_records (records_of im Texts)) ≡ size_of im Texts * 5 = length_records 5 no_record (records_of im Texts) (length_at Texts refl) in
      moved st (lists_at (counts im)) (ap (λ (n : ℕ). text_bytes_at + length im.bytes + n) e)

  entry_stands : (k : ℕ) → k < size_of im Lists → u16_at (encode im) (lists_at (counts im) + k * 3 + 1) ≡ entry_of im k
  unfolding widths_of fields_of fields_in schema sort_of fields_at
  entry_stands k l =
      let at : ℕ = lists_at (counts im) + k * 3 in
      let r : Rec = record_of im Lists k in
      let st : BytesAt (encode im) at (encode_record r) = nth_stands 3 no_record (records_of im Lists) (length_at Lists refl) lists_stand k l in
      let e = fields_in_lem (fields_of r.kind) r.fields (sized_at Lists k l) (fields_stand r st) in
      let d : fields_at (encode im) (fields_of 3) (at + 1) ≡ r.fields = subst (λ (j : ℕ). fields_at (encode im) (fields_of j) (at + 1) ≡ r.fields) (kind_at Lists refl k l) e in
      u16_number (encode im) (at + 1) ∙ ap (λ (fs : List Field). first (get_or fs 0 no_field)) d

  placed : Placed im (encode im)
  placed = record { text = text_stands im wf; entry = entry_stands }

  -- ---- the sections

  -- one section, and then the others
  section_good : (o : Section) (os : List Section) (at : ℕ) (w p : List ℕ) → BytesAt (encode im) at (encode_sections (map (records_of im) (o ∷ os))) → AlwaysReady im (encode im) (counts im) o w p → sections_from (encode im) (counts im) (o ∷ os) at w p ≡ sections_from (encode im) (counts im) os (at + length (encode_records (records_of im o))) (keep_all (counts im) o (heights im o) w) (keep_all (counts im) o (starts at (records_of im o)) p)
  unfolding sections_from
  section_good o os at w p st ready =
      rw (count_is im o, records_good im (encode im) (counts im) o at w p (bounded im wf.counts) ready (rest_stands o os at st) (wf.fits o))

  all_end : end_from im (text_bytes_at + length im.bytes) sections ≡ length (encode im)
  all_end =
      end_is im sections (text_bytes_at + length im.bytes)
      ∙ ap (λ (rss : List (List Rec)). text_bytes_at + length im.bytes + length (encode_sections rss)) (sym (records_are im wf))
      ∙ sym (length_encode im wf)

  module _ (w p : List ℕ) (room : size_of im Expressions + size_of im Statements ≤ length w) (roomy : size_of im Expressions + size_of im Statements ≤ length p) where
    pub sections_good : sections_from (encode im) (counts im) sections (text_bytes_at + length im.bytes) w p ≡ good (length (encode im)) (kept im (heights im) w) (kept im (starts_in im) p)
    unfolding sections sections_from
    sections_good =
        let s : List ℕ = encode im in
        let w1 : List ℕ = sets w 0 (heights im Expressions) in
        let w2 : List ℕ = kept im (heights im) w in
        let p1 : List ℕ = sets p 0 (starts_in im Expressions) in
        let p2 : List ℕ = kept im (starts_in im) p in
        let room1 : size_of im Expressions + size_of im Statements ≤ length w1 = rw length-sets room in
        let roomy1 : size_of im Expressions + size_of im Statements ≤ length p1 = rw length-sets roomy in
        let os1 : List Section = Lists ∷ Expressions ∷ Statements ∷ Parameters ∷ Clauses ∷ Functions ∷ Calls ∷ [] in
        let os2 : List Section = Expressions ∷ Statements ∷ Parameters ∷ Clauses ∷ Functions ∷ Calls ∷ [] in
        let os3 : List Section = Statements ∷ Parameters ∷ Clauses ∷ Functions ∷ Calls ∷ [] in
        let os4 : List Section = Parameters ∷ Clauses ∷ Functions ∷ Calls ∷ [] in
        let os5 : List Section = Clauses ∷ Functions ∷ Calls ∷ [] in
        let os6 : List Section = Functions ∷ Calls ∷ [] in
        let os7 : List Section = Calls ∷ [] in
        let st1 = next_stands Texts os1 _ all_stand in
        let st2 = next_stands Lists os2 _ st1 in
        let st3 = next_stands Expressions os3 _ st2 in
        let st4 = next_stands Statements os4 _ st3 in
        let st5 = next_stands Parameters os5 _ st4 in
        let st6 = next_stands Clauses os6 _ st5 in
        let st7 = next_stands Functions os7 _ st6 in
        let known : Told im s p2 = told im s p1 roomy1 (place_of im Statements) (rest_stands Statements os4 (place_of im Statements) st3) in
        section_good Texts os1 _ w p all_stand (texts_ready im s placed w p)
        ∙ section_good Lists os2 _ w p st1 (lists_ready im s placed w p)
        ∙ section_good Expressions os3 _ w p st2 (λ i h q l x y k. expressions_ready im s placed w p (omega arith) i h q l x)
        ∙ section_good Statements os4 _ w1 p1 st3 (λ i h q l x y k. statements_ready im s placed w1 p1 room1 roomy1 i h q l x y k)
        ∙ section_good Parameters os5 _ w2 p2 st4 (parameters_ready im s placed w2 p2 known)
        ∙ section_good Clauses os6 _ w2 p2 st5 (clauses_ready im s placed w2 p2 known)
        ∙ section_good Functions os7 _ w2 p2 st6 (functions_ready im s placed w2 p2 known)
        ∙ section_good Calls [] _ w2 p2 st7 (calls_ready im s placed w2 p2 known)
        ∙ ap (λ (n : ℕ). good n w2 p2) all_end

  -- ---- read back

  sections_in_lem : (os : List Section) (at : ℕ) → BytesAt (encode im) at (encode_sections (map (records_of im) os)) → sections_in (encode im) (counts im) os at ≡ map (records_of im) os
  unfolding sections_in
  sections_in_lem [] at st = refl
  sections_in_lem (o ∷ os) at st =
      let here = rest_stands o os at st in
      rw (count_is im o, records_in_lem (records_of im o) (section_sized o) here)
      (ap (λ (rss : List (List Rec)). records_of im o ∷ rss)
      (ap (sections_in (encode im) (counts im) os) (end_at_lem (records_of im o) (section_sized o) here) ∙ sections_in_lem os _ (next_stands o os at st)))

  pub records_back : sections_in (encode im) (counts im) sections (text_bytes_at + length im.bytes) ≡ im.records
  records_back = sections_in_lem sections (text_bytes_at + length im.bytes) all_stand ∙ sym (records_are im wf)
