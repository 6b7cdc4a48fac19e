-- The bytes of a well-formed image are bytes.
-- Assumes nothing.
use Rattle.std.specs.Prelude.{ℕ, zero, suc, ◌/◌, ◌<◌, List, [], ◌∷◌, ◌++◌, map, length, slice_index_or}
use Rattle.std.proofs.Common.{sym, subst, arith, lit<}
use Rattle.rl_spec.specs.declared.Section.{Section}
use Rattle.rl_spec.specs.declared.Section.TheVariants.{Texts, Lists, Expressions, Statements, Parameters, Clauses, Functions, Calls}
use Rattle.rl_spec.specs.declared.Sort.{Sort}
use Rattle.rl_spec.specs.Schema.{sections, highest, sort_of, width_of, fields_of}
use Rattle.rl_spec.specs.Image.{Field, num, pair, Rec, Image, records_of, no_record, record_of, bytes_of, encode_field, encode_fields, encode_record, encode_records, encode_sections, encode_counts, encode, AllBytes, WellFormed}
use Rattle.rl_images.specs.Images.SchemaSorts.{kind_range}
use Rattle.rl_images.specs.Encoding.Header.{records_are}

pub append_bytes_lem : (x y : List ℕ) → AllBytes x → AllBytes y → AllBytes (x ++ y)
append_bytes_lem [] y a b = b
append_bytes_lem (n ∷ x) y a b = (a.0, append_bytes_lem x y a.1 b)

number_bytes : (n x : ℕ) → AllBytes (bytes_of n x)
unfolding bytes_of
number_bytes zero x = tt
number_bytes (suc n) x = (omega arith, number_bytes n (x / 256))

field_bytes : (k : Sort) (f : Field) → AllBytes (encode_field k f)
field_bytes k (num x) = number_bytes (width_of k) x
field_bytes k (pair a b) = append_bytes_lem (bytes_of 2 a) (bytes_of 2 b) (number_bytes 2 a) (number_bytes 2 b)

fields_bytes : (cs : List ℕ) (fs : List Field) → AllBytes (encode_fields cs fs)
unfolding encode_fields
fields_bytes [] fs = tt
fields_bytes (c ∷ cs) [] = tt
fields_bytes (c ∷ cs) (f ∷ fs) = append_bytes_lem (encode_field (sort_of c) f) (encode_fields cs fs) (field_bytes (sort_of c) f) (fields_bytes cs fs)

records_bytes : (rs : List Rec) → ((n : ℕ) → n < length rs → (slice_index_or rs n no_record).kind < 256) → AllBytes (encode_records rs)
unfolding encode_records encode_record
records_bytes [] f = tt
records_bytes (r ∷ rs) f =
    append_bytes_lem (encode_record r) (encode_records rs) (f 0 (omega arith), fields_bytes (fields_of r.kind) r.fields)
    (records_bytes rs (λ n l. f (suc n) (omega arith)))

counts_bytes : (rss : List (List Rec)) → AllBytes (encode_counts rss)
unfolding encode_counts
counts_bytes [] = tt
counts_bytes (rs ∷ rss) = append_bytes_lem (bytes_of 2 (length rs)) (encode_counts rss) (number_bytes 2 (length rs)) (counts_bytes rss)

kind_small : (o : Section) → highest o < 256
kind_small Texts = lit< tt
kind_small Lists = lit< tt
kind_small Expressions = lit< tt
kind_small Statements = lit< tt
kind_small Parameters = lit< tt
kind_small Clauses = lit< tt
kind_small Functions = lit< tt
kind_small Calls = lit< tt

sections_bytes : (im : Image) → WellFormed im → (os : List Section) → AllBytes (encode_sections (map (records_of im) os))
unfolding encode_sections
sections_bytes im wf [] = tt
sections_bytes im wf (o ∷ os) =
    append_bytes_lem (encode_records (records_of im o)) (encode_sections (map (records_of im) os))
    (records_bytes (records_of im o) (λ n l. omega (arith, kind_small o, kind_range o (record_of im o n).kind (wf.fits o n l).kind)))
    (sections_bytes im wf os)

pub encoded_bytes : (im : Image) → WellFormed im → AllBytes (encode im)
unfolding encode
encoded_bytes im wf =
    let a : List ℕ = 1 ∷ bytes_of 4 im.arena in
    let b : List ℕ = bytes_of 2 (length im.bytes) in
    let c : List ℕ = encode_counts im.records in
    let d : AllBytes (encode_sections im.records) = subst (λ (rss : List (List Rec)). AllBytes (encode_sections rss)) (sym (records_are im wf)) (sections_bytes im wf sections) in
    append_bytes_lem (a ++ b ++ c ++ im.bytes) (encode_sections im.records)
    (append_bytes_lem (a ++ b ++ c) im.bytes
    (append_bytes_lem (a ++ b) c (append_bytes_lem a b (lit< tt, number_bytes 4 im.arena) (number_bytes 2 (length im.bytes))) (counts_bytes im.records))
    wf.bytes)
    d
