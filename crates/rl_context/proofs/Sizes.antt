-- How many bytes records take.
-- Assumes nothing.
use Rattle.std.proofs.Common.{◌≡◌, ℕ, zero, suc, ◌+◌, ◌-◌, ◌*◌, ◌/◌, ◌%◌, ◌^◌, ◌<◌, ◌≤◌, Bool, true, false, cond, not, ◌&&◌, T, eqb, ltb, List, [], ◌∷◌, ◌++◌, length, get_or, sym, refl, ap, ◌∙◌, subst, ap₂, append_assoc, append-nil, arith, length-append, ltb-false}
use Rattle.rl_spec.specs.Schema.{Row, schema, sort_of, width_of, fields_in, fields_of}
use Rattle.rl_spec.specs.Image.{num, pair, Rec, bytes_of, encode_field, encode_fields, encode_record, encode_records, widths_of}
use Rattle.rl_spec.specs.Make.{made}
use Rattle.rl_schema.specs.Codes.{codes_in, codes}
use Rattle.rl_arena.proofs.Laws.{width_small}
use Rattle.rl_images.specs.Lowering.Grows.{list_records}
use Rattle.rl_images.specs.Encoding.BytesAt.{length_bytes}
use Rattle.rl_encode.specs.Words.{word_field, word_fields, word_record}
use Rattle.rl_encode.proofs.Records.{field_word}

pub records_append : (a b : List Rec) → encode_records (a ++ b) ≡ encode_records a ++ encode_records b
unfolding encode_records
records_append [] b = refl
records_append (r ∷ a) b = ap (λ s. encode_record r ++ s) (records_append a b) ∙ sym (append_assoc (encode_record r) (encode_records a) (encode_records b))

pub records_one : (a : List Rec) (r : Rec) → encode_records (a ++ r ∷ []) ≡ encode_records a ++ encode_record r
unfolding encode_records
records_one a r = records_append a (r ∷ []) ∙ ap (λ s. encode_records a ++ s) (append-nil (encode_record r))

-- ---- a record of words

fields_width : (cs ws : List ℕ) (j : ℕ) → length (encode_fields cs (word_fields cs ws j)) ≡ widths_of cs
unfolding encode_fields word_fields widths_of
fields_width [] ws j = refl
fields_width (c ∷ cs) ws j =
    length-append (encode_field (sort_of c) (word_field (sort_of c) (get_or ws j 0))) (encode_fields cs (word_fields cs ws (j + 1)))
    ∙ ap₂ (λ a b. a + b) (ap length (field_word (sort_of c) (get_or ws j 0)) ∙ length_bytes (width_of (sort_of c)) (get_or ws j 0)) (fields_width cs ws (j + 1))

narrow : List Row → Bool
narrow [] = true
narrow (r ∷ rs) = not (ltb 23 (widths_of r.fields)) && narrow rs

narrow_row : (k : ℕ) (rs : List Row) → narrow rs ≡ true → widths_of (fields_in k rs) ≤ 23
unfolding fields_in widths_of narrow
narrow_row k [] h = omega arith
narrow_row k (r ∷ rs) h = go (ltb 23 (widths_of r.fields)) refl h (λ e. narrow_row k rs e) (eqb k r.kind)
  where
    go : (t : Bool) → ltb 23 (widths_of r.fields) ≡ t → not t && narrow rs ≡ true → (narrow rs ≡ true → widths_of (fields_in k rs) ≤ 23) →
        (b : Bool) → widths_of (cond b r.fields (fields_in k rs)) ≤ 23
    go true e f rest b = absurd (subst T (sym f) tt)
    go false e f rest true = ltb-false 23 (widths_of r.fields) e
    go false e f rest false = rest f

all_narrow : narrow schema ≡ true
unfolding schema widths_of sort_of narrow
all_narrow = refl

pub record_bytes : (kind : ℕ) (ws : List ℕ) → encode_record (word_record kind ws) ≡ kind ∷ encode_fields (fields_of kind) (word_fields (fields_of kind) ws 0)
unfolding encode_record word_record
record_bytes kind ws = refl

pub record_narrow : (kind : ℕ) (ws : List ℕ) → length (encode_record (word_record kind ws)) ≤ 24
unfolding fields_of
record_narrow kind ws = rw (record_bytes kind ws) (omega (arith, fields_width (fields_of kind) ws 0, narrow_row kind schema all_narrow))

-- ---- a text's record, and list entries

pub text_record : (at n : ℕ) → at < 65536 → n < 65536 → encode_record (made 2 (pair at n ∷ [])) ≡ bytes_of 5 (2 + at * 256 + n * 16777216)
unfolding encode_record encode_fields bytes_of fields_of fields_in schema sort_of
text_record at n h k = λ i. a i ∷ b i ∷ c i ∷ d i ∷ e i ∷ []
  where
    a : 2 ≡ (2 + at * 256 + n * 16777216) % 256
    a = omega arith

    b : at % 256 ≡ (2 + at * 256 + n * 16777216) / 256 % 256
    b = omega arith

    c : at / 256 % 256 ≡ (2 + at * 256 + n * 16777216) / 256 / 256 % 256
    c = omega arith

    d : n % 256 ≡ (2 + at * 256 + n * 16777216) / 256 / 256 / 256 % 256
    d = omega arith

    e : n / 256 % 256 ≡ (2 + at * 256 + n * 16777216) / 256 / 256 / 256 / 256 % 256
    e = omega arith

pub entry_record : (n : ℕ) → n < 65536 → encode_record (made 3 (num n ∷ [])) ≡ bytes_of 3 (3 + n * 256)
unfolding encode_record encode_fields bytes_of fields_of fields_in schema sort_of
entry_record n h = λ i. a i ∷ b i ∷ c i ∷ []
  where
    a : 3 ≡ (3 + n * 256) % 256
    a = omega arith

    b : n % 256 ≡ (3 + n * 256) / 256 % 256
    b = omega arith

    c : n / 256 % 256 ≡ (3 + n * 256) / 256 / 256 % 256
    c = omega arith

pub entries_bytes : (ns : List ℕ) → length (encode_records (list_records ns)) ≡ 3 * length ns
unfolding encode_records encode_record encode_fields bytes_of fields_of fields_in schema sort_of
entries_bytes [] = refl
entries_bytes (n ∷ ns) = omega (arith, entries_bytes ns)

-- ---- a record of any row: eight fields of at most eight bytes

codes_narrow : (f n : ℕ) → widths_of (codes_in f n) ≤ 8 * f
unfolding codes_in widths_of
codes_narrow zero n = omega arith
codes_narrow (suc f) n = go (eqb n 0) (codes_narrow f (n / 256))
  where
    go : (b : Bool) → widths_of (codes_in f (n / 256)) ≤ 8 * f → widths_of (cond b [] (n % 256 ∷ codes_in f (n / 256))) ≤ 8 * suc f
    go true h = omega arith
    go false h = omega (arith, width_small (n % 256) (sort_of (n % 256)) refl (width_of (sort_of (n % 256))) refl)

pub record_room : (kind row : ℕ) (ws : List ℕ) (to n : ℕ) → to + 65 ≤ n → to + length (kind ∷ encode_fields (codes row) (word_fields (codes row) ws 0)) ≤ n
unfolding codes
record_room kind row ws to n h = omega (arith, fields_width (codes row) ws 0, codes_narrow 8 row)

pub record_ends : (kind row : ℕ) (ws : List ℕ) (from used next : ℕ) → used ≤ 186496 → next ≡ from + used + length (kind ∷ encode_fields (codes row) (word_fields (codes row) ws 0)) → next - from < 2 ^ 32
record_ends kind row ws from used next h e = omega (arith, e, record_room kind row ws 0 65 (omega arith))
