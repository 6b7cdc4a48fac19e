-- The bytes of an image as pieces: its sections, and a record with one field replaced.
-- Assumes nothing.
use Prim.Native.Nat.{ℕ, zero, suc, ◌+◌, ◌*◌, ◌<◌}
use mathlib.Core.Path.{◌≡◌, refl, ap, ap₂, sym, ◌∙◌}
use mathlib.Core.List.{List, [], ◌∷◌, ◌++◌, append_assoc, append-nil}
use native.Mathlib.Omega.{arith}
use lib.ListN.{length, get_or, set, take, drop, length-append}
use lib.Seq.{set_split, set-get_or, get_or-take, length-take-le}
use Rattle.rl_spec.specs.Schema.{sort_of, width_of, fields_of}
use Rattle.rl_spec.specs.Image.{Field, Rec, Image, no_field, no_record, bytes_of, encode_field, encode_fields, encode_record, encode_records, encode_sections, encode_counts, encode, widths_of}
use Rattle.rl_spec.specs.Make.{made}
use Rattle.rl_images.specs.Encoding.BytesAt.{length_bytes}
use Rattle.rl_images.specs.Encoding.FieldWidths.{AllSized, SizedRecord, width, length_records}

-- ---- the whole

pub record Sections : Type 0 where
  pub texts : List Rec
  pub lists : List Rec
  pub expressions : List Rec
  pub statements : List Rec
  pub parameters : List Rec
  pub clauses : List Rec
  pub functions : List Rec
  pub calls : List Rec

abbrev pub image_with : ℕ → List ℕ → Sections → Image
image_with arena bytes o =
    record {
      arena = arena;
      bytes = bytes;
      records =
          o.texts ∷ o.lists ∷ o.expressions ∷ o.statements ∷ o.parameters ∷ o.clauses ∷ o.functions ∷ o.calls ∷ [];
    }

abbrev pub count : List Rec → List ℕ
count rs = bytes_of 2 (length rs)

-- the counts that lowering changes, and the others
abbrev pub five_counts : List ℕ → Sections → List ℕ
five_counts bytes o =
    bytes_of 2 (length bytes) ++ count o.texts ++ count o.lists ++ count o.expressions ++ count o.statements

abbrev pub four_counts : Sections → List ℕ
four_counts o = count o.parameters ++ count o.clauses ++ count o.functions ++ count o.calls

abbrev pub rest_of : Sections → List ℕ
rest_of o = encode_records o.parameters ++ (encode_records o.clauses ++ (encode_records o.functions ++ encode_records o.calls))

abbrev pub sections_of : Sections → List ℕ
sections_of o =
    encode_records o.texts
    ++ (encode_records o.lists ++ (encode_records o.expressions ++ (encode_records o.statements ++ rest_of o)))

-- all of it, and how long it is
abbrev pub layout : ℕ → List ℕ → Sections → List ℕ
layout arena bytes o = (1 ∷ bytes_of 4 arena) ++ (five_counts bytes o ++ (four_counts o ++ (bytes ++ sections_of o)))

abbrev pub layout_length : List ℕ → Sections → ℕ
layout_length bytes o =
    23 + length bytes + length (encode_records o.texts) + length (encode_records o.lists)
    + length (encode_records o.expressions)
    + length (encode_records o.statements)
    + length (rest_of o)

regroup : (h n₀ n₁ n₂ n₃ n₄ n₅ n₆ n₇ n₈ b t l e s p c f k : List ℕ) →
    h ++ n₀ ++ (n₁ ++ (n₂ ++ (n₃ ++ (n₄ ++ (n₅ ++ (n₆ ++ (n₇ ++ (n₈ ++ [])))))))) ++ b ++ (t ++ (l ++ (e ++ (s ++ (p ++ (c ++ (f ++ (k ++ [])))))))) ≡
    h ++ ((n₀ ++ n₁ ++ n₂ ++ n₃ ++ n₄) ++ ((n₅ ++ n₆ ++ n₇ ++ n₈) ++ (b ++ (t ++ (l ++ (e ++ (s ++ (p ++ (c ++ (f ++ k))))))))))
regroup h n₀ n₁ n₂ n₃ n₄ n₅ n₆ n₇ n₈ b t l e s p c f k = simp (append_assoc, append-nil)

pub laid : (arena : ℕ) (bytes : List ℕ) (o : Sections) → encode (image_with arena bytes o) ≡ layout arena bytes o
unfolding encode encode_counts encode_sections
laid arena bytes o =
    regroup (1 ∷ bytes_of 4 arena) (bytes_of 2 (length bytes)) (count o.texts) (count o.lists) (count o.expressions) (count o.statements)
    (count o.parameters) (count o.clauses) (count o.functions) (count o.calls) bytes (encode_records o.texts) (encode_records o.lists)
    (encode_records o.expressions) (encode_records o.statements) (encode_records o.parameters) (encode_records o.clauses)
    (encode_records o.functions) (encode_records o.calls)

pub five_length : (bytes : List ℕ) (o : Sections) → length (five_counts bytes o) ≡ 10
five_length bytes o = simp (length-append, length_bytes)

pub four_length : (o : Sections) → length (four_counts o) ≡ 8
four_length o = simp (length-append, length_bytes)

pub laid_length : (arena : ℕ) (bytes : List ℕ) (o : Sections) → length (layout arena bytes o) ≡ layout_length bytes o
laid_length arena bytes o =
    rw (
      length-append,
      length_bytes,
      length-append,
      five_length,
      length-append,
      four_length,
      length-append,
      length-append,
      length-append,
      length-append,
      length-append,
    ) (omega arith)

pub append_records : (rs qs : List Rec) → encode_records (rs ++ qs) ≡ encode_records rs ++ encode_records qs
unfolding encode_records
append_records [] qs = refl
append_records (r ∷ rs) qs = ap (λ x. encode_record r ++ x) (append_records rs qs) ∙ sym (append_assoc (encode_record r) (encode_records rs) (encode_records qs))

-- ---- a field in the place of another

pub fields_set : (cs : List ℕ) (fs : List Field) (j : ℕ) (g : Field) → AllSized cs fs → j < length fs →
    encode_fields cs (set fs j g) ≡ encode_fields (take j cs) (take j fs) ++ (encode_field (sort_of (get_or cs j 0)) g ++ encode_fields (drop (suc j) cs) (drop (suc j) fs))
unfolding encode_fields
fields_set cs [] j g z l = absurd (omega arith)
fields_set [] (f ∷ fs) j g z l = absurd z
fields_set (c ∷ cs) (f ∷ fs) zero g z l = refl
fields_set (c ∷ cs) (f ∷ fs) (suc j) g z l =
    ap (λ x. encode_field (sort_of c) f ++ x) (fields_set cs fs j g z.1 (omega arith)) ∙ sym (append_assoc (encode_field (sort_of c) f) _ _)

pub front_width : (cs : List ℕ) (fs : List Field) (j : ℕ) → AllSized cs fs → length (encode_fields (take j cs) (take j fs)) ≡
    widths_of (take j cs)
unfolding encode_fields widths_of
front_width cs fs zero z = refl
front_width [] [] (suc j) z = refl
front_width [] (f ∷ fs) (suc j) z = absurd z
front_width (c ∷ cs) [] (suc j) z = absurd z
front_width (c ∷ cs) (f ∷ fs) (suc j) z = length-append (encode_field (sort_of c) f) _ ∙ ap₂ (λ m n. m + n) (width (sort_of c) f z.0) (front_width cs fs j z.1)

pub field_width : (cs : List ℕ) (fs : List Field) (j : ℕ) → AllSized cs fs → j < length fs →
    length (encode_field (sort_of (get_or cs j 0)) (get_or fs j no_field)) ≡ width_of (sort_of (get_or cs j 0))
field_width cs [] j z l = absurd (omega arith)
field_width [] (f ∷ fs) j z l = absurd z
field_width (c ∷ cs) (f ∷ fs) zero z l = width (sort_of c) f z.0
field_width (c ∷ cs) (f ∷ fs) (suc j) z l = field_width cs fs j z.1 (omega arith)

pub as_many : (cs : List ℕ) (fs : List Field) → AllSized cs fs → length fs ≡ length cs
as_many [] [] z = refl
as_many [] (f ∷ fs) z = absurd z
as_many (c ∷ cs) [] z = absurd z
as_many (c ∷ cs) (f ∷ fs) z = ap suc (as_many cs fs z.1)

-- ---- a record of equal ones, with the j-th field replaced

module _ (m : ℕ) (rs : List Rec) (i j : ℕ) (alike : (n : ℕ) → n < length rs → length (encode_record (get_or rs n no_record)) ≡ m) (l : i < length rs) where
  abbrev here : Rec
  here = get_or rs i no_record

  abbrev codes_here : List ℕ
  codes_here = fields_of here.kind

  abbrev pub records_with : Field → List Rec
  records_with g = set rs i (made here.kind (set here.fields j g))

  unfoldable pub before : List ℕ
  before = encode_records (take i rs) ++ here.kind ∷ encode_fields (take j codes_here) (take j here.fields)

  unfoldable pub behind : List ℕ
  behind = encode_fields (drop (suc j) codes_here) (drop (suc j) here.fields) ++ encode_records (drop (suc i) rs)

  module _ (z : SizedRecord here) (q : j < length here.fields) where
    pub with_field : (g : Field) → encode_records (records_with g) ≡ before ++ (encode_field (sort_of (get_or codes_here j 0)) g ++ behind)
    unfolding encode_records encode_record before behind
    with_field g =
        ap encode_records (set_split rs i _ l)
        ∙ append_records (take i rs) _
        ∙ ap (λ x. encode_records (take i rs) ++ (here.kind ∷ x ++ encode_records (drop (suc i) rs))) (fields_set codes_here here.fields j g z q)
        ∙ simp append_assoc

    pub as_it_is : records_with (get_or here.fields j no_field) ≡ rs
    as_it_is = ap (λ fs. set rs i (made here.kind fs)) (set-get_or here.fields j no_field) ∙ set-get_or rs i no_record

    pub length_before : length before ≡ i * m + suc (widths_of (take j codes_here))
    unfolding before
    length_before =
        length-append (encode_records (take i rs)) _
        ∙ ap₂ (λ a b. a + suc b)
        (length_records m no_record (take i rs) (λ n h. ap (λ r. length (encode_record r)) (get_or-take i rs n no_record (rw size at h)) ∙ alike n (omega (arith, size)))
        ∙ ap (λ k. k * m) size)
        (front_width codes_here here.fields j z)
      where
        size : length (take i rs) ≡ i
        size = length-take-le i rs (omega arith)
