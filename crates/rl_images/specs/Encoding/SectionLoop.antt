-- The reader's loop over the records of a section: those that fit are read, and those that are read fit.
-- Assumes nothing.
use Prim.Native.Nat.{ℕ, zero, suc, ◌+◌, ◌≤◌, ◌<◌}
use Rattle.std.specs.Prelude.{◌≡◌, get_or, set, Ok, Err}
use Rattle.std.proofs.Math.Path.{refl, ap}
use Rattle.std.proofs.Common.{ap₂, ◌∙◌, add-one, drop-cons}
use mathlib.Core.List.{List, [], ◌∷◌, ◌++◌, append_assoc, append-nil}
use native.Mathlib.Omega.{arith}
use Rattle.std.proofs.Math.ListN.{length, drop, length-append, get_or-append, drop_of_length-le}
use Rattle.std.proofs.lemmas.List.{get_or_at}
use Rattle.std.proofs.lemmas.List.Edits.{sets}
use Rattle.rl_spec.specs.declared.Counts.{Counts}
use Rattle.rl_spec.specs.declared.Section.{Section}
use Rattle.rl_spec.specs.declared.Section.TheVariants.{Texts, Lists, Expressions, Statements, Parameters, Clauses, Functions, Calls}
use Rattle.rl_spec.specs.Answers.{Step, goes_on}
use Rattle.rl_spec.specs.Schema.{tallest, fields_of}
use Rattle.rl_spec.specs.Fields.{record_at}
use Rattle.rl_spec.specs.Read.{after, Out, good, bad, seen_by, keep, records_from}
use Rattle.rl_spec.specs.Image.{Rec, Image, records_of, size_of, no_record, record_of, encode_record, encode_records, record_in, next_at, records_in, tallest_child, heights_from, heights, RecordFits, AllBytes}
use Rattle.rl_laws.specs.Tests.{by_ltb}
use Rattle.rl_images.specs.Encoding.BytesAt.{BytesAt, left, right}
use Rattle.rl_images.specs.Encoding.FieldWidths.{Bounded, record_sized, kind_stands, next_at_lem}
use Rattle.rl_images.specs.Encoding.FieldChecks.{Ready}
use Rattle.rl_images.specs.Encoding.RecordChecks.{record_good}
use Rattle.rl_images.specs.Encoding.CheckedFits.{record_fits}

-- ---- numbers kept for the records of a section, from its first on

abbrev pub keep_all : Counts → Section → List ℕ → List ℕ → List ℕ
keep_all c Texts xs w = w
keep_all c Lists xs w = w
keep_all c Expressions xs w = sets w 0 xs
keep_all c Statements xs w = sets w c.expressions xs
keep_all c Parameters xs w = w
keep_all c Clauses xs w = w
keep_all c Functions xs w = w
keep_all c Calls xs w = w

sets_last : (w : List ℕ) (a : ℕ) (xs : List ℕ) (x : ℕ) → set (sets w a xs) (a + length xs) x ≡ sets w a (xs ++ x ∷ [])
sets_last w a [] x = let e : a + 0 ≡ a = omega arith in rw e
sets_last w a (y ∷ ys) x =
    let e : a + suc (length ys) ≡ suc a + length ys = omega arith in
    rw e (sets_last (set w a y) (suc a) ys x)

keep_last : (c : Counts) (o : Section) (i : ℕ) (xs : List ℕ) (x : ℕ) (w : List ℕ) → length xs ≡ i → keep c o i x (keep_all c o xs w) ≡ keep_all c o (xs ++ x ∷ []) w
keep_last c Texts i xs x w e = refl
keep_last c Lists i xs x w e = refl
keep_last c Expressions i xs x w e = let d : i ≡ 0 + length xs = omega arith in rw d (sets_last w 0 xs x)
keep_last c Statements i xs x w e = rw (← e) (sets_last w c.expressions xs x)
keep_last c Parameters i xs x w e = refl
keep_last c Clauses i xs x w e = refl
keep_last c Functions i xs x w e = refl
keep_last c Calls i xs x w e = refl

keep_none : (c : Counts) (o : Section) (w : List ℕ) → keep_all c o [] w ≡ w
keep_none c Texts w = refl
keep_none c Lists w = refl
keep_none c Expressions w = refl
keep_none c Statements w = refl
keep_none c Parameters w = refl
keep_none c Clauses w = refl
keep_none c Functions w = refl
keep_none c Calls w = refl

-- ---- heights, and where records start

module _ (im : Image) (o : Section) where
  pub heights_kept : (rs : List Rec) (h : List ℕ) (n : ℕ) → n < length h → get_or (heights_from im o rs h) n 0 ≡ get_or h n 0
  unfolding heights_from
  heights_kept [] h n p = refl
  heights_kept (r ∷ rs) h n p =
      let x : List ℕ = (tallest_child im o h (fields_of r.kind) r.fields + 1) ∷ [] in
      heights_kept rs (h ++ x) n (rw length-append (omega arith)) ∙ get_or-append h x 0 n p

  pub length_heights : (rs : List Rec) (h : List ℕ) → length (heights_from im o rs h) ≡ length h + length rs
  unfolding heights_from
  length_heights [] h = omega arith
  length_heights (r ∷ rs) h =
      let x : List ℕ = (tallest_child im o h (fields_of r.kind) r.fields + 1) ∷ [] in
      length_heights rs (h ++ x) ∙ rw length-append (omega arith)

  -- the height of the record that comes next
  next_height : (r : Rec) (rs : List Rec) (h : List ℕ) (i : ℕ) → length h ≡ i → heights im o ≡ heights_from im o (r ∷ rs) h → get_or (heights im o) i 0 ≡ tallest_child im o h (fields_of r.kind) r.fields + 1
  unfolding heights_from
  next_height r rs h i e d =
      let y : ℕ = tallest_child im o h (fields_of r.kind) r.fields + 1 in
      rw (d, heights_kept rs (h ++ y ∷ []) i (rw length-append (omega arith))) (get_or_at h y [] 0 i e)

-- where records that follow one another start
unfoldable pub starts : ℕ → List Rec → List ℕ
starts at [] = []
starts at (r ∷ rs) = at ∷ starts (at + length (encode_record r)) rs

pub length_starts : (at : ℕ) (rs : List Rec) → length (starts at rs) ≡ length rs
unfolding starts
length_starts at [] = refl
length_starts at (r ∷ rs) = ap suc (length_starts (at + length (encode_record r)) rs)

pub starts_kind : {s : List ℕ} {at : ℕ} (rs : List Rec) → BytesAt s at (encode_records rs) → (n : ℕ) → n < length rs → get_or s (get_or (starts at rs) n 0) 0 ≡ (get_or rs n no_record).kind
unfolding starts encode_records
starts_kind [] st n p = absurd (omega arith)
starts_kind (r ∷ rs) st zero p = kind_stands r (left (encode_record r) (encode_records rs) st)
starts_kind {s = s} {at = at} (r ∷ rs) st (suc n) p = starts_kind {at = at + length (encode_record r)} rs (right (encode_record r) (encode_records rs) st) n (omega arith)

-- ---- the loop

-- reading that ends well has gone past each record
after_good : (r : Step) (f : ℕ → ℕ → Out) (m : ℕ) (v q : List ℕ) → after r f bad ≡ good m v q → (a : ℕ) × (t : ℕ) × (r ≡ goes_on a t)
after_good (Ok s) f m v q e = (s.at, s.tall, refl)
after_good (Err r) f m v q e = let z : ◌≡◌ {A = ℕ} 0 1 = cc in absurd (omega arith)

-- the reader is ready at each record of a section, h being the heights and q the starts of the earlier ones
abbrev pub AlwaysReady : Image → List ℕ → Counts → Section → List ℕ → List ℕ → Type 0
AlwaysReady im s c o w p =
    (i : ℕ) (h q : List ℕ) → i < size_of im o → length h ≡ i → length q ≡ i
    → ((n : ℕ) → n < i → get_or s (get_or q n 0) 0 ≡ (record_of im o n).kind)
    → Ready im s (keep_all c o h w) (keep_all c o q p) (seen_by c o i) o i h

module _ (im : Image) (s : List ℕ) (c : Counts) (o : Section) (start : ℕ) (w p : List ℕ) where
  -- after i records: what is left of the heights, of the starts and of the bytes
  record Before (i at : ℕ) (h q : List ℕ) : Type 0 where
    tall : length h ≡ i
    many : length q ≡ i
    heights_left : heights im o ≡ heights_from im o (drop i (records_of im o)) h
    starts_left : starts start (records_of im o) ≡ q ++ starts at (drop i (records_of im o))
    stands : BytesAt s at (encode_records (drop i (records_of im o)))

  before_first : BytesAt s start (encode_records (records_of im o)) → Before 0 start [] []
  unfolding heights
  before_first whole = record { tall = refl; many = refl; heights_left = refl; starts_left = refl; stands = whole }

  module _ (bounded : Bounded im) (ready : AlwaysReady im s c o w p) (whole : BytesAt s start (encode_records (records_of im o))) where
    earlier_kinds : (i : ℕ) (q rest : List ℕ) → i ≤ size_of im o → length q ≡ i → starts start (records_of im o) ≡ q ++ rest → (n : ℕ) → n < i → get_or s (get_or q n 0) 0 ≡ (record_of im o n).kind
    earlier_kinds i q rest l e d n m =
        let z : get_or (starts start (records_of im o)) n 0 ≡ get_or q n 0 = rw d (get_or-append q rest 0 n (omega arith)) in
        rw z at (starts_kind (records_of im o) whole n (omega arith))

    -- at the i-th record
    module _ (i at : ℕ) (h q : List ℕ) (l : i < size_of im o) (b : Before i at h q) where
      abbrev here : Rec
      here = record_of im o i

      abbrev later : List Rec
      later = drop (i + 1) (records_of im o)

      records_left : drop i (records_of im o) ≡ here ∷ later
      records_left = rw add-one (drop-cons (records_of im o) i no_record l)

      here_stands : BytesAt s at (encode_record here ++ encode_records later)
      unfolding encode_records
      here_stands = rw records_left at b.stands

      abbrev height_here : ℕ
      height_here = tallest_child im o h (fields_of here.kind) here.fields + 1

      heights_here : heights im o ≡ heights_from im o (here ∷ later) h
      heights_here = rw records_left at b.heights_left

      height_is : get_or (heights im o) i 0 ≡ height_here
      height_is = next_height im o here later h i b.tall heights_here

      ready_here : Ready im s (keep_all c o h w) (keep_all c o q p) (seen_by c o i) o i h
      ready_here = ready i h q l b.tall b.many (earlier_kinds i q (starts at (drop i (records_of im o))) (omega arith) b.many b.starts_left)

      before_next : Before (i + 1) (at + length (encode_record here)) (h ++ height_here ∷ []) (q ++ at ∷ [])
      unfolding heights_from starts
      before_next =
          let y : starts start (records_of im o) ≡ q ++ at ∷ starts (at + length (encode_record here)) later = rw records_left at b.starts_left in
          record {
            tall = rw length-append (omega (arith, b.tall));
            many = rw length-append (omega (arith, b.many));
            heights_left = heights_here;
            starts_left = rw append_assoc y;
            stands = right (encode_record here) (encode_records later) here_stands;
          }

      -- the record is read if it fits
      records_step : RecordFits im o i here → (n : ℕ) → records_from s c o (suc n) i at (keep_all c o h w) (keep_all c o q p) ≡ records_from s c o n (i + 1) (at + length (encode_record here)) (keep_all c o (h ++ height_here ∷ []) w) (keep_all c o (q ++ at ∷ []) p)
      unfolding records_from
      records_step f n =
          let g : height_here ≤ tallest o = rw height_is at f.height in
          let step = record_good im bounded s (keep_all c o h w) (keep_all c o q p) (seen_by c o i) o i h (omega (arith, bounded.sizes o)) ready_here here f at (left (encode_record here) (encode_records later) here_stands) g in
          rw step (ap₂ (records_from s c o n (i + 1) (at + length (encode_record here))) (keep_last c o i h height_here w b.tall) (keep_last c o i q at p b.many))

    module _ (fits : (i : ℕ) → i < size_of im o → RecordFits im o i (record_of im o i)) where
      loop : (n i at : ℕ) (h q : List ℕ) → i + n ≡ size_of im o → Before i at h q → records_from s c o n i at (keep_all c o h w) (keep_all c o q p) ≡ good (at + length (encode_records (drop i (records_of im o)))) (keep_all c o (heights im o) w) (keep_all c o (starts start (records_of im o)) p)
      unfolding records_from encode_records heights_from starts
      loop zero i at h q e b =
          let d : drop i (records_of im o) ≡ [] = drop_of_length-le (records_of im o) {i = i} (omega arith) in
          let x : heights im o ≡ h = rw d at b.heights_left in
          let y : starts start (records_of im o) ≡ q ++ [] = rw d at b.starts_left in
          let a : at + 0 ≡ at = omega arith in
          rw (d, x, y, append-nil, a)
      loop (suc n) i at h q e b =
          let l : i < size_of im o = omega arith in
          let a : ℕ = at + length (encode_record (record_of im o i)) in
          let z : a + length (encode_records (drop (i + 1) (records_of im o))) ≡ at + length (encode_records (drop i (records_of im o))) = rw (records_left i at h q l b, length-append) (omega arith) in
          records_step i at h q l b (fits i l) n ∙ loop n (i + 1) a _ _ (omega arith) (before_next i at h q l b)
          ∙ ap (λ (m : ℕ). good m (keep_all c o (heights im o) w) (keep_all c o (starts start (records_of im o)) p)) z

      pub records_good : records_from s c o (size_of im o) 0 start w p ≡ good (start + length (encode_records (records_of im o))) (keep_all c o (heights im o) w) (keep_all c o (starts start (records_of im o)) p)
      records_good = rw (keep_none c o w, keep_none c o p) at (loop (size_of im o) 0 start [] [] (omega arith) (before_first whole))

    module _ (bytes : AllBytes s) where
      -- at the i-th record, n being left: where reading ends well, those from there on fit
      loop_fits : (n i at : ℕ) (h q : List ℕ) → i + n ≡ size_of im o → Before i at h q → records_in s n at ≡ drop i (records_of im o) → (m : ℕ) (v x : List ℕ) → records_from s c o n i at (keep_all c o h w) (keep_all c o q p) ≡ good m v x → (j : ℕ) → i ≤ j → j < size_of im o → RecordFits im o j (record_of im o j)
      unfolding records_in records_from
      loop_fits zero i at h q e b f m v x g j y z = absurd (omega arith)
      loop_fits (suc n) i at h q e b f m v x g j y z =
          let l : i < size_of im o = omega arith in
          let short : i ≤ 4096 = omega (arith, bounded.sizes o) in
          let r : Rec = record_of im o i in
          let d : record_in s at ∷ records_in s n (next_at s at) ≡ r ∷ drop (i + 1) (records_of im o) = f ∙ records_left i at h q l b in
          let found : record_in s at ≡ r = cc in
          let st = left (encode_record r) (encode_records (drop (i + 1) (records_of im o))) (here_stands i at h q l b) in
          let k = after_good (record_at s (keep_all c o h w) (keep_all c o q p) (seen_by c o i) o at) _ m v x g in
          let fits : RecordFits im o i r = record_fits im s (keep_all c o h w) (keep_all c o q p) bytes (seen_by c o i) o i h (ready_here i at h q l b) bounded short r at k.0 k.1 found st (height_is i at h q l b) k.2 in
          let a : next_at s at ≡ at + length (encode_record r) = next_at_lem r st (record_sized im bounded o i short r fits) in
          let rest : records_in s n (next_at s at) ≡ drop (i + 1) (records_of im o) = cc in
          by_ltb i j (λ t. loop_fits n (i + 1) (at + length (encode_record r)) _ _ (omega arith) (before_next i at h q l b) (rw a at rest) m v x (rw (records_step i at h q l b fits n) at g) j (omega arith) z)
          (λ t.
          let u : i ≡ j = omega arith in
          rw u at fits)

      pub records_fit : records_in s (size_of im o) start ≡ records_of im o → (m : ℕ) (v x : List ℕ) → records_from s c o (size_of im o) 0 start w p ≡ good m v x → (i : ℕ) → i < size_of im o → RecordFits im o i (record_of im o i)
      records_fit f m v x g i l = loop_fits (size_of im o) 0 start [] [] (omega arith) (before_first whole) f m v x (rw (keep_none c o w, keep_none c o p) g) i (omega arith) l
