-- A record that the reader goes past fits, once the reader knows what came before it.
-- Assumes nothing.
use Prim.Native.Nat.{ℕ, zero, suc, ◌+◌, ◌-◌, ◌%◌, ◌^◌, ◌≤◌, ◌<◌, max}
use Rattle.std.specs.Prelude.{◌≡◌, Bool, ◌||◌, ◌⊎◌, ltb, leb, take, drop, Ok, Err}
use Rattle.std.proofs.Math.Path.{refl}
use Rattle.std.proofs.Common.{ap, subst}
use Rattle.std.proofs.Math.Bool.{true, false, cond}
use Rattle.std.proofs.lemmas.Bool.{false≢true}
use mathlib.Core.List.{List, [], ◌∷◌, map}
use Rattle.std.proofs.Math.Logic.{inl, inr}
use native.Mathlib.Omega.{arith}
use Rattle.std.proofs.Math.Nat.{pow-suc}
use Rattle.std.proofs.Math.Dec.{eqb}
use Rattle.std.proofs.Math.ListN.{length, get_or}
use borrow.Author.Tests.{ltb-true, ltb-false, leb-true, eqb-true, ne_eqb}
use Rattle.rl_spec.specs.declared.Counts.{Counts}
use Rattle.rl_spec.specs.declared.Cause.{Cause}
use Rattle.rl_spec.specs.declared.Cause.TheVariants.{BytesEnd, WrongKind, BadText, BadValue, BadReference, TooHigh}
use Rattle.rl_spec.specs.declared.Section.{Section}
use Rattle.rl_spec.specs.declared.Section.TheVariants.{Texts, Lists}
use Rattle.rl_spec.specs.declared.Target.{Target}
use Rattle.rl_spec.specs.declared.Target.TheVariants.{Text}
use Rattle.rl_spec.specs.declared.Sort.{Sort}
use Rattle.rl_spec.specs.declared.Sort.TheVariants.{Raw, Byte, Scalar, Part, One, Maybe, Many, Range, OperandSort, Operand}
use Rattle.rl_spec.specs.Answers.{Check, goes_on, refused, Step}
use Rattle.rl_spec.specs.Bytes.{num_at, u16_at, u32_at, past}
use Rattle.rl_spec.specs.Schema.{text_bytes_at, count_of, in_section, tallest, operand_sort, sort_of, width_of, fields_of}
use Rattle.rl_spec.specs.Utf8.{utf8, is_scalar}
use Rattle.rl_spec.specs.Fields.{zeros, allowed, entry_at, range_of, part_of, byte_in, operand_sort_of, checked, height_step, refer_to, refer_or_none, entries_from, list_of, operand_of, value_of, field_at, fields_from, record_at}
use Rattle.rl_spec.specs.Image.{Field, num, pair, Rec, Image, order_of, size_of, first, encode_record, entry_of, is_pair, field_in, fields_at, record_in, tallest_child, heights, Refers, Entries, OperandFits, SortFits, FieldFits, a_raw, a_byte, a_scalar, a_part, a_reference, an_option, a_list, a_range, a_sort, an_operand, FieldsFit, no_fields, ◌&◌, RecordFits, AllBytes}
use Rattle.rl_images.specs.Encoding.BytesAt.{BytesAt, piece, byte_number, u16_number, u32_number}
use Rattle.rl_images.specs.Images.SchemaSorts.{refers, suits, is_narrow, all_suit, in_turn, and_left, and_right, schema_suits, schema_turns}
use Rattle.rl_images.specs.Encoding.FieldWidths.{Bounded, all_sized, fields_stand}
use Rattle.rl_images.specs.Encoding.FieldChecks.{Ready}
use Rattle.rl_images.specs.Encoding.RecordChecks.{fields_good}
use Rattle.rl_images.specs.Reading.Decode.{byte_below, pair_width}
use Rattle.rl_images.specs.Reading.Tall.{holds_true, holds_false}
use Rattle.rl_laws.specs.AnswerLaws.{same_step}
use Rattle.std.proofs.Common.{sym, ◌∙◌}

-- ---- a check that holds

byte_fits : (low high b tall t : ℕ) → byte_in low high b tall ≡ Ok t → (low ≤ b) × (b ≤ high)
unfolding byte_in
byte_fits low high b tall t e =
    let q = holds_false (ltb b low) (cond (leb b high) (Ok tall) (Err BadValue)) BadValue t e in
    (ltb-false b low q.0, leb-true b high (holds_true (leb b high) (Ok tall) BadValue t q.1).0)

sort_fits : (before b tall t : ℕ) → operand_sort_of before b tall ≡ Ok t → SortFits before b
unfolding operand_sort_of
sort_fits zero b tall t e = eqb-true b 0 (holds_true (eqb b 0) (Ok tall) BadValue t e).0
sort_fits (suc before) b tall t e = byte_fits 1 4 b tall t (rw (ne_eqb (suc before) 0 (λ d. omega arith)) at e)

sort_most : (before x : ℕ) → SortFits before x → x ≤ 4
sort_most zero x h = omega arith
sort_most (suc before) x h = h.1

both_true : (a b : Bool) → cond a b false ≡ true → (a ≡ true) × (b ≡ true)
both_true true b e = (refl, e)
both_true false b e = absurd (false≢true e)

-- ---- a step that goes on

checked_next : (r : Check) (at a x : ℕ) (f : ℕ → Step) → checked r at f ≡ goes_on a x → (t : ℕ) × (r ≡ Ok t) × (f t ≡ goes_on a x)
checked_next (Ok t) at a x f e = (t, refl, e)
checked_next (Err c) at a x f e = let z : ◌≡◌ {A = ℕ} 0 1 = cc in absurd (omega arith)

next_true : (b : Bool) (r : Step) (c : Cause) (n a x : ℕ) → cond b r (refused c n) ≡ goes_on a x → (b ≡ true) × (r ≡ goes_on a x)
next_true true r c n a x e = (refl, e)
next_true false r c n a x e = let z : ◌≡◌ {A = ℕ} 0 1 = cc in absurd (omega arith)

next_false : (b : Bool) (r : Step) (c : Cause) (n a x : ℕ) → cond b (refused c n) r ≡ goes_on a x → r ≡ goes_on a x
next_false true r c n a x e = let z : ◌≡◌ {A = ℕ} 0 1 = cc in absurd (omega arith)
next_false false r c n a x e = e

height_next : (o : Section) (at a x : ℕ) (r : Step) → height_step o at r ≡ goes_on a x → (y : ℕ) × (r ≡ goes_on a y) × (y < tallest o)
height_next o at a x (Ok s) e =
    let q = next_true (ltb s.tall (tallest o)) (goes_on s.at (s.tall + 1)) TooHigh at a x e in
    let d : s.at ≡ a = (same_step q.1).0 in
    (s.tall, ap (λ (n : ℕ). goes_on n s.tall) d, ltb-true s.tall (tallest o) q.0)
height_next o at a x (Err r) e = let z : ◌≡◌ {A = ℕ} 0 1 = cc in absurd (omega arith)

-- ---- numbers

module _ (s : List ℕ) where
  pub number_below : AllBytes s → (n at : ℕ) → num_at s at n < 256 ^ n
  unfolding num_at
  number_below bytes zero at = omega arith
  number_below bytes (suc n) at =
      rw pow-suc (omega (arith, byte_below s bytes at, number_below bytes n (at + 1)))

  zeros_number : (n at : ℕ) → zeros s at n ≡ true → num_at s at n ≡ 0
  unfolding zeros num_at
  zeros_number zero at e = refl
  zeros_number (suc n) at e =
      let q = both_true (eqb (get_or s at 0) 0) (zeros s (at + 1) n) e in
      omega (arith, eqb-true (get_or s at 0) 0 q.0, zeros_number n (at + 1) q.1)

  -- eight bytes of which only the first one or two are not zero
  one_number : (at : ℕ) → zeros s (at + 1) 7 ≡ true → num_at s at 8 ≡ get_or s at 0
  unfolding num_at
  one_number at e = omega (arith, zeros_number 7 (at + 1) e)

  two_number : (at : ℕ) → zeros s (at + 2) 6 ≡ true → num_at s at 8 ≡ u16_at s at
  unfolding num_at u16_at
  two_number at e =
      let a : at + 1 + 1 ≡ at + 2 = omega arith in
      let z : num_at s (at + 1 + 1) 6 ≡ 0 = rw a (zeros_number 6 (at + 2) e) in
      omega arith

  -- a field of one byte holds that byte
  narrow_byte : (k : Sort) (at : ℕ) → is_narrow k ≡ true → get_or s (at + width_of k - 1) 0 ≡ first (field_in s k at)
  narrow_byte k at n = go (is_pair k) refl
    where
      e : width_of k ≡ 1
      e = eqb-true (width_of k) 1 n

      go : (b : Bool) → is_pair k ≡ b → get_or s (at + width_of k - 1) 0 ≡ first (cond b (pair (u16_at s at) (u16_at s (at + 2))) (num (num_at s at (width_of k))))
      go true d = absurd (omega (arith, e, pair_width k d))
      go false d =
          let a : at + 1 - 1 ≡ at = omega arith in
          rw (e, a) (byte_number s at)

module _ (im : Image) (s w p : List ℕ) (bytes : AllBytes s) (seen : Counts) (o : Section) (i : ℕ) (h : List ℕ) (ready : Ready im s w p seen o i h) where
  -- ---- references

  refer_fits : (t : Target) (n tall x : ℕ) → refers o t ≡ true → refer_to s w p seen o t n tall ≡ Ok x → Refers im o i t n
  unfolding refer_to
  refer_fits t n tall x u e = ready.refer t n u (holds_true (allowed s p seen t n) _ BadReference x e).0

  maybe_fits : (t : Target) (n tall x : ℕ) → refers o t ≡ true → refer_or_none s w p seen o t n tall ≡ Ok x → (n ≡ 65535) ⊎ Refers im o i t n
  unfolding refer_or_none
  maybe_fits t n tall x u e = go (eqb n 65535) refl e
    where
      go : (b : Bool) → eqb n 65535 ≡ b → cond b (Ok tall) (refer_to s w p seen o t n tall) ≡ Ok x → (n ≡ 65535) ⊎ Refers im o i t n
      go true d e = inl (eqb-true n 65535 d)
      go false d e = inr (refer_fits t n tall x u e)

  entries_fit : (n k : ℕ) (l r : Target) (tall x : ℕ) → refers o l ≡ true → refers o r ≡ true → k + n ≤ size_of im Lists → entries_from s w p seen o n k l r tall ≡ Ok x → Entries im o i n k l r
  unfolding entries_from
  entries_fit zero k l r tall x u v q e = tt
  entries_fit (suc n) k l r tall x u v q e =
      let d = holds_true (allowed s p seen l (entry_at s seen k)) _ BadReference x e in
      (ready.refer l (entry_of im k) u (rw (ready.entry k (omega arith)) at d.0), entries_fit n (k + 1) r l _ x v u (omega arith) d.1)

  list_fits : {before : ℕ} (a n : ℕ) (l r : Target) (m tall x : ℕ) → refers o l ≡ true → refers o r ≡ true → list_of s w p seen o a n l r m tall ≡ Ok x → FieldFits im o i before (Many l r m) (pair a n)
  unfolding list_of
  list_fits a n l r m tall x u v e =
      let d = holds_false (ltb seen.lists (a + n)) _ BadReference x e in
      let f = holds_true (eqb (n % m) 0) (entries_from s w p seen o n a l r tall) BadReference x d.1 in
      let q : a + n ≤ size_of im Lists = rw ready.lists at (ltb-false seen.lists (a + n) d.0) in
      a_list q (eqb-true (n % m) 0 f.0) (entries_fit n a l r tall x u v q f.1)

  range_fits : (q : Section) (a n tall x : ℕ) → ltb 3 (order_of o) ≡ true → range_of seen a n q tall ≡ Ok x → a + n ≤ size_of im q
  unfolding range_of
  range_fits q a n tall x u e =
      rw (ready.ranges q u) at (leb-true (a + n) (count_of seen q) (holds_true (leb (a + n) (count_of seen q)) (Ok tall) BadReference x e).0)

  -- ---- texts and operands

  part_fits : {before : ℕ} (a n tall x : ℕ) → part_of s seen a n tall ≡ Ok x → FieldFits im o i before Part (pair a n)
  unfolding part_of
  part_fits a n tall x e =
      let d = holds_false (ltb seen.bytes (a + n)) _ BadText x e in
      let q : a + n ≤ length im.bytes = rw ready.bytes at (ltb-false seen.bytes (a + n) d.0) in
      a_part q (rw (piece ready.text a n q) at (holds_true (utf8 (take n (drop (text_bytes_at + a) s))) (Ok tall) BadText x d.1).0)

  text_fits : (at tall x : ℕ) → cond (zeros s (at + 2) 6) (refer_to s w p seen o Text (u16_at s at) tall) (Err BadValue) ≡ Ok x → num_at s at 8 < size_of im Texts
  unfolding refer_to allowed
  text_fits at tall x e =
      let n : ℕ = u16_at s at in
      let d = holds_true (zeros s (at + 2) 6) (refer_to s w p seen o Text n tall) BadValue x e in
      let f = holds_true (allowed s p seen Text n) _ BadReference x d.1 in
      rw (two_number s at d.0, ← ready.texts) (ltb-true n seen.texts (both_true (ltb n seen.texts) true f.0).0)

  operand_fits : (before at tall x : ℕ) → before ≤ 4 → operand_of s w p seen o before at tall ≡ Ok x → OperandFits im before (num_at s at 8)
  unfolding operand_of
  operand_fits zero at tall x m e = zeros_number s 8 at (holds_true (zeros s at 8) (Ok tall) BadValue x e).0
  operand_fits (suc zero) at tall x m e = number_below s bytes 8 at
  operand_fits (suc (suc zero)) at tall x m e = text_fits at tall x e
  operand_fits (suc (suc (suc zero))) at tall x m e =
      let d = both_true (leb (get_or s at 0) 1) (zeros s (at + 1) 7) (holds_true _ (Ok tall) BadValue x e).0 in
      rw (one_number s at d.1) (leb-true (get_or s at 0) 1 d.0)
  operand_fits (suc (suc (suc (suc zero)))) at tall x m e = text_fits at tall x e
  operand_fits (suc (suc (suc (suc (suc n))))) at tall x m e = absurd (omega arith)

  -- ---- a field; `before` is the byte before an operand's sort and before an operand

  value_fits : (narrow sorted : Bool) (before at tall x : ℕ) (k : Sort) → suits o narrow k ≡ true → is_narrow k || suits o sorted k ≡ true → (narrow ≡ true → get_or s (at - 1) 0 ≡ before) → (sorted ≡ true → before ≤ 4) → value_of s w p seen o k at tall ≡ Ok x → FieldFits im o i before k (field_in s k at)
  unfolding value_of
  value_fits narrow sorted before at tall x (Raw n) u v b m e = a_raw (number_below s bytes n at)
  value_fits narrow sorted before at tall x (Byte low high) u v b m e = let d = byte_fits low high (get_or s at 0) tall x e in rw (← byte_number s at) (a_byte d.0 d.1)
  value_fits narrow sorted before at tall x Scalar u v b m e = rw (← u32_number s at) (a_scalar (holds_true (is_scalar (u32_at s at)) (Ok tall) BadValue x e).0)
  value_fits narrow sorted before at tall x Part u v b m e = part_fits (u16_at s at) (u16_at s (at + 2)) tall x e
  value_fits narrow sorted before at tall x (One t) u v b m e = rw (← u16_number s at) (a_reference (refer_fits t (u16_at s at) tall x u e))
  value_fits narrow sorted before at tall x (Maybe t) u v b m e = rw (← u16_number s at) (an_option (maybe_fits t (u16_at s at) tall x u e))
  value_fits narrow sorted before at tall x (Many l r n) u v b m e = list_fits (u16_at s at) (u16_at s (at + 2)) l r n tall x (and_left (refers o l) (refers o r) u) (and_right (refers o l) (refers o r) u) e
  value_fits narrow sorted before at tall x (Range q) u v b m e = a_range (range_fits q (u16_at s at) (u16_at s (at + 2)) tall x u e)
  value_fits narrow sorted before at tall x OperandSort u v b m e = rw (← byte_number s at) (a_sort (sort_fits before (get_or s at 0) tall x (rw (b u) at e)))
  value_fits narrow sorted before at tall x Operand u v b m e = an_operand (operand_fits before at tall x (m v) (rw (b u) at e))

  -- ---- the fields; `sorted` says that the one before is an operand's sort

  sorted_most : {before : ℕ} {f : Field} (c : ℕ) → FieldFits im o i before (sort_of c) f → eqb c operand_sort ≡ true → first f ≤ 4
  unfolding sort_of
  sorted_most {before} {f} c h e = go (subst (λ (k : ℕ). FieldFits im o i before (sort_of k) f) (eqb-true c operand_sort e) h)
    where
      go : {f : Field} → FieldFits im o i before OperandSort f → first f ≤ 4
      go (a_sort {x} h) = sort_most before x h

  fields_fit : (narrow sorted : Bool) (before at tall a x : ℕ) (cs : List ℕ) → all_suit o narrow cs ≡ true → in_turn o sorted cs ≡ true → (narrow ≡ true → get_or s (at - 1) 0 ≡ before) → (sorted ≡ true → before ≤ 4) → fields_from s w p seen o cs at tall ≡ goes_on a x → FieldsFit im o i before (map sort_of cs) (fields_at s cs at)
  unfolding fields_from field_at fields_at
  fields_fit narrow sorted before at tall a x [] u v b m e = no_fields
  fields_fit narrow sorted before at tall a x (c ∷ cs) u v b m e =
      let k : Sort = sort_of c in
      let q = checked_next (field_at s w p seen o k at tall) at a x (λ t. fields_from s w p seen o cs (at + width_of k) t) e in
      let value = (holds_false (past s at (width_of k)) (value_of s w p seen o k at tall) BytesEnd q.0 q.1).1 in
      let f = value_fits narrow sorted before at tall q.0 k (and_left (suits o narrow k) (all_suit o (is_narrow k) cs) u) (and_left (is_narrow k || suits o sorted k) (in_turn o (eqb c operand_sort) cs) v) b m value in
      let rest = fields_fit (is_narrow k) (eqb c operand_sort) (first (field_in s k at)) (at + width_of k) q.0 a x cs (and_right (suits o narrow k) (all_suit o (is_narrow k) cs) u) (and_right (is_narrow k || suits o sorted k) (in_turn o (eqb c operand_sort) cs) v) (narrow_byte s k at) (sorted_most c f) q.2 in
      f & rest

  -- ---- the record, h being the heights of the section's earlier ones

  read_fits : Bounded im → i ≤ 4096 → (at a x : ℕ) → BytesAt s at (encode_record (record_in s at)) → get_or (heights im o) i 0 ≡ tallest_child im o h (fields_of (record_in s at).kind) (record_in s at).fields + 1 → record_at s w p seen o at ≡ goes_on a x → RecordFits im o i (record_in s at)
  unfolding record_in record_at
  read_fits bounded short at a x st e n =
      let g : ℕ = get_or s at 0 in
      let cs : List ℕ = fields_of g in
      let q = next_true (in_section o g) (height_step o at (fields_from s w p seen o cs (at + 1) 0)) WrongKind at a x (next_false (past s at 1) _ BytesEnd at a x n) in
      let y = height_next o at a x (fields_from s w p seen o cs (at + 1) 0) q.1 in
      let u = schema_suits o g q.0 in
      let f = fields_fit false false 0 (at + 1) 0 a y.0 cs u (schema_turns o g q.0) (λ d. absurd (false≢true d)) (λ d. absurd (false≢true d)) y.1 in
      let z = all_sized im bounded o i short false cs u f in
      let d = fields_good im bounded s w p seen o i h short ready false (at + 1) 0 cs u (λ d. absurd (false≢true d)) f z (fields_stand (record_in s at) st) in
      let m : y.0 ≡ max 0 (tallest_child im o h cs (fields_at s cs (at + 1))) = (same_step (sym y.1 ∙ d)).1 in
      record { kind = q.0; fields = f; height = omega (arith, y.2) }

  pub record_fits : Bounded im → i ≤ 4096 → (r : Rec) (at a x : ℕ) → record_in s at ≡ r → BytesAt s at (encode_record r) → get_or (heights im o) i 0 ≡ tallest_child im o h (fields_of r.kind) r.fields + 1 → record_at s w p seen o at ≡ goes_on a x → RecordFits im o i r
  record_fits bounded short r at a x found st e n = rw found at (read_fits bounded short at a x (rw found st) (rw found e) n)
