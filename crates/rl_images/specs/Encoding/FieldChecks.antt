-- The reader's checks hold for a field whose value fits, once the reader knows what came before it.
-- Assumes nothing.
use Prim.Native.Nat.{ℕ, zero, suc, ◌+◌, ◌-◌, ◌/◌, ◌%◌, ◌≤◌, ◌<◌, max}
use Rattle.std.specs.Prelude.{◌≡◌, Bool, true, cond, List, ◌⊎◌, ltb, eqb, length, take, drop, Ok, Err}
use Rattle.std.proofs.Math.Path.{refl, ap}
use Rattle.std.proofs.Common.{sym, ◌∙◌, inl, inr}
use native.Mathlib.Omega.{arith}
use Rattle.std.proofs.Math.ListN.{get_or}
use borrow.Author.Tests.{lt-ltb, le-ltb, le-leb, eq-eqb, ne_eqb}
use Rattle.rl_spec.specs.declared.Counts.{Counts}
use Rattle.rl_spec.specs.declared.Cause.TheVariants.{BadValue}
use Rattle.rl_spec.specs.declared.Section.{Section}
use Rattle.rl_spec.specs.declared.Section.TheVariants.{Texts, Lists, Expressions, Statements, Parameters, Clauses, Functions, Calls}
use Rattle.rl_spec.specs.declared.Target.{Target}
use Rattle.rl_spec.specs.declared.Target.TheVariants.{Text}
use Rattle.rl_spec.specs.declared.Sort.{Sort}
use Rattle.rl_spec.specs.Answers.{Check}
use Rattle.rl_spec.specs.Bytes.{u16_at}
use Rattle.rl_spec.specs.Schema.{text_bytes_at, count_of}
use Rattle.rl_spec.specs.Utf8.{utf8}
use Rattle.rl_spec.specs.Fields.{zeros, allowed, child_height, entry_at, range_of, part_of, byte_in, operand_sort_of, refer_to, refer_or_none, entries_from, list_of, operand_of, value_of}
use Rattle.rl_spec.specs.Image.{Field, Image, order_of, size_of, entry_of, bytes_of, encode_field, height_of, tallest_entry, tallest_in, Refers, Entries, OperandFits, SortFits, FieldFits, a_raw, a_byte, a_scalar, a_part, a_reference, an_option, a_list, a_range, a_sort, an_operand}
use Rattle.rl_images.specs.Encoding.BytesAt.{BytesAt, head, tail, left, right, piece, number, byte_number, u32_number, zeros_stand}
use Rattle.rl_images.specs.Images.SchemaSorts.{refers, suits, and_left, and_right}
use Rattle.rl_images.specs.Encoding.FieldWidths.{Bounded, Sized, u16_stands, first_stands, second_stands, reference_small}

-- what the reader knows at the i-th record of the section o, h being the heights of the section's earlier records
pub record Ready (im : Image) (s w p : List ℕ) (seen : Counts) (o : Section) (i : ℕ) (h : List ℕ) : Type 0 where
  pub bytes : seen.bytes ≡ length im.bytes
  pub texts : seen.texts ≡ size_of im Texts
  pub lists : seen.lists ≡ size_of im Lists
  pub ranges : (q : Section) → ltb 3 (order_of o) ≡ true → count_of seen q ≡ size_of im q
  pub text : BytesAt s text_bytes_at im.bytes
  pub entry : (k : ℕ) → k < size_of im Lists → entry_at s seen k ≡ entry_of im k
  pub found : (t : Target) (n : ℕ) → refers o t ≡ true → Refers im o i t n → allowed s p seen t n ≡ true
  pub refer : (t : Target) (n : ℕ) → refers o t ≡ true → allowed s p seen t n ≡ true → Refers im o i t n
  pub child : (t : Target) (n : ℕ) → refers o t ≡ true → Refers im o i t n → child_height w seen o t n ≡ height_of im o h t n

same : (tall : ℕ) → ◌≡◌ {A = Check} (Ok tall) (Ok (max tall 0))
same tall = let e : max tall 0 ≡ tall = omega arith in rw e

byte_good : (low high b tall : ℕ) → low ≤ b → b ≤ high → byte_in low high b tall ≡ Ok tall
unfolding byte_in
byte_good low high b tall p q = rw (le-ltb b low p, le-leb b high q)

-- a text is no child
no_text_height : (w : List ℕ) (seen : Counts) (o : Section) (n : ℕ) → child_height w seen o Text n ≡ 0
unfolding child_height
no_text_height w seen Texts n = refl
no_text_height w seen Lists n = refl
no_text_height w seen Expressions n = refl
no_text_height w seen Statements n = refl
no_text_height w seen Parameters n = refl
no_text_height w seen Clauses n = refl
no_text_height w seen Functions n = refl
no_text_height w seen Calls n = refl

sort_good : (before b tall : ℕ) → SortFits before b → operand_sort_of before b tall ≡ Ok tall
unfolding operand_sort_of
sort_good zero b tall h = rw (eq-eqb b 0 h)
sort_good (suc before) b tall h = rw (ne_eqb (suc before) 0 (λ e. omega arith)) (byte_good 1 4 b tall h.0 h.1)

module _ (im : Image) (bounded : Bounded im) (s w p : List ℕ) (seen : Counts) (o : Section) (i : ℕ) (h : List ℕ) (short : i ≤ 4096) (ready : Ready im s w p seen o i h) where
  -- ---- references

  refer_good : (t : Target) (n tall : ℕ) → refers o t ≡ true → Refers im o i t n → refer_to s w p seen o t n tall ≡ Ok (max tall (height_of im o h t n))
  unfolding refer_to
  refer_good t n tall u r = rw (ready.found t n u r, ready.child t n u r)

  maybe_good : (t : Target) (n tall : ℕ) → refers o t ≡ true → (n ≡ 65535) ⊎ Refers im o i t n → refer_or_none s w p seen o t n tall ≡ Ok (max tall (cond (eqb n 65535) 0 (height_of im o h t n)))
  unfolding refer_or_none
  maybe_good t n tall u (inl e) = rw (eq-eqb n 65535 e) (same tall)
  maybe_good t n tall u (inr r) = rw (ne_eqb n 65535 (λ e. omega (arith, reference_small im bounded o i short t n r))) (refer_good t n tall u r)

  entries_good : (n k : ℕ) (l r : Target) (tall : ℕ) → refers o l ≡ true → refers o r ≡ true → k + n ≤ size_of im Lists → Entries im o i n k l r → entries_from s w p seen o n k l r tall ≡ Ok (max tall (tallest_entry im o h n k l r))
  unfolding entries_from tallest_entry
  entries_good zero k l r tall u v q es = same tall
  entries_good (suc n) k l r tall u v q es =
      let x : ℕ = entry_of im k in
      let y : ℕ = height_of im o h l x in
      let e : entry_at s seen k ≡ x = ready.entry k (omega arith) in
      let z : max (max tall y) (tallest_entry im o h n (k + 1) r l) ≡ max tall (max y (tallest_entry im o h n (k + 1) r l)) = omega arith in
      rw (e, ready.found l x u es.0, ready.child l x u es.0)
      (entries_good n (k + 1) r l (max tall y) v u (omega arith) es.1 ∙ ap Ok z)

  list_good : (a n : ℕ) (l r : Target) (m tall : ℕ) → refers o l ≡ true → refers o r ≡ true → a + n ≤ size_of im Lists → n % m ≡ 0 → Entries im o i n a l r → list_of s w p seen o a n l r m tall ≡ Ok (max tall (tallest_entry im o h n a l r))
  unfolding list_of
  list_good a n l r m tall u v q e es =
      let d : a + n ≤ seen.lists = rw ready.lists q in
      rw (le-ltb seen.lists (a + n) d, eq-eqb (n % m) 0 e) (entries_good n a l r tall u v q es)

  range_good : (q : Section) (a n tall : ℕ) → ltb 3 (order_of o) ≡ true → a + n ≤ size_of im q → range_of seen a n q tall ≡ Ok tall
  unfolding range_of
  range_good q a n tall u d = rw (ready.ranges q u, le-leb (a + n) (size_of im q) d)

  -- ---- texts and operands

  part_good : (a n tall : ℕ) → a + n ≤ length im.bytes → utf8 (take n (drop a im.bytes)) ≡ true → part_of s seen a n tall ≡ Ok tall
  unfolding part_of
  part_good a n tall d e =
      let f : a + n ≤ seen.bytes = rw ready.bytes d in
      rw (le-ltb seen.bytes (a + n) f, piece ready.text a n d, e)

  texts_found : (n : ℕ) → n < size_of im Texts → allowed s p seen Text n ≡ true
  unfolding allowed
  texts_found n q = rw (ready.texts, lt-ltb n (size_of im Texts) q)

  text_operand : (n tall : ℕ) → n < size_of im Texts → refer_to s w p seen o Text n tall ≡ Ok tall
  unfolding refer_to
  text_operand n tall q = rw (texts_found n q, no_text_height w seen o n) (sym (same tall))

  text_good : (at x tall : ℕ) → x < size_of im Texts → BytesAt s at (bytes_of 8 x) → (e : Check) → cond (zeros s (at + 2) 6) (refer_to s w p seen o Text (u16_at s at) tall) e ≡ Ok tall
  unfolding bytes_of
  text_good at x tall f st e =
      let q : x < 65536 = omega (arith, bounded.sizes Texts) in
      let none : x / 256 / 256 ≡ 0 = omega arith in
      let low : BytesAt s at (bytes_of 2 x) = left (bytes_of 2 x) (bytes_of 6 (x / 256 / 256)) st in
      let high : BytesAt s (at + 2) (bytes_of 6 0) = rw none at (right (bytes_of 2 x) (bytes_of 6 (x / 256 / 256)) st) in
      rw (zeros_stand 6 high, u16_stands x q low) (text_operand x tall f)

  operand_good : (before at x tall : ℕ) → OperandFits im before x → BytesAt s at (bytes_of 8 x) → operand_of s w p seen o before at tall ≡ Ok tall
  unfolding operand_of bytes_of
  operand_good zero at x tall f st = rw (zeros_stand 8 (rw f at st))
  operand_good (suc zero) at x tall f st = refl
  operand_good (suc (suc zero)) at x tall f st = text_good at x tall f st (Err BadValue)
  operand_good (suc (suc (suc zero))) at x tall f st =
      let none : x / 256 ≡ 0 = omega arith in
      let low : get_or s at 0 ≤ 1 = omega (arith, head st) in
      let high : BytesAt s (at + 1) (bytes_of 7 0) = rw none at (tail st) in
      rw (le-leb (get_or s at 0) 1 low, zeros_stand 7 high)
  operand_good (suc (suc (suc (suc zero)))) at x tall f st = text_good at x tall f st (Err BadValue)
  operand_good (suc (suc (suc (suc (suc n))))) at x tall f st = absurd f

  -- ---- a field; `before` is the byte before an operand's sort and before an operand

  pub value_good : {before : ℕ} {k : Sort} {f : Field} (narrow : Bool) (at tall : ℕ) → suits o narrow k ≡ true → (narrow ≡ true → get_or s (at - 1) 0 ≡ before) → FieldFits im o i before k f → Sized k f → BytesAt s at (encode_field k f) → value_of s w p seen o k at tall ≡ Ok (max tall (tallest_in im o h k f))
  unfolding value_of
  value_good narrow at tall u b (a_raw d) z st = same tall
  value_good narrow at tall u b (a_byte {low} {high} {x} d e) z st = rw (byte_number s at, number 1 x z.1 st) (byte_good low high x tall d e ∙ same tall)
  value_good narrow at tall u b (a_scalar {x} d) z st = rw (u32_number s at, number 4 x z.1 st, d) (same tall)
  value_good narrow at tall u b (a_part {a} {n} d e) z st = rw (first_stands a n z.2 st, second_stands a n z.3 st) (part_good a n tall d e ∙ same tall)
  value_good narrow at tall u b (a_reference {t} {x} d) z st = rw (u16_stands x z.1 st) (refer_good t x tall u d)
  value_good narrow at tall u b (an_option {t} {x} d) z st = rw (u16_stands x z.1 st) (maybe_good t x tall u d)
  value_good narrow at tall u b (a_list {l} {r} {m} {a} {n} d e es) z st = rw (first_stands a n z.2 st, second_stands a n z.3 st) (list_good a n l r m tall (and_left (refers o l) (refers o r) u) (and_right (refers o l) (refers o r) u) d e es)
  value_good narrow at tall u b (a_range {q} {a} {n} d) z st = rw (first_stands a n z.2 st, second_stands a n z.3 st) (range_good q a n tall u d ∙ same tall)
  value_good {before} narrow at tall u b (a_sort {x} d) z st = rw (b u, byte_number s at, number 1 x z.1 st) (sort_good before x tall d ∙ same tall)
  value_good {before} narrow at tall u b (an_operand {x} d) z st = rw (b u) (operand_good before at x tall d st ∙ same tall)
