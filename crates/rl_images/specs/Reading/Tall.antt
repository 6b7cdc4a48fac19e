-- The largest height among the children of a record, as it is found field by field.
-- Assumes nothing.
use Prim.Native.Nat.{ℕ, zero, suc, ◌+◌, ◌-◌, ◌%◌, max}
use Rattle.std.specs.Prelude.{◌≡◌, refl, Bool, List, ltb, leb, eqb, get_or, take, drop, Ok, Err}
use Rattle.std.proofs.Math.Path.{ap}
use Rattle.std.proofs.Math.Bool.{true, false, cond}
use Rattle.std.proofs.Common.{arith}
use Rattle.rl_spec.specs.declared.Counts.{Counts}
use Rattle.rl_spec.specs.declared.Cause.{Cause}
use Rattle.rl_spec.specs.declared.Cause.TheVariants.{BytesEnd, BadText, BadValue, BadReference}
use Rattle.rl_spec.specs.declared.Section.{Section}
use Rattle.rl_spec.specs.declared.Section.TheVariants.{Texts, Lists, Expressions, Statements, Parameters, Clauses, Functions, Calls}
use Rattle.rl_spec.specs.declared.Target.{Target}
use Rattle.rl_spec.specs.declared.Target.TheVariants.{Text}
use Rattle.rl_spec.specs.declared.Sort.{Sort}
use Rattle.rl_spec.specs.declared.Sort.TheVariants.{Raw, Byte, Scalar, Part, One, Maybe, Many, Range, OperandSort, Operand}
use Rattle.rl_spec.specs.Answers.{Check}
use Rattle.rl_spec.specs.Bytes.{u16_at, u32_at, past}
use Rattle.rl_spec.specs.Schema.{text_bytes_at, count_of, width_of}
use Rattle.rl_spec.specs.Utf8.{utf8, is_scalar}
use Rattle.rl_spec.specs.Fields.{allowed, child_height, entry_at, zeros, range_of, part_of, byte_in, operand_sort_of, refer_to, refer_or_none, entries_from, list_of, operand_of, value_of, field_at}
use Rattle.rl_images.specs.Reading.Rows.{entries_tall, field_tall}

-- ---- a check that holds

pub holds_true : (b : Bool) (x : Check) (c : Cause) (t : ℕ) → cond b x (Err c) ≡ Ok t → (b ≡ true) × (x ≡ Ok t)
holds_true true x c t e = (refl, e)
holds_true false x c t e = let z : ◌≡◌ {A = ℕ} 0 1 = cc in absurd (omega arith)

pub holds_false : (b : Bool) (x : Check) (c : Cause) (t : ℕ) → cond b (Err c) x ≡ Ok t → (b ≡ false) × (x ≡ Ok t)
holds_false true x c t e = let z : ◌≡◌ {A = ℕ} 0 1 = cc in absurd (omega arith)
holds_false false x c t e = (refl, e)

abbrev tall_of : Check → ℕ
tall_of (Ok t) = t
tall_of (Err c) = 0

-- it held what it had
kept : (tall t : ℕ) → ◌≡◌ {A = Check} (Ok tall) (Ok t) → t ≡ max tall 0
kept tall t e = let d : tall ≡ t = ap tall_of e in omega (arith, d)

byte_tall : (low high b tall t : ℕ) → byte_in low high b tall ≡ Ok t → t ≡ max tall 0
unfolding byte_in
byte_tall low high b tall t e =
    kept tall t (holds_true (leb b high) (Ok tall) BadValue t (holds_false (ltb b low) _ BadValue t e).1).1

text_flat : (own : Section) (w : List ℕ) (seen : Counts) (n : ℕ) → child_height w seen own Text n ≡ 0
unfolding child_height
text_flat Texts w seen n = refl
text_flat Lists w seen n = refl
text_flat Expressions w seen n = refl
text_flat Statements w seen n = refl
text_flat Parameters w seen n = refl
text_flat Clauses w seen n = refl
text_flat Functions w seen n = refl
text_flat Calls w seen n = refl

module _ (s w p : List ℕ) (seen : Counts) (own : Section) where
  refer_tall : (r : Target) (n tall t : ℕ) → refer_to s w p seen own r n tall ≡ Ok t → t ≡ max tall (child_height w seen own r n)
  unfolding refer_to
  refer_tall r n tall t e =
      let d : max tall (child_height w seen own r n) ≡ t = ap tall_of (holds_true (allowed s p seen r n) _ BadReference t e).1 in
      omega (arith, d)

  entries_tall_lem : (n k : ℕ) (l r : Target) (tall t : ℕ) → entries_from s w p seen own n k l r tall ≡ Ok t → t ≡ max tall (entries_tall s w seen own n k l r)
  unfolding entries_from entries_tall
  entries_tall_lem zero k l r tall t e = kept tall t e
  entries_tall_lem (suc n) k l r tall t e =
      omega (arith, entries_tall_lem n (k + 1) r l (max tall (child_height w seen own l (entry_at s seen k))) t (holds_true (allowed s p seen l (entry_at s seen k)) _ BadReference t e).1)

  operand_tall : (b at tall t : ℕ) → operand_of s w p seen own b at tall ≡ Ok t → t ≡ max tall 0
  unfolding operand_of
  operand_tall b at tall t e = go (eqb b 0) (eqb b 1) (eqb b 3) e
    where
      text : refer_to s w p seen own Text (u16_at s at) tall ≡ Ok t → t ≡ max tall 0
      text d = rw (← text_flat own w seen (u16_at s at)) (refer_tall Text (u16_at s at) tall t d)

      go : (x y z : Bool) → cond x (cond (zeros s at 8) (Ok tall) (Err BadValue)) (cond y (Ok tall) (cond z (cond (cond (leb (get_or s at 0) 1) (zeros s (at + 1) 7) false) (Ok tall) (Err BadValue)) (cond (zeros s (at + 2) 6) (refer_to s w p seen own Text (u16_at s at) tall) (Err BadValue)))) ≡ Ok t → t ≡ max tall 0
      go true y z d = kept tall t (holds_true (zeros s at 8) (Ok tall) BadValue t d).1
      go false true z d = kept tall t d
      go false false true d =
          kept tall t (holds_true (cond (leb (get_or s at 0) 1) (zeros s (at + 1) 7) false) (Ok tall) BadValue t d).1
      go false false false d = text (holds_true (zeros s (at + 2) 6) (refer_to s w p seen own Text (u16_at s at) tall) BadValue t d).1

  value_tall : (o : Sort) (at tall t : ℕ) → value_of s w p seen own o at tall ≡ Ok t → t ≡ max tall (field_tall s w seen own o at)
  unfolding value_of part_of range_of operand_sort_of refer_or_none list_of
  value_tall (Raw n) at tall t e = kept tall t e
  value_tall (Byte low high) at tall t e = byte_tall low high (get_or s at 0) tall t e
  value_tall Scalar at tall t e = kept tall t (holds_true (is_scalar (u32_at s at)) (Ok tall) BadValue t e).1
  value_tall Part at tall t e =
      kept tall t (holds_true (utf8 (take (u16_at s (at + 2)) (drop (text_bytes_at + u16_at s at) s))) (Ok tall) BadText t
      (holds_false (ltb seen.bytes (u16_at s at + u16_at s (at + 2))) _ BadText t e).1).1
  value_tall (One r) at tall t e = refer_tall r (u16_at s at) tall t e
  value_tall (Maybe r) at tall t e = go (eqb (u16_at s at) 65535) e
    where
      go : (b : Bool) → cond b (Ok tall) (refer_to s w p seen own r (u16_at s at) tall) ≡ Ok t → t ≡ max tall (cond b 0 (child_height w seen own r (u16_at s at)))
      go true d = kept tall t d
      go false d = refer_tall r (u16_at s at) tall t d
  value_tall (Many l r n) at tall t e =
      entries_tall_lem (u16_at s (at + 2)) (u16_at s at) l r tall t
      (holds_true (eqb (u16_at s (at + 2) % n) 0) _ BadReference t (holds_false (ltb seen.lists (u16_at s at + u16_at s (at + 2))) _ BadReference t e).1).1
  value_tall (Range o) at tall t e = kept tall t (holds_true (leb (u16_at s at + u16_at s (at + 2)) (count_of seen o)) (Ok tall) BadReference t e).1
  value_tall OperandSort at tall t e = go (eqb (get_or s (at - 1) 0) 0) e
    where
      go : (b : Bool) → cond b (cond (eqb (get_or s at 0) 0) (Ok tall) (Err BadValue)) (byte_in 1 4 (get_or s at 0) tall) ≡ Ok t → t ≡ max tall 0
      go true d = kept tall t (holds_true (eqb (get_or s at 0) 0) (Ok tall) BadValue t d).1
      go false d = byte_tall 1 4 (get_or s at 0) tall t d
  value_tall Operand at tall t e = operand_tall (get_or s (at - 1) 0) at tall t e

  -- THEOREM: a field that holds has come upon the largest of what there was and of the children that it names
  pub field_tall_lem : (o : Sort) (at tall t : ℕ) → field_at s w p seen own o at tall ≡ Ok t → t ≡ max tall (field_tall s w seen own o at)
  unfolding field_at
  field_tall_lem o at tall t e = value_tall o at tall t (holds_false (past s at (width_of o)) (value_of s w p seen own o at tall) BytesEnd t e).1
