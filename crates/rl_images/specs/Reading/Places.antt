-- Where a refusal stands: inside the image or at its end, and below 65,536.
-- Assumes nothing.
use Prim.Native.Nat.{ℕ, zero, suc, ◌+◌, ◌≤◌}
use Rattle.std.specs.Prelude.{◌≡◌, refl, length, get_or}
use Rattle.std.proofs.Common.{sym, ◌∙◌, ⊎_elim, arith, lt_of_not-le}
use mathlib.Core.List.{List, [], ◌∷◌}
use Rattle.std.proofs.Math.Logic.{inl, inr}
use Rattle.rl_spec.specs.declared.ArenaNo.{ArenaNo}
use Rattle.rl_spec.specs.declared.Counts.{Counts}
use Rattle.rl_spec.specs.declared.Cause.{Cause}
use Rattle.rl_spec.specs.declared.Section.{Section}
use Rattle.rl_spec.specs.declared.Sort.{Sort}
use Rattle.rl_spec.specs.declared.Sort.TheVariants.{Raw, Byte, Scalar, Part, One, Maybe, Many, Range, OperandSort, Operand}
use Rattle.rl_spec.specs.Answers.{accepted, refused}
use Rattle.rl_spec.specs.Schema.{limits, sections, count_of, sort_of, width_of, fields_of}
use Rattle.rl_spec.specs.Read.{counts_of, seen_by, answer_of}
use Rattle.rl_spec.specs.Image.{next_at, end_at}
use Rattle.rl_laws.specs.Tests.{not_below, by_eqb}
use Rattle.rl_images.specs.Reading.Table.{Row, First, by_parts}
use Rattle.rl_images.specs.Reading.Rows.{value_rows, field_rows, fields_rows, record_rows, records_rows, sections_rows, counts_rows, header_rows, sections_at, content_rows, read_rows}
use Rattle.rl_images.specs.Reading.Whole.{record_whole, records_whole, header_whole}
use Rattle.rl_images.specs.Reading.ReadOutcome.{read_refuses, accepted_reads}

-- ---- all rows of a field are at its first byte

abbrev AllAt : ℕ → List Row → Type 0
AllAt at [] = Unit {0}
AllAt at (r ∷ t) = (r.place ≡ at) × AllAt at t

place_at : (at : ℕ) (t : List Row) (q : Cause) (n : ℕ) → AllAt at t → First t q n → n ≡ at
place_at at [] q n a f = absurd f
place_at at (r ∷ t) q n a (inl f) = sym f.2 ∙ a.0
place_at at (r ∷ t) q n a (inr f) = place_at at t q n a.1 f.1

values_at : (s p : List ℕ) (seen : Counts) (o : Sort) (at : ℕ) → AllAt at (value_rows s p seen o at)
values_at s p seen (Raw n) at = tt
values_at s p seen (Byte low high) at = (refl, tt)
values_at s p seen Scalar at = (refl, tt)
values_at s p seen Part at = (refl, tt)
values_at s p seen (One t) at = (refl, tt)
values_at s p seen (Maybe t) at = (refl, tt)
values_at s p seen (Many l r n) at = (refl, tt)
values_at s p seen (Range o) at = (refl, tt)
values_at s p seen OperandSort at = (refl, tt)
values_at s p seen Operand at = (refl, (refl, tt))

pub field_place : (s p : List ℕ) (seen : Counts) (o : Sort) (at : ℕ) (q : Cause) (n : ℕ) → First (field_rows s p seen o at) q n → n ≡ at
field_place s p seen o at q n = place_at at (field_rows s p seen o at) q n (refl, values_at s p seen o at)

-- ---- what starts inside is refused inside

module _ (s : List ℕ) (q : Cause) (n : ℕ) where
  fields_place : (p : List ℕ) (seen : Counts) (os : List ℕ) (at : ℕ) → at ≤ length s → First (fields_rows s p seen os at) q n → n ≤ length s
  unfolding fields_rows
  fields_place p seen [] at h f = absurd f
  fields_place p seen (o ∷ os) at h f =
      by_parts (field_rows s p seen (sort_of o) at) _ q n (λ x. omega (arith, field_place s p seen (sort_of o) at q n x))
      (λ u. fields_place p seen os (at + width_of (sort_of o)) (not_below (length s) (at + width_of (sort_of o)) u.0)) f

  record_place : (w p : List ℕ) (seen : Counts) (own : Section) (at : ℕ) → at ≤ length s → First (record_rows s w p seen own at) q n → n ≤ length s
  record_place w p seen own at h (inl x) = omega (arith, x.2)
  record_place w p seen own at h (inr (a, inl x)) = omega (arith, x.2)
  record_place w p seen own at h (inr (a, inr (b, f))) =
      by_parts (fields_rows s p seen (fields_of (get_or s at 0)) (at + 1)) _ q n
      (fields_place p seen (fields_of (get_or s at 0)) (at + 1) (omega (arith, lt_of_not-le a)))
      (λ u. ⊎_elim (λ x. omega (arith, x.2)) (λ x. absurd x.1)) f

  module _ (c : Counts) where
    records_place : (o : Section) (m i at : ℕ) (w p : List ℕ) → at ≤ length s → First (records_rows s c o m i at w p) q n → n ≤ length s
    unfolding records_rows
    records_place o zero i at w p h f = absurd f
    records_place o (suc m) i at w p h f =
        by_parts (record_rows s w p (seen_by c o i) o at) _ q n (record_place w p (seen_by c o i) o at h)
        (λ u. records_place o m (i + 1) (next_at s at) _ _ (record_whole s w p (seen_by c o i) o at u).inside) f

    sections_place : (os : List Section) (at : ℕ) (w p : List ℕ) → at ≤ length s → First (sections_rows s c os at w p) q n → n ≤ length s
    unfolding sections_rows
    sections_place [] at w p h f = absurd f
    sections_place (o ∷ os) at w p h f =
        by_parts (records_rows s c o (count_of c o) 0 at w p) _ q n (records_place o (count_of c o) 0 at w p h)
        (λ u. sections_place os (end_at s (count_of c o) at) _ _ (records_whole s c o (count_of c o) 0 at w p h u).1) f

  counts_place : (ms : List ℕ) (at : ℕ) → at ≤ length s → First (counts_rows s ms at) q n → n ≤ length s
  unfolding counts_rows
  counts_place [] at h f = absurd f
  counts_place (m ∷ ms) at h (inl x) = omega (arith, x.2)
  counts_place (m ∷ ms) at h (inr (a, inl x)) = omega (arith, x.2)
  counts_place (m ∷ ms) at h (inr (a, inr (b, f))) = counts_place ms (at + 2) (not_below (length s) (at + 2) a) f

  header_place : First (header_rows s) q n → n ≤ length s
  header_place (inl x) = omega (arith, x.2)
  header_place (inr (a, inl x)) = omega (arith, x.2)
  header_place (inr (a, inr (b, inl x))) = let h : 1 ≤ length s = by_eqb (length s) 0 (λ e. absurd (a e)) (λ e. omega (arith, e)) in omega (arith, x.2)
  header_place (inr (a, inr (b, inr (c, f)))) = counts_place limits 5 (not_below (length s) 5 c) f

  content_place : (k : ℕ) → First (content_rows s k) q n → n ≤ length s
  content_place k (inl x) = omega (arith, x.2)
  content_place k (inr (a, inl x)) = omega (arith, x.2)
  content_place k (inr (a, inr (b, f))) =
      by_parts (header_rows s) _ q n header_place
      (λ u.
      ⊎_elim (λ x. omega (arith, (header_whole s u).inside, x.2))
      (λ x. sections_place (counts_of s) sections (sections_at s) _ _ (not_below (length s) (sections_at s) x.0) x.1)) f

-- THEOREM
pub place_within : (s : List ℕ) (k : ℕ) (q : Cause) (n : ℕ) → answer_of s k ≡ refused q n → n ≤ length s
place_within s k q n e =
    by_parts (content_rows s k) _ q n (content_place s q n k) (λ u. ⊎_elim (λ x. omega (arith, x.0, x.2)) (λ x. absurd x.1))
    ((read_refuses s k q n).0 e)

-- THEOREM
pub accepted_small : (s : List ℕ) (k : ℕ) (a : ArenaNo) (c : Counts) → answer_of s k ≡ accepted a c → length s ≤ 65535
accepted_small s k a c e = (accepted_reads s k a c e).small

-- THEOREM: an image that is too long is refused at 0
pub place_small : (s : List ℕ) (k : ℕ) (q : Cause) (n : ℕ) → answer_of s k ≡ refused q n → n ≤ 65535
place_small s k q n e = go ((read_refuses s k q n).0 e)
  where
    go : First (read_rows s k) q n → n ≤ 65535
    go (inl x) = omega (arith, x.2)
    go (inr x) = omega (arith, place_within s k q n e, not_below 65535 (length s) x.0)
