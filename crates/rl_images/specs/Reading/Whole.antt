-- What stands whole where no row of the reader's table holds.
-- Assumes nothing.
use Prim.Native.Nat.{ℕ, zero, suc, ◌+◌, ◌*◌, ◌≤◌}
use Rattle.std.specs.Prelude.{◌≡◌, Bool, get_or}
use Rattle.std.proofs.Math.Path.{refl}
use Rattle.std.proofs.Math.Bool.{true, false}
use mathlib.Core.List.{List, [], ◌∷◌}
use native.Mathlib.Omega.{arith}
use Rattle.std.proofs.Common.{lt_of_not-le}
use Rattle.std.proofs.Math.ListN.{length}
use Rattle.rl_spec.specs.declared.Counts.{Counts}
use Rattle.rl_spec.specs.declared.Section.{Section}
use Rattle.rl_spec.specs.Bytes.{u16_at}
use Rattle.rl_spec.specs.Schema.{limits, text_bytes_at, count_of, in_section, sort_of, width_of, fields_of}
use Rattle.rl_spec.specs.Read.{seen_by}
use Rattle.rl_spec.specs.Image.{widths_of, next_at, end_at}
use Rattle.rl_laws.specs.Tests.{not_below, by_eqb}
use Rattle.rl_images.specs.Reading.Table.{Unmet, unmet_parts}
use Rattle.rl_images.specs.Reading.Rows.{field_rows, fields_rows, record_rows, records_rows, sections_rows, last_at, counts_rows, header_rows}
use Rattle.rl_images.specs.Reading.Causes.{kind_outside}

-- ---- a record

-- a record of the section stands whole at a place
pub record Whole (s : List ℕ) (o : Section) (at : ℕ) : Type 0 where
  pub kind : in_section o (get_or s at 0) ≡ true
  pub inside : next_at s at ≤ length s

module _ (s w p : List ℕ) (seen : Counts) where
  pub fields_inside : (os : List ℕ) (at : ℕ) → at ≤ length s → Unmet (fields_rows s p seen os at) → at + widths_of os ≤ length s
  unfolding fields_rows widths_of
  fields_inside [] at h u = omega arith
  fields_inside (o ∷ os) at h u =
      let v = unmet_parts (field_rows s p seen (sort_of o) at) (fields_rows s p seen os (at + width_of (sort_of o))) u in
      let n : at + width_of (sort_of o) ≤ length s = not_below (length s) (at + width_of (sort_of o)) v.0.0 in
      omega (arith, fields_inside os (at + width_of (sort_of o)) n v.1)

  -- the kind's byte is there
  pub kind_there : (own : Section) (at : ℕ) → Unmet (record_rows s w p seen own at) → at + 1 ≤ length s
  kind_there own at u = omega (arith, lt_of_not-le u.0)

  pub record_whole : (own : Section) (at : ℕ) → Unmet (record_rows s w p seen own at) → Whole s own at
  unfolding next_at
  record_whole own at u =
      record {
        kind = go (in_section own (get_or s at 0)) refl;
        inside =
            fields_inside (fields_of (get_or s at 0)) (at + 1) (kind_there own at u)
            (unmet_parts (fields_rows s p seen (fields_of (get_or s at 0)) (at + 1)) _ u.1.1).0;
      }
    where
      go : (b : Bool) → in_section own (get_or s at 0) ≡ b → b ≡ true
      go true e = refl
      go false e = absurd (u.1.0 (kind_outside own (get_or s at 0) e))

-- ---- records and sections

-- n records of the section stand whole, from a place on
abbrev pub Records : List ℕ → Section → ℕ → ℕ → Type 0
Records s o zero at = Unit {0}
Records s o (suc n) at = Whole s o at × Records s o n (next_at s at)

abbrev pub Sections : List ℕ → Counts → List Section → ℕ → Type 0
Sections s c [] at = Unit {0}
Sections s c (o ∷ os) at = Records s o (count_of c o) at × Sections s c os (end_at s (count_of c o) at)

module _ (s : List ℕ) (c : Counts) where
  pub records_whole : (o : Section) (n i at : ℕ) (w p : List ℕ) → at ≤ length s → Unmet (records_rows s c o n i at w p) → Records s o n at × (end_at s n at ≤ length s)
  unfolding records_rows end_at
  records_whole o zero i at w p h u = (tt, h)
  records_whole o (suc n) i at w p h u =
      let v = unmet_parts (record_rows s w p (seen_by c o i) o at) _ u in
      let x = record_whole s w p (seen_by c o i) o at v.0 in
      let y = records_whole o n (i + 1) (next_at s at) _ _ x.inside v.1 in
      ((x, y.0), y.1)

  pub sections_whole : (os : List Section) (at : ℕ) (w p : List ℕ) → at ≤ length s → Unmet (sections_rows s c os at w p) → Sections s c os at × (last_at s c os at ≤ length s)
  unfolding sections_rows last_at
  sections_whole [] at w p h u = (tt, h)
  sections_whole (o ∷ os) at w p h u =
      let v = unmet_parts (records_rows s c o (count_of c o) 0 at w p) _ u in
      let x = records_whole o (count_of c o) 0 at w p h v.0 in
      let y = sections_whole os (end_at s (count_of c o) at) _ _ x.1 v.1 in
      ((x.0, y.0), y.1)

-- ---- the header

-- the counts from a place on are within these limits
abbrev pub CountsIn : List ℕ → List ℕ → ℕ → Type 0
CountsIn s [] at = Unit {0}
CountsIn s (m ∷ ms) at = (u16_at s at ≤ m) × CountsIn s ms (at + 2)

pub record HeaderRead (s : List ℕ) : Type 0 where
  pub kind : get_or s 0 0 ≡ 1
  pub counts : CountsIn s limits 5
  pub inside : text_bytes_at ≤ length s

module _ (s : List ℕ) where
  pub counts_whole : (ms : List ℕ) (at : ℕ) → at ≤ length s → Unmet (counts_rows s ms at) → CountsIn s ms at × (at + 2 * length ms ≤ length s)
  unfolding counts_rows
  counts_whole [] at h u = (tt, omega arith)
  counts_whole (m ∷ ms) at h u =
      let x = counts_whole ms (at + 2) (not_below (length s) (at + 2) u.0) u.1.1 in
      ((not_below m (u16_at s at) u.1.0, x.0), omega (arith, x.1))

  pub header_whole : Unmet (header_rows s) → HeaderRead s
  unfolding limits
  header_whole u =
      let x = counts_whole limits 5 (not_below (length s) 5 u.1.1.0) u.1.1.1 in
      record {
        kind = by_eqb (get_or s 0 0) 1 (λ e. e) (λ e. absurd (u.1.0 e));
        counts = x.0;
        inside = x.1;
      }
