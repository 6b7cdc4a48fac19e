-- One law for each way out of a function.
-- Assumes nothing.
use Prim.Native.Nat.{ℕ, zero, suc, ◌+◌, ◌-◌, ◌*◌, ◌/◌, ◌%◌, ◌≤◌, ◌<◌}
use mathlib.Core.Path.{◌≡◌, refl, sym, ap, ◌∙◌}
use mathlib.Core.Bool.{Bool, true, false, cond}
use mathlib.Core.List.{List, [], ◌∷◌}
use native.Mathlib.Omega.{arith}
use lib.Dec.{leb, eqb}
use mir.Val.{Fits}
use mir.Syntax.{w8, w64}
use lib.ListN.{get_or}
use borrow.Author.Tests.{leb-true}
use Rattle.std.specs.Prelude.{Option, Some, None}
use Rattle.rl_spec.specs.declared.Sort.{Sort}
use Rattle.rl_spec.specs.Bytes.{u16_at}
use Rattle.rl_spec.specs.Schema.{sort_of, width_of}
use Rattle.rl_spec.specs.Image.{Field, no_field, first, second, is_pair, field_in, fields_at}
use Rattle.rl_schema.specs.Codes.{codes}
use Rattle.rl_schema.proofs.Rows.{codes_none, codes_more}
use Rattle.rl_arena.specs.declared.Spot.{Spot}
use Rattle.rl_arena.specs.Find.{is_width, number_in, spot_of}

-- ---- the widths of fields

abbrev Narrow : Sort → Type 0
Narrow o = (is_width (width_of o) ≡ true) × (leb (width_of o) 8 ≡ true)

or : (b : Bool) (x y : Sort) → Narrow x → Narrow y → Narrow (cond b x y)
or true x y p q = p
or false x y p q = q

narrow : (c : ℕ) → Narrow (sort_of c)
unfolding sort_of
narrow c =
    or (eqb c 1) _ _ (refl, refl)
    (or (eqb c 2) _ _ (refl, refl)
    (or (eqb c 3) _ _ (refl, refl)
    (or (eqb c 4) _ _ (refl, refl)
    (or (eqb c 5) _ _ (refl, refl)
    (or (eqb c 6) _ _ (refl, refl)
    (or (eqb c 7) _ _ (refl, refl)
    (or (eqb c 8) _ _ (refl, refl)
    (or (eqb c 9) _ _ (refl, refl)
    (or (eqb c 10) _ _ (refl, refl)
    (or (eqb c 11) _ _ (refl, refl)
    (or (eqb c 12) _ _ (refl, refl)
    (or (eqb c 13) _ _ (refl, refl)
    (or (eqb c 14) _ _ (refl, refl)
    (or (eqb c 15) _ _ (refl, refl)
    (or (eqb c 16) _ _ (refl, refl)
    (or (eqb c 17) _ _ (refl, refl)
    (or (eqb c 18) _ _ (refl, refl)
    (or (eqb c 19) _ _ (refl, refl)
    (or (eqb c 20) _ _ (refl, refl)
    (or (eqb c 21) _ _ (refl, refl)
    (or (eqb c 22) _ _ (refl, refl)
    (or (eqb c 23) _ _ (refl, refl) (or (eqb c 24) _ _ (refl, refl) (refl, refl))))))))))))))))))))))))

pub width_small : (c : ℕ) (o : Sort) → o ≡ sort_of c → (m : ℕ) → m ≡ width_of o → m ≤ 8
width_small c o e m f = rw (f, e) (leb-true (width_of (sort_of c)) 8 (narrow c).1)

pub width_fits : (c : ℕ) (o : Sort) → o ≡ sort_of c → (m : ℕ) → m ≡ width_of o → Fits w8 m
width_fits c o e m f = omega (arith, width_small c o e m f)

-- ---- the value of a field

module _ (s : List ℕ) (c at : ℕ) (o : Sort) (e : o ≡ sort_of c) (b : Bool) (f : b ≡ is_pair o) where
  module _ (t : b ≡ true) (r : ℕ) where
    pub first_pair : r ≡ u16_at s at → r ≡ first (field_in s (sort_of c) at)
    first_pair g = rw (← e, ← f, t) g

  module _ (t : b ≡ false) where
    pub first_number : (m : ℕ) → m ≡ width_of o → (r : ℕ) → r ≡ number_in s at m → r ≡ first (field_in s (sort_of c) at)
    unfolding number_in
    first_number m g r h =
        let w : is_width m ≡ true = rw (g, e) (narrow c).0 in
        rw (← e, ← f, t, ← g) (rw w at h)

-- ---- the fields: `whole` is what the loop has to answer, and v its invariant after k of j steps

module _ (rest place k j : ℕ) (whole : Option Spot) (v : whole ≡ spot_of (codes rest) place (j - k)) where
  pub spot_end : rest ≡ 0 → None ≡ whole
  unfolding spot_of
  spot_end q = rw (v, codes_none rest q) refl

  module _ (q : rest ≡ 0 → ⊥) (l : Fits w64 rest) where
    pub spot_here : (k < j → ⊥) → Some (record { code = rest % 256; at = place }) ≡ whole
    unfolding spot_of
    spot_here z =
        let n : j - k ≡ 0 = omega arith in
        rw (v, codes_more rest (omega arith) q, n) refl

    pub spot_more : k < j → (o : Sort) → o ≡ sort_of (rest % 256) → (m : ℕ) → m ≡ width_of o → whole ≡ spot_of (codes (rest / 256)) (place + m) (j - (k + 1))
    unfolding spot_of
    spot_more z o e m f =
        let n : j - k ≡ suc (j - (k + 1)) = omega arith in
        v ∙ rw (codes_more rest (omega arith) q, f, e) (ap (spot_of (rest % 256 ∷ codes (rest / 256)) place) n)

module _ (c : ℕ) (o : Sort) (e : o ≡ sort_of c) (m : ℕ) (f : m ≡ width_of o) (place k : ℕ) (b : place ≤ 65536 + 8 * k) where
  pub spot_near : place + m ≤ 65536 + 8 * (k + 1)
  spot_near = omega (arith, width_small c o e m f)

  pub spot_fits : (j : ℕ) → k < j → Fits w8 j → Fits w64 (place + m)
  spot_fits j l h = omega (arith, width_small c o e m f)

-- the field that stands at a spot
abbrev field_by : List ℕ → Option Spot → Field
field_by s (Some spot) = field_in s (sort_of spot.code) spot.at
field_by s None = no_field

spot_field : (s cs : List ℕ) (at j : ℕ) → field_by s (spot_of cs at j) ≡ get_or (fields_at s cs at) j no_field
unfolding spot_of fields_at
spot_field s [] at j = refl
spot_field s (c ∷ cs) at zero = refl
spot_field s (c ∷ cs) at (suc j) = spot_field s cs (at + width_of (sort_of c)) j

module _ (s : List ℕ) (row at j : ℕ) (x : Option Spot) (e : x ≡ spot_of (codes row) (at + 1) j) where
  found : (f : Field) → field_by s x ≡ f → get_or (fields_at s (codes row) (at + 1)) j no_field ≡ f
  found f g = sym (spot_field s (codes row) (at + 1) j) ∙ ap (field_by s) (sym e) ∙ g

  module _ (g : x ≡ None) where
    pub first_none : 0 ≡ first (get_or (fields_at s (codes row) (at + 1)) j no_field)
    first_none = rw (found no_field (ap (field_by s) g)) refl

    pub second_nothing : 0 ≡ second (get_or (fields_at s (codes row) (at + 1)) j no_field)
    second_nothing = rw (found no_field (ap (field_by s) g)) refl

  module _ (p : Spot) (g : x ≡ Some p) (r : ℕ) where
    pub first_found : r ≡ first (field_in s (sort_of p.code) p.at) → r ≡ first (get_or (fields_at s (codes row) (at + 1)) j no_field)
    first_found h = rw (found (field_in s (sort_of p.code) p.at) (ap (field_by s) g)) h

    pub second_found : r ≡ second (field_in s (sort_of p.code) p.at) → r ≡ second (get_or (fields_at s (codes row) (at + 1)) j no_field)
    second_found h = rw (found (field_in s (sort_of p.code) p.at) (ap (field_by s) g)) h
