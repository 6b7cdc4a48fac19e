-- The fields of a new record, put together where none looks at the one before it.
-- Assumes nothing.
use Rattle.std.specs.Prelude.{◌≡◌, ℕ, zero, suc, ◌^◌, ◌<◌, ◌≤◌, Bool, true, false, ◌&&◌, List, [], ◌∷◌, map, slice_index, slice_set}
use Rattle.std.proofs.lemmas.Bool.{false≢true}
use Rattle.std.proofs.Common.{arith}
use Rattle.rl_spec.specs.declared.Section.{Section}
use Rattle.rl_spec.specs.declared.Target.{Target}
use Rattle.rl_spec.specs.declared.Sort.{Sort}
use Rattle.rl_spec.specs.declared.Sort.TheVariants.{Raw, Byte, Scalar, Part, One, Maybe, Many, Range, OperandSort, Operand}
use Rattle.rl_spec.specs.Schema.{sort_of}
use Rattle.rl_spec.specs.Image.{Field, num, Image, first, tallest_child, FieldFits, a_raw, a_byte, a_scalar, a_part, a_reference, an_option, a_list, a_range, a_sort, an_operand, FieldsFit, no_fields, ◌&◌}
use Rattle.rl_images.specs.Images.SchemaSorts.{and_left, and_right}
use Rattle.rl_theorems.specs.Images.NewReferences.{Ref, Held, AllHeld}

-- ---- fields that do not look at the one before them

abbrev pub plain : Sort → Bool
plain (Raw n) = true
plain (Byte low high) = true
plain Scalar = true
plain Part = true
plain (One t) = true
plain (Maybe t) = true
plain (Many l r n) = true
plain (Range q) = true
plain OperandSort = false
plain Operand = false

abbrev pub all_plain : List ℕ → Bool
all_plain [] = true
all_plain (c ∷ cs) = plain (sort_of c) && all_plain cs

pub plain_fits : {im : Image} {o : Section} {i a b : ℕ} {s : Sort} {f : Field} → plain s ≡ true → FieldFits im o i a s f → FieldFits im o i b s f
plain_fits e (a_raw p) = a_raw p
plain_fits e (a_byte p q) = a_byte p q
plain_fits e (a_scalar p) = a_scalar p
plain_fits e (a_part p q) = a_part p q
plain_fits e (a_reference r) = a_reference r
plain_fits e (an_option r) = an_option r
plain_fits e (a_list p d es) = a_list p d es
plain_fits e (a_range p) = a_range p
plain_fits e (a_sort p) = absurd (false≢true e)
plain_fits e (an_operand p) = absurd (false≢true e)

-- ---- all fields, one by one

pub nil_held : {im : Image} {o : Section} {h b : ℕ} → AllHeld im o h b [] []
unfolding tallest_child
nil_held = record { fits = no_fields; low = omega arith }

pub cons_held : {im : Image} {o : Section} {h b c : ℕ} {cs : List ℕ} {f : Field} {fs : List Field} → plain (sort_of c) ≡ true →
    Held im o h (sort_of c) f → AllHeld im o h (first f) cs fs → AllHeld im o h b (c ∷ cs) (f ∷ fs)
unfolding tallest_child
cons_held e x xs = record { fits = plain_fits e x.fits & xs.fits; low = omega (arith, x.low, xs.low) }

pub raw_held : {im : Image} {o : Section} {h m x : ℕ} → x < 256 ^ m → Held im o h (Raw m) (num x)
raw_held p = record { before = 0; fits = a_raw p; low = omega arith }

pub byte_held : {im : Image} {o : Section} {h low high x : ℕ} → (low ≤ x) × (x ≤ high) → Held im o h (Byte low high) (num x)
byte_held p = record { before = 0; fits = a_byte p.0 p.1; low = omega arith }

pub one_held : {im : Image} {o : Section} {h n : ℕ} {t : Target} → Ref im o h t n → Held im o h (One t) (num n)
one_held x = record { before = 0; fits = a_reference x.refers; low = x.low }

-- ---- one field is changed

module _ {im : Image} {o : Section} {i : ℕ} where
  before_any : {a b : ℕ} {fs : List Field} (cs : List ℕ) → all_plain cs ≡ true → FieldsFit im o i a (map sort_of cs) fs →
      FieldsFit im o i b (map sort_of cs) fs
  before_any [] e no_fields = no_fields
  before_any (c ∷ cs) e (h & hs) = plain_fits (and_left (plain (sort_of c)) (all_plain cs) e) h & hs

  pub fields_set : {b : ℕ} {fs : List Field} (j : ℕ) (cs : List ℕ) (v : Field) → all_plain cs ≡ true →
      ((a : ℕ) → FieldFits im o i a (sort_of (slice_index cs j)) v) → FieldsFit im o i b (map sort_of cs) fs →
      FieldsFit im o i b (map sort_of cs) (slice_set fs j v)
  fields_set j [] v e p no_fields = no_fields
  fields_set {b} zero (c ∷ cs) v e p (h & hs) = p b & before_any cs (and_right (plain (sort_of c)) (all_plain cs) e) hs
  fields_set (suc j) (c ∷ cs) v e p (h & hs) = h & fields_set j cs v (and_right (plain (sort_of c)) (all_plain cs) e) p hs
