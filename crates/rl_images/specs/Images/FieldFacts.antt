-- What a field that fits says, by its sort, and the fields of a record one by one.
-- Assumes nothing.
use Rattle.std.specs.Prelude.{ℕ, ◌+◌, ◌%◌, ◌^◌, ◌≤◌, ◌<◌, ◌≡◌, List, ◌∷◌, ◌⊎◌}
use Rattle.rl_spec.specs.declared.Section.{Section}
use Rattle.rl_spec.specs.declared.Section.TheVariants.{Lists}
use Rattle.rl_spec.specs.declared.Target.{Target}
use Rattle.rl_spec.specs.declared.Sort.{Sort}
use Rattle.rl_spec.specs.declared.Sort.TheVariants.{Raw, One, Maybe, Many}
use Rattle.rl_spec.specs.Image.{Field, Image, size_of, first, second, Refers, Entries, FieldFits, a_raw, a_reference, an_option, a_list, FieldsFit, ◌&◌}

module _ {im : Image} {o : Section} {i before : ℕ} where
  pub raw_says : {n : ℕ} {f : Field} → FieldFits im o i before (Raw n) f → first f < 256 ^ n
  raw_says (a_raw p) = p

  pub reference_says : {t : Target} {f : Field} → FieldFits im o i before (One t) f → Refers im o i t (first f)
  reference_says (a_reference r) = r

  pub option_says : {t : Target} {f : Field} → FieldFits im o i before (Maybe t) f → (first f ≡ 65535) ⊎ Refers im o i t (first f)
  option_says (an_option r) = r

  pub list_says : {l r : Target} {m : ℕ} {f : Field} → FieldFits im o i before (Many l r m) f →
      (first f + second f ≤ size_of im Lists) × (second f % m ≡ 0) × Entries im o i (second f) (first f) l r
  list_says (a_list p e es) = (p, e, es)

  module _ {k : Sort} {ks : List Sort} {f : Field} {fs : List Field} where
    pub first_fits : FieldsFit im o i before (k ∷ ks) (f ∷ fs) → FieldFits im o i before k f
    first_fits (h & hs) = h

    pub others_fit : FieldsFit im o i before (k ∷ ks) (f ∷ fs) → FieldsFit im o i (first f) ks fs
    others_fit (h & hs) = hs
