-- What new records may refer to, with the heights; growth keeps it.
-- Assumes nothing.
use Rattle.std.specs.Prelude.{◌≡◌, ℕ, zero, suc, ◌+◌, ◌^◌, ◌<◌, ◌≤◌, List, [], ◌∷◌, ◌++◌, map, length, slice_index, slice_index_or}
use Rattle.std.proofs.Common.{inl, inr, ne_eqb}
use native.Mathlib.Omega.{arith}
use Rattle.rl_spec.specs.declared.Section.{Section}
use Rattle.rl_spec.specs.declared.Target.{Target}
use Rattle.rl_spec.specs.declared.Sort.{Sort}
use Rattle.rl_spec.specs.declared.Sort.TheVariants.{Raw, One, Maybe, Many}
use Rattle.rl_spec.specs.Schema.{sort_of, fields_of}
use Rattle.rl_spec.specs.Image.{Field, no_field, Rec, Image, size_of, record_of, first, second, entry_of, section_of, height_of, tallest_entry, tallest_in, tallest_child, heights, Refers, Entries, FieldFits, FieldsFit, no_fields, ◌&◌}
use Rattle.rl_spec.specs.Ranges.{up_from, optional}
use Rattle.rl_spec.specs.Make.{entries_of}
use Rattle.rl_images.specs.Images.FieldFacts.{raw_says, reference_says, option_says, list_says}
use Rattle.rl_images.specs.Lowering.Grows.{Longer, Grows, grows_records, grows_same}
use Rattle.rl_laws.specs.Optionals.{IfSome, optional_unless}
use Rattle.rl_theorems.specs.Images.KeptFields.{grows_keeps, refers_there, refers_kept, field_kept, fields_kept}
use Rattle.rl_theorems.specs.Images.KeptHeights.{height_kept, tallest_in_lem, tallest_child_lem, height_stays, own_height}
use Rattle.rl_theorems.specs.Images.SoundImages.{Sound, all_fit}

-- ---- a reference that the next record of section o may make, whose height in o is at most h

pub record Ref (im : Image) (o : Section) (h : ℕ) (t : Target) (n : ℕ) : Type 0 where
  pub refers : Refers im o (size_of im o) t n
  pub low : height_of im o (heights im o) t n ≤ h

pub ref_there : {im : Image} {o : Section} {h : ℕ} {t : Target} {n : ℕ} → Ref im o h t n → n < size_of im (section_of t)
ref_there {im} {o} {h} {t} {n} r = refers_there t n (omega arith) r.refers

-- by turns an l and an r
pub data Refs (im : Image) (o : Section) (h : ℕ) : Target → Target → List ℕ → Type 0 where
  no_refs : {l r : Target} → Refs im o h l r []
  ref : {l r : Target} {n : ℕ} {ns : List ℕ} → Ref im o h l n → Refs im o h r l ns → Refs im o h l r (n ∷ ns)

-- a field that fits the next record of section o
pub record Held (im : Image) (o : Section) (h : ℕ) (s : Sort) (f : Field) : Type 0 where
  pub before : ℕ
  pub fits : FieldFits im o (size_of im o) before s f
  pub low : tallest_in im o (heights im o) s f ≤ h

pub record AllHeld (im : Image) (o : Section) (h b : ℕ) (cs : List ℕ) (fs : List Field) : Type 0 where
  pub fits : FieldsFit im o (size_of im o) b (map sort_of cs) fs
  pub low : tallest_child im o (heights im o) cs fs ≤ h

-- ---- growth keeps them

module _ {im im' : Image} (s : Sound im) (g : Grows im im') (o : Section) where
  abbrev at_end_lem : size_of im o ≤ size_of im' o
  at_end_lem = (grows_keeps g).sizes o

  stays : (n : ℕ) → n < size_of im o → slice_index (heights im' o) n ≡ slice_index (heights im o) n
  stays = let l : Longer _ _ = grows_records g o in height_stays (grows_keeps g) o (all_fit s o) l.rest l.is

  pub ref_kept : {h : ℕ} {t : Target} {n : ℕ} → Ref im o h t n → Ref im' o h t n
  ref_kept {h} {t} {n} r =
      record {
        refers = refers_kept (grows_keeps g) o (size_of im o) (size_of im' o) at_end_lem (omega arith) t n r.refers;
        low = rw (height_kept (grows_keeps g) o (size_of im o) (heights im o) (heights im' o) stays t n r.refers) r.low;
      }

  pub refs_kept : {h : ℕ} {l r : Target} {ns : List ℕ} → Refs im o h l r ns → Refs im' o h l r ns
  refs_kept no_refs = no_refs
  refs_kept (ref x xs) = ref (ref_kept x) (refs_kept xs)

  pub held_kept : {h : ℕ} {k : Sort} {f : Field} → Held im o h k f → Held im' o h k f
  held_kept x =
      record {
        before = x.before;
        fits = field_kept (grows_keeps g) o (size_of im o) (size_of im' o) at_end_lem (omega arith) x.fits;
        low = rw (tallest_in_lem (grows_keeps g) o (size_of im o) (heights im o) (heights im' o) stays x.fits) x.low;
      }

  pub all_kept : {h b : ℕ} {cs : List ℕ} {fs : List Field} → AllHeld im o h b cs fs → AllHeld im' o h b cs fs
  all_kept {cs = cs} x =
      record {
        fits = fields_kept (grows_keeps g) o (size_of im o) (size_of im' o) at_end_lem (omega arith) x.fits;
        low = rw (tallest_child_lem (grows_keeps g) o (size_of im o) (heights im o) (heights im' o) stays cs x.fits) x.low;
      }

-- ---- a greater bound

module _ {im : Image} {o : Section} {h g : ℕ} (l : h ≤ g) where
  pub ref_higher : {t : Target} {n : ℕ} → Ref im o h t n → Ref im o g t n
  ref_higher r = record { refers = r.refers; low = omega (arith, r.low) }

  pub refs_higher : {t u : Target} {ns : List ℕ} → Refs im o h t u ns → Refs im o g t u ns
  refs_higher no_refs = no_refs
  refs_higher (ref x xs) = ref (ref_higher x) (refs_higher xs)

  pub held_higher : {s : Sort} {f : Field} → Held im o h s f → Held im o g s f
  held_higher x = record { before = x.before; fits = x.fits; low = omega (arith, x.low) }

pub refs_append : {im : Image} {o : Section} {h : ℕ} {t : Target} {ns ms : List ℕ} → Refs im o h t t ns → Refs im o h t t ms →
    Refs im o h t t (ns ++ ms)
refs_append no_refs q = q
refs_append (ref x xs) q = ref x (refs_append xs q)

-- ---- the fields of a record that is there

module _ {im : Image} (s : Sound im) (o : Section) (i : ℕ) (p : i < size_of im o) where
  abbrev here : Rec
  here = record_of im o i

  pub own_held : {h : ℕ} → slice_index (heights im o) i ≤ h + 1 → AllHeld im o h 0 (fields_of here.kind) here.fields
  own_held {h} l =
      record {
        fits = fields_kept (grows_keeps grows_same) o i (size_of im o) (omega arith) (omega arith) (all_fit s o i p);
        low = omega (arith, own_height im o (all_fit s o) i p);
      }

  pub own_tall : 1 ≤ slice_index (heights im o) i
  own_tall = omega (arith, own_height im o (all_fit s o) i p)

-- the j-th field
pub held_at : {im : Image} {o : Section} {h b : ℕ} {fs : List Field} (j : ℕ) (cs : List ℕ) → j < length cs → AllHeld im o h b cs fs →
    Held im o h (sort_of (slice_index cs j)) (slice_index_or fs j no_field)
unfolding tallest_child
held_at {im} {o} {h} j cs l x = go j cs l x.fits x.low
  where
    go : {b : ℕ} {fs : List Field} (j : ℕ) (cs : List ℕ) → j < length cs → FieldsFit im o (size_of im o) b (map sort_of cs) fs →
        tallest_child im o (heights im o) cs fs ≤ h → Held im o h (sort_of (slice_index cs j)) (slice_index_or fs j no_field)
    go j [] l no_fields low = absurd (omega arith)
    go {b} zero (c ∷ cs) l (f & fs) low = record { before = b; fits = f; low = omega (arith, low) }
    go (suc j) (c ∷ cs) l (f & fs) low = go j cs (omega arith) fs (omega (arith, low))

-- ---- what a field says

module _ {im : Image} {o : Section} {h : ℕ} where
  pub raw_below : {m : ℕ} (f : Field) → Held im o h (Raw m) f → first f < 256 ^ m
  raw_below f e = raw_says e.fits

  pub one_ref : {t : Target} (f : Field) → Held im o h (One t) f → Ref im o h t (first f)
  one_ref f e = record { refers = reference_says e.fits; low = e.low }

  pub maybe_ref : {t : Target} (f : Field) → Held im o h (Maybe t) f → IfSome (Ref im o h t) (optional f)
  maybe_ref {t} f e = optional_unless f λ n. record
      { refers = elim (option_says e.fits) [ inl d ↦ absurd (n d) | inr r ↦ r ]; low = rw (ne_eqb (first f) 65535 n) at e.low }

  entries_refs : (n a : ℕ) (l r : Target) → Entries im o (size_of im o) n a l r → tallest_entry im o (heights im o) n a l r ≤ h →
      Refs im o h l r (map (entry_of im) (up_from a n))
  unfolding tallest_entry up_from
  entries_refs zero a l r e p = no_refs
  entries_refs (suc n) a l r e p =
      ref (record { refers = e.0; low = omega arith }) (entries_refs n (a + 1) r l e.1 (omega arith))

  pub many_refs : {l r : Target} {m : ℕ} (f : Field) → Held im o h (Many l r m) f → Refs im o h l r (entries_of im f)
  many_refs {l} {r} f e = entries_refs (second f) (first f) l r (list_says e.fits).2 e.low
