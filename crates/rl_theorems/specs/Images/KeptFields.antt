-- Where an image keeps what another has, fields that fit go on fitting.
-- Assumes nothing.
use Rattle.std.specs.Prelude.{◌≡◌, ℕ, zero, suc, ◌+◌, ◌<◌, ◌≤◌, Bool, true, false, cond, List, [], length, slice_index_or, refl}
use Rattle.std.proofs.Common.{ap, inl, inr, arith, le_trans, eqb-true}
use Rattle.rl_spec.specs.declared.Section.{Section}
use Rattle.rl_spec.specs.declared.Section.TheVariants.{Texts, Lists, Statements}
use Rattle.rl_spec.specs.declared.Target.{Target}
use Rattle.rl_spec.specs.declared.Target.TheVariants.{Text, Expression, Statement, Branch, ElseBranch, Arm}
use Rattle.rl_spec.specs.declared.Sort.{Sort}
use Rattle.rl_spec.specs.Fields.{takes}
use Rattle.rl_spec.specs.Image.{Field, Rec, Image, order_of, size_of, record_of, entry_of, section_of, same_section, Refers, Entries, OperandFits, FieldFits, a_raw, a_byte, a_scalar, a_part, a_reference, an_option, a_list, a_range, a_sort, an_operand, FieldsFit, no_fields, ◌&◌}
use Rattle.rl_images.specs.Lowering.Grows.{Longer, Grows, longer_length, longer_part, size_grows, record_kept, entry_kept}

pub record Keeps (im im' : Image) : Type 0 where
  pub bytes : Longer im.bytes im'.bytes
  pub sizes : (o : Section) → size_of im o ≤ size_of im' o
  pub entries : (k : ℕ) → k < size_of im Lists → entry_of im' k ≡ entry_of im k
  pub kinds : (n : ℕ) → n < size_of im Statements → (record_of im' Statements n).kind ≡ (record_of im Statements n).kind

pub grows_keeps : {im im' : Image} → Grows im im' → Keeps im im'
grows_keeps g =
    record {
      bytes = g.bytes;
      sizes = size_grows g;
      entries = entry_kept g;
      kinds = λ n p. ap (λ (r : Rec). r.kind) (record_kept g Statements n p);
    }

-- ---- what a record refers to is there

pub same_size : (im : Image) (o q : Section) → same_section o q ≡ true → size_of im o ≡ size_of im q
same_size im o q e = ap (λ (n : ℕ). length (slice_index_or im.records n [])) (eqb-true (order_of o) (order_of q) e)

pub refers_there : {im : Image} {o : Section} {i : ℕ} (t : Target) (n : ℕ) → i ≤ size_of im o → Refers im o i t n →
    n < size_of im (section_of t)
refers_there {im} {o} {i} t n l r = go (same_section o (section_of t)) refl r.earlier
  where
    go : (b : Bool) → same_section o (section_of t) ≡ b → n < cond b i (size_of im (section_of t)) → n < size_of im (section_of t)
    go true e p = omega (arith, same_size im o (section_of t) e)
    go false e p = p

-- ---- from the i-th record of a section to the j-th, a later one

module _ {im im' : Image} (k : Keeps im im') (o : Section) (i j : ℕ) (l : i ≤ j) (m : i ≤ size_of im o) where
  taken_kept : (t : Target) (n : ℕ) → n < size_of im (section_of t) → takes t (record_of im Statements n).kind ≡ true →
      takes t (record_of im' Statements n).kind ≡ true
  taken_kept Text n p h = refl
  taken_kept Expression n p h = refl
  taken_kept Statement n p h = rw (k.kinds n p) h
  taken_kept Branch n p h = rw (k.kinds n p) h
  taken_kept ElseBranch n p h = rw (k.kinds n p) h
  taken_kept Arm n p h = rw (k.kinds n p) h

  pub refers_kept : (t : Target) (n : ℕ) → Refers im o i t n → Refers im' o j t n
  refers_kept t n r = record
      { earlier = go (same_section o (section_of t)) r.earlier; taken = taken_kept t n (refers_there t n m r) r.taken }
    where
      go : (b : Bool) → n < cond b i (size_of im (section_of t)) → n < cond b j (size_of im' (section_of t))
      go true p = omega arith
      go false p = omega (arith, k.sizes (section_of t))

  entries_kept : (n a : ℕ) (t u : Target) → a + n ≤ size_of im Lists → Entries im o i n a t u → Entries im' o j n a t u
  entries_kept zero a t u q h = tt
  entries_kept (suc n) a t u q h =
      (rw (k.entries a (omega arith)) (refers_kept t (entry_of im a) h.0), entries_kept n (a + 1) u t (omega arith) h.1)

  operand_kept : (b x : ℕ) → OperandFits im b x → OperandFits im' b x
  operand_kept zero x h = h
  operand_kept (suc zero) x h = h
  operand_kept (suc (suc zero)) x h = omega (arith, k.sizes Texts)
  operand_kept (suc (suc (suc zero))) x h = h
  operand_kept (suc (suc (suc (suc zero)))) x h = omega (arith, k.sizes Texts)
  operand_kept (suc (suc (suc (suc (suc n))))) x h = h

  pub field_kept : {b : ℕ} {s : Sort} {f : Field} → FieldFits im o i b s f → FieldFits im' o j b s f
  field_kept (a_raw p) = a_raw p
  field_kept (a_byte p q) = a_byte p q
  field_kept (a_scalar p) = a_scalar p
  field_kept (a_part {a} {n} p q) = a_part (le_trans p (longer_length k.bytes)) (rw (longer_part a n k.bytes p) q)
  field_kept (a_reference {t} {x} r) = a_reference (refers_kept t x r)
  field_kept (an_option (inl e)) = an_option (inl e)
  field_kept (an_option {t} {x} (inr r)) = an_option (inr (refers_kept t x r))
  field_kept (a_list {l = t} {r = u} {a = a} {n = n} p e h) = a_list (le_trans p (k.sizes Lists)) e (entries_kept n a t u p h)
  field_kept (a_range {q} p) = a_range (le_trans p (k.sizes q))
  field_kept (a_sort p) = a_sort p
  field_kept {b} (an_operand {x} p) = an_operand (operand_kept b x p)

  pub fields_kept : {b : ℕ} {ks : List Sort} {fs : List Field} → FieldsFit im o i b ks fs → FieldsFit im' o j b ks fs
  fields_kept no_fields = no_fields
  fields_kept (h & hs) = field_kept h & fields_kept hs
