-- The last statement of a body.
-- Assumes nothing.
use Prim.Native.Nat.{ℕ, zero, suc, ◌+◌, ◌-◌, ◌<◌}
use mathlib.Core.Path.{◌≡◌, refl, ap, ap₂, sym, ◌∙◌, subst}
use mathlib.Core.Bool.{Bool, true, false, not, cond, ◌&&◌}
use mathlib.Core.List.{List, map}
use native.Mathlib.Omega.{arith}
use native.Mathlib.Nat.{add-zero}
use lib.Dec.{eqb}
use lib.ListN.{length, get_or, length-map}
use borrow.Author.Tests.{eqb-true, eq-eqb, ne_eqb}
use Rattle.rl_spec.specs.declared.Counts.{Counts}
use Rattle.rl_spec.specs.declared.Interval.{Interval}
use Rattle.rl_spec.specs.declared.Section.TheVariants.{Statements}
use Rattle.rl_spec.specs.Bytes.{u16_at}
use Rattle.rl_spec.specs.Schema.{sort_of, schema, fields_in, fields_of}
use Rattle.rl_spec.specs.Image.{Image, record_of, entry_of, fields_at, record_in}
use Rattle.rl_spec.specs.Found.{record_as, image_found}
use Rattle.rl_spec.specs.Tree.{number}
use Rattle.rl_spec.specs.Ranges.{up_from}
use Rattle.rl_spec.specs.FnContracts.{is_empty}
use Rattle.rl_spec.specs.Lower.{last_of}
use Rattle.rl_images.specs.Images.Reports.{length_up}
use Rattle.rl_context.proofs.Copying.{kind_in}
use Rattle.rl_context.proofs.CopiedEntries.{two}
use Rattle.rl_transform.proofs.Rebuilding.{statement_is}
use Rattle.std.specs.Prelude.{None, Some}
use Rattle.rl_spec.specs.Answers.{Optional}
use Rattle.rl_bodies.specs.Bodies.{entries_in, BodyFits, ends_bare, bare_value}

pub length_entries : (im : Image) (a n : ℕ) → length (map (entry_of im) (up_from a n)) ≡ n
length_entries im a n = length-map (up_from a n) (entry_of im) ∙ length_up a n

pub entry_number : (im : Image) (a n i : ℕ) → i < n → get_or (map (entry_of im) (up_from a n)) i 0 ≡ entry_of im (a + i)
unfolding up_from
entry_number im a zero i h = absurd (omega arith)
entry_number im a (suc n) zero h = ap (entry_of im) (sym (add-zero a))
entry_number im a (suc n) (suc i) h = entry_number im (a + 1) n i (omega arith) ∙ ap (entry_of im) next
  where
    next : a + 1 + i ≡ a + suc i
    next = omega arith

pub not_empty : {A : Type 0} (g : ℕ → A) (a n : ℕ) → (n ≡ 0 → ⊥) → is_empty (map g (up_from a n)) ≡ false
unfolding up_from
not_empty g a zero h = absurd (h refl)
not_empty g a (suc n) h = refl

pub last_number : (im : Image) (a n : ℕ) → (n ≡ 0 → ⊥) → get_or (map (entry_of im) (up_from a n)) (length (map (entry_of im) (up_from a n)) - 1) 0 ≡ entry_of im (a + n - 1)
last_number im a n h = ap (λ k. get_or (map (entry_of im) (up_from a n)) (k - 1) 0) (length_entries im a n) ∙ entry_number im a n (n - 1) (omega (arith, h)) ∙ ap (entry_of im) same
  where
    same : a + (n - 1) ≡ a + n - 1
    same = omega (arith, h)

pub no_numbers : (of im : Image) (a n : ℕ) → n ≡ 0 → ends_bare im (map (entry_of of) (up_from a n)) ≡ false
unfolding up_from
no_numbers of im a n h = ap (λ k. ends_bare im (map (entry_of of) (up_from a k))) h

pub none_bare : (im : Image) (body : Interval) → body.count ≡ 0 → false ≡ ends_bare im (entries_in im body)
unfolding up_from
none_bare im body h = sym (ap (λ n. ends_bare im (map (entry_of im) (up_from body.first n))) h)

pub nothing_last : (im : Image) (body : Interval) → body.count ≡ 0 → None ≡ bare_value im (entries_in im body)
nothing_last im body h = ap (λ b. cond b (Some (number (last_of im (entries_in im body)) 1)) None) (none_bare im body h)

-- what a value or none says
abbrev IsSome : Optional → Type 0
IsSome (Some n) = Unit {0}
IsSome None = ⊥

abbrev value_in : Optional → ℕ
value_in (Some n) = n
value_in None = 0

when_none : (b : Bool) (x : ℕ) (o : Optional) → o ≡ cond b (Some x) None → o ≡ None → b ≡ false
when_none true x o e h = absurd (subst IsSome (sym e ∙ h) tt)
when_none false x o e h = refl

when_some : (b : Bool) (x v : ℕ) (o : Optional) → o ≡ cond b (Some x) None → o ≡ Some v → (b ≡ true) × (v ≡ x)
when_some true x v o e h = (refl, ap value_in (sym h ∙ e))
when_some false x v o e h = absurd (subst IsSome (sym h ∙ e) tt)

module _ (im : Image) (ns : List ℕ) (o : Optional) (e : o ≡ bare_value im ns) where
  pub no_bare : o ≡ None → ends_bare im ns ≡ false
  no_bare h = when_none (ends_bare im ns) (number (last_of im ns) 1) o e h

  pub is_bare : (v : ℕ) → o ≡ Some v → (ends_bare im ns ≡ true) × (v ≡ number (last_of im ns) 1)
  is_bare v h = when_some (ends_bare im ns) (number (last_of im ns) 1) v o e h

module _ (s p : List ℕ) (c : Counts) (body : Interval) (fit : BodyFits s p c body) (some : body.count ≡ 0 → ⊥)
    (last start : ℕ) (l : last ≡ entry_of (image_found s p c) (body.first + body.count - 1)) (e : start ≡ get_or p (c.expressions + last) 0) where
  abbrev im : Image
  im = image_found s p c

  in_range : last < c.statements
  in_range = subst (λ z. z < c.statements) (ap (entry_of im) same ∙ sym l) (fit (body.count - 1) (omega (arith, some)))
    where
      same : body.first + (body.count - 1) ≡ body.first + body.count - 1
      same = omega (arith, some)

  last_is : (kind : ℕ) → kind ≡ get_or s start 0 → last_of im (entries_in im body) ≡ record_as s kind start
  last_is kind q = ap (record_of im Statements) (last_number im body.first body.count some ∙ sym l) ∙ statement_is s p c last start kind in_range e q

  some_bare : (kind : ℕ) → kind ≡ (record_in s start).kind → eqb kind 65 ≡ ends_bare im (entries_in im body)
  unfolding record_as
  some_bare kind q =
      sym (ap₂ (λ a b. not a && b) (not_empty (entry_of im) body.first body.count some) (ap (λ r. eqb r.kind 65) (last_is kind (q ∙ kind_in s start))))

  value_is : (value : ℕ) → value ≡ u16_at s (start + 5) → ends_bare im (entries_in im body) ≡ true → value ≡ number (last_of im (entries_in im body)) 1
  unfolding record_as fields_at fields_of fields_in schema sort_of
  value_is value v b =
      v ∙ ap (u16_at s) place ∙ sym (two s (start + 1 + 4)) ∙ sym (ap (λ r. number r 1) (last_is (get_or s start 0) refl ∙ ap (λ k. record_as s k start) is_65))
    where
      place : start + 5 ≡ start + 1 + 4
      place = omega arith

      is_65 : get_or s start 0 ≡ 65
      is_65 = eqb-true (get_or s start 0) 65 (some_bare (get_or s start 0) (sym (kind_in s start)) ∙ b)

  module _ (kind : ℕ) (q : kind ≡ (record_in s start).kind) where
    abbrev as_bare : Bool → Optional
    as_bare b = cond b (Some (number (last_of im (entries_in im body)) 1)) None

    pub other_last : (kind ≡ 65 → ⊥) → None ≡ bare_value im (entries_in im body)
    other_last d = ap as_bare (sym (ne_eqb kind 65 d) ∙ some_bare kind q)

    pub bare_last : (value : ℕ) → kind ≡ 65 → value ≡ u16_at s (start + 5) → Some value ≡ bare_value im (entries_in im body)
    bare_last value d v = ap Some (value_is value v ends) ∙ sym (ap as_bare ends)
      where
        ends : ends_bare im (entries_in im body) ≡ true
        ends = sym (some_bare kind q) ∙ eq-eqb kind 65 d
