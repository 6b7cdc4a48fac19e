-- An index or none: what holds of the index where there is one, and the field that has it.
-- Assumes nothing.
use Rattle.std.specs.Prelude.{ℕ, ◌<◌, ◌≡◌, refl, ◌⊎◌, Bool, true, false, cond, eqb, None, Some}
use Rattle.std.proofs.Common.{ap, sym, subst, inl, inr, arith, ne_eqb}
use Rattle.std.proofs.lemmas.Bool.{eqb-false}
use Rattle.rl_spec.specs.Answers.{Optional}
use Rattle.rl_spec.specs.Image.{Field, first}
use Rattle.rl_spec.specs.Ranges.{optional, optional_field}

pub data IfSome (P : ℕ → Type 0) : Optional → Type 0 where
  no_index : IfSome P None
  an_index : {n : ℕ} → P n → IfSome P (Some n)

pub if_some : {P Q : ℕ → Type 0} {o : Optional} → ((n : ℕ) → P n → Q n) → IfSome P o → IfSome Q o
if_some h no_index = no_index
if_some h (an_index {n = n} p) = an_index (h n p)

abbrev index_of : Optional → ℕ
index_of None = 0
index_of (Some n) = n

abbrev IsSome : Optional → Type 0
IsSome None = ⊥
IsSome (Some n) = Unit {0}

pub some_says : {P : ℕ → Type 0} {o : Optional} → IfSome P o → (n : ℕ) → o ≡ Some n → P n
some_says no_index n e = absurd (subst IsSome (sym e) tt)
some_says {P} (an_index p) n e = subst P (ap index_of e) p

-- what a field says that is not 65,535
pub optional_unless : {P : ℕ → Type 0} (f : Field) → ((first f ≡ 65535 → ⊥) → P (first f)) → IfSome P (optional f)
optional_unless {P} f h = go (eqb (first f) 65535) refl
  where
    go : (b : Bool) → eqb (first f) 65535 ≡ b → IfSome P (cond b None (Some (first f)))
    go true e = no_index
    go false e = an_index (h (eqb-false (first f) 65535 e))

-- what a field that fits says
pub optional_says : {P : ℕ → Type 0} (f : Field) → (first f ≡ 65535) ⊎ P (first f) → IfSome P (optional f)
optional_says f h = optional_unless f (λ n. elim h [ inl q ↦ absurd (n q) | inr p ↦ p ])

-- the field of an index that is not 65,535
pub optional_is : {o : Optional} → IfSome (λ n. n < 65535) o → optional (optional_field o) ≡ o
optional_is no_index = refl
optional_is (an_index {n = n} h) = rw (ne_eqb n 65535 (λ q. omega (arith, h))) refl
