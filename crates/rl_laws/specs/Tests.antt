-- Laws on tests that several crates cite.
-- Assumes nothing.
use Rattle.std.specs.Prelude.{ℕ, ◌≤◌, ◌<◌, ◌≡◌, refl, Bool, true, false, ◌&&◌, ltb, eqb}
use Rattle.std.proofs.Common.{ltb-true, ltb-false, eqb-true}
use Rattle.std.proofs.lemmas.Bool.{eqb-false}

-- by cases on an order
pub by_ltb : {P : Type 0} (a b : ℕ) → (a < b → P) → (b ≤ a → P) → P
by_ltb {P} a b f g = go (ltb a b) refl
  where
    go : (t : Bool) → ltb a b ≡ t → P
    go true e = f (ltb-true a b e)
    go false e = g (ltb-false a b e)

pub not_below : (a b : ℕ) → (a < b → ⊥) → b ≤ a
not_below a b h = by_ltb a b (λ l. absurd (h l)) (λ l. l)

pub and_false : (a : Bool) → a && false ≡ false
and_false true = refl
and_false false = refl

-- by cases on an equality
pub by_eqb : {P : Type 0} (a b : ℕ) → (a ≡ b → P) → ((a ≡ b → ⊥) → P) → P
by_eqb {P} a b f g = go (eqb a b) refl
  where
    go : (t : Bool) → eqb a b ≡ t → P
    go true e = f (eqb-true a b e)
    go false e = g (eqb-false a b e)
