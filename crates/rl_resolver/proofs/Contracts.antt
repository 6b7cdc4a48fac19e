-- Whether a function has contracts, by the counts of its clauses and by its parameters.
-- Assumes nothing.
use Prim.Native.Nat.{ℕ}
use mathlib.Core.Path.{◌≡◌, refl, sym, ◌∙◌}
use mathlib.Core.Bool.{Bool, true, not, ◌||◌}
use mathlib.Core.List.{List, map}
use lib.Dec.{eqb}
use borrow.Author.Tests.{ne_eqb}
use Rattle.rl_spec.specs.declared.Counts.{Counts}
use Rattle.rl_spec.specs.declared.Function.{Function}
use Rattle.rl_spec.specs.Found.{image_found}
use Rattle.rl_spec.specs.Records.{clause_at, function_at}
use Rattle.rl_spec.specs.Ranges.{numbers_in}
use Rattle.rl_spec.specs.FnContracts.{param_of, any_refined}
use Rattle.rl_spec.specs.Lower.{has_contracts}
use Rattle.rl_prover.proofs.ListLaws.{empty_is}

module _ (s : List ℕ) (c : Counts) (f : ℕ) (g : Function) (e : (p : List ℕ) → g ≡ function_at (image_found s p c) f) where
  abbrev refined : List ℕ → Bool
  refined p = any_refined (map (param_of (image_found s p c)) (numbers_in g.params))

  abbrev Has : Bool → Type 0
  Has r = (p : List ℕ) → r ≡ has_contracts (image_found s p c) f

  by_counts : (p : List ℕ) → has_contracts (image_found s p c) f ≡ (not (eqb g.required.count 0) || not (eqb g.ensured.count 0) || refined p)
  unfolding has_contracts
  by_counts p =
      rw (← e p, empty_is (clause_at (image_found s p c)) g.required.first g.required.count, empty_is (clause_at (image_found s p c)) g.ensured.first g.ensured.count)
      refl

  pub has_requires : (g.required.count ≡ 0 → ⊥) → Has true
  has_requires d p = sym (by_counts p ∙ rw (ne_eqb g.required.count 0 d) refl)

  module _ (z : g.required.count ≡ 0) where
    pub has_ensures : (g.ensured.count ≡ 0 → ⊥) → Has true
    has_ensures d p = sym (by_counts p ∙ rw (z, ne_eqb g.ensured.count 0 d) refl)

    pub has_refined : g.ensured.count ≡ 0 → (r : Bool) → ((p : List ℕ) → r ≡ refined p) → Has r
    has_refined d r h p = h p ∙ sym (by_counts p ∙ rw (z, d) refl)
