-- One law for each way out of the functions that find a callee.
-- Assumes nothing.
use Prim.Native.Nat.{ℕ, suc, ◌+◌, ◌-◌, ◌≤◌, ◌<◌}
use mathlib.Core.Path.{◌≡◌, refl, sym, ap, ◌∙◌}
use mathlib.Core.Bool.{Bool, true, false, cond, ◌||◌}
use mathlib.Core.List.{List, map}
use mathlib.Core.Option.{some}
use native.Mathlib.Omega.{arith}
use lib.Dec.{eqb}
use lib.ListN.{get_or}
use borrow.Author.Tests.{eq-eqb, ne_eqb}
use Rattle.rl_spec.specs.declared.Counts.{Counts}
use Rattle.rl_spec.specs.declared.Function.{Function}
use Rattle.rl_spec.specs.declared.Param.{Param}
use Rattle.rl_spec.specs.Answers.{ParamRefinement, Optional}
use Rattle.std.specs.Prelude.{None, Some, is_some as there}
use Rattle.rl_spec.specs.Image.{Image, text_of}
use Rattle.rl_spec.specs.Values.{same_text}
use Rattle.rl_spec.specs.Found.{image_found}
use Rattle.rl_spec.specs.Records.{param_at, function_at}
use Rattle.rl_spec.specs.Ranges.{up_from}
use Rattle.rl_spec.specs.FnContracts.{param_of, clause_of, refinement_of, is_some, any_refined, contracts_of, record_fn_contracts, is_callee, callee_among}
use Rattle.rl_names.specs.Names.{Classes}
use Rattle.rl_prover.specs.Callees.{recorded, callee_in}
use Rattle.rl_prover.proofs.ListLaws.{from_start, from_end, from_next, empty_is}

-- ---- a refinement among parameters

some_is : (r : ParamRefinement) → is_some (refinement_of r) ≡ there r
some_is None = refl
some_is (Some r) = refl

module _ (s : List ℕ) (c : Counts) (first count : ℕ) where
  -- what is left to look at from the i-th parameter on
  abbrev pub Looks : ℕ → Type 0
  Looks i = (p : List ℕ) → any_refined (map (param_of (image_found s p c)) (up_from first count)) ≡ any_refined (map (param_of (image_found s p c)) (up_from (first + i) (count - i)))

  pub looks_start : Looks 0
  looks_start p = rw (from_start first count) refl

  module _ (i : ℕ) (l : Looks i) where
    abbrev All : Bool → Type 0
    All r = (p : List ℕ) → r ≡ any_refined (map (param_of (image_found s p c)) (up_from first count))

    pub looks_end : count ≤ i → All false
    unfolding any_refined
    looks_end h p = sym (l p ∙ rw (from_end first count i h) refl)

    module _ (h : i < count) (q : Param) (e : (p : List ℕ) → q ≡ param_at (image_found s p c) (first + i)) (r : Bool) (g : r ≡ there q.refinement) where
      step : (p : List ℕ) → any_refined (map (param_of (image_found s p c)) (up_from first count)) ≡ r || any_refined (map (param_of (image_found s p c)) (up_from (first + (i + 1)) (count - (i + 1))))
      unfolding any_refined param_of
      step p = l p ∙ rw (from_next first count i h, ← e p, some_is q.refinement, ← g) refl

      pub looks_found : r ≡ true → All true
      looks_found t p = sym (step p ∙ rw t refl)

      pub looks_on : r ≡ false → Looks (i + 1)
      looks_on t p = step p ∙ rw t refl

-- ---- contracts

recorded_is : (im : Image) (f : ℕ) → recorded im (function_at im f) ≡ record_fn_contracts (contracts_of im f)
unfolding recorded contracts_of
recorded_is im f = rw (empty_is (clause_of im) (function_at im f).required.first (function_at im f).required.count) refl

-- ---- the callee

module _ (s : List ℕ) (c : Counts) (cs : List ℕ) (name f : ℕ) where
  abbrev Is : Bool → Type 0
  Is r = (p : List ℕ) → Classes (text_of (image_found s p c)) cs → r ≡ is_callee (image_found s p c) (text_of (image_found s p c) name) f

  module _ (g : Function) (e : (p : List ℕ) → g ≡ function_at (image_found s p c) f) (a b : ℕ) (x : a ≡ get_or cs g.name 0) (y : b ≡ get_or cs name 0) where
    names : (p : List ℕ) → Classes (text_of (image_found s p c)) cs → same_text (text_of (image_found s p c) (function_at (image_found s p c) f).name) (text_of (image_found s p c) name) ≡ eqb a b
    names p k = k (function_at (image_found s p c) f).name name ∙ rw (← e p, x, y) refl

    pub callee_other : (a ≡ b → ⊥) → Is false
    unfolding is_callee
    callee_other d p k = rw (names p k, ne_eqb a b d) refl

    pub callee_named : a ≡ b → (r : Bool) → ((p : List ℕ) → r ≡ recorded (image_found s p c) g) → Is r
    unfolding is_callee
    callee_named d r h p k = rw (names p k, eq-eqb a b d) (h p ∙ ap (recorded (image_found s p c)) (e p) ∙ recorded_is (image_found s p c) f)

module _ (s : List ℕ) (c : Counts) (cs : List ℕ) (name most : ℕ) where
  -- what is left to look at: the first n functions
  abbrev pub Seeks : ℕ → Type 0
  Seeks n = (p : List ℕ) → Classes (text_of (image_found s p c)) cs → callee_among (image_found s p c) (text_of (image_found s p c) name) most ≡ callee_among (image_found s p c) (text_of (image_found s p c) name) n

  abbrev Among : Optional → Type 0
  Among r = (p : List ℕ) → Classes (text_of (image_found s p c)) cs → callee_in r ≡ callee_among (image_found s p c) (text_of (image_found s p c) name) most

  pub seeks_start : Seeks most
  seeks_start p k = refl

  module _ (n : ℕ) (l : Seeks n) where
    pub seeks_end : n ≤ 0 → Among None
    unfolding callee_among
    seeks_end h p k = let z : n ≡ 0 = omega arith in sym (l p k ∙ rw z refl)

    module _ (h : 0 < n) (r : Bool) (g : Is s c cs name (n - 1) r) where
      step_back : (p : List ℕ) → Classes (text_of (image_found s p c)) cs → callee_among (image_found s p c) (text_of (image_found s p c) name) most ≡ cond r (some (n - 1)) (callee_among (image_found s p c) (text_of (image_found s p c) name) (n - 1))
      unfolding callee_among
      step_back p k =
          let z : n ≡ suc (n - 1) = omega arith in
          l p k ∙ ap (callee_among (image_found s p c) (text_of (image_found s p c) name)) z ∙ rw (← g p k) refl

      pub seeks_found : r ≡ true → Among (Some (n - 1))
      seeks_found t p k = sym (step_back p k ∙ rw t refl)

      pub seeks_on : r ≡ false → Seeks (n - 1)
      seeks_on t p k = step_back p k ∙ rw t refl
