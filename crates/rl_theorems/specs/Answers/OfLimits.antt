-- What lowering answers, with 14 for limits alone: by the reader's table, then 11, 12 and 13, and 14 exactly where the image that lowering
-- without limits makes passes a limit; else that image is the answer.
-- Assumes nothing.
use Rattle.std.specs.Prelude.{◌≡◌, ℕ, ◌↔◌, List, [], ◌∷◌, ◌++◌, refl, Ok}
use Rattle.std.proofs.Common.{sym, ◌∙◌, subst, inl, inr, lt_of_not-le}
use Rattle.std.proofs.Math.Option.{Option, none, some, none-ne-some, some-injective}
use Rattle.rl_spec.specs.declared.Cause.{Cause}
use Rattle.rl_spec.specs.declared.Cause.TheVariants.{LimitPassed}
use Rattle.rl_spec.specs.declared.Section.TheVariants.{Expressions, Statements}
use Rattle.rl_spec.specs.Image.{Image, heights, image_of, AllBytes}
use Rattle.rl_spec.specs.Lower.{lowered, unlimited}
use Rattle.rl_spec.specs.Answers.{refused}
use Rattle.rl_spec.specs.Lowerer.{lower_of}
use Rattle.rl_images.specs.Encoding.Accepted.{accepted_well_formed}
use Rattle.rl_images.specs.Reading.Table.{row, Unmet, First, unmet_parts, first_last, unmet_last}
use Rattle.rl_images.specs.Reading.Rows.{read_rows}
use Rattle.rl_images.specs.Reading.ReadOutcome.{read_accepts}
use Rattle.rl_theorems.specs.Answers.Tables.{OverLimit, lower_checks, lower_rows}
use Rattle.rl_theorems.specs.Answers.OfLowering.{making_rows, making_refuses, making_accepts}
use Rattle.rl_theorems.specs.Lowering.LimitPassed.{Answers, refuses, makes, limits_alone}
use Rattle.rl_theorems.specs.DemandThree.LowerAnswers.{under}

-- nothing is made of an image that passes a limit, and of no other
none_passes : (x : Image) {o : Option Image} → Answers x o → o ≡ none → OverLimit x
none_passes x (refuses h) e = h
none_passes x (makes h) e = absurd (none-ne-some x (sym e))

passes_none : (x : Image) {o : Option Image} → Answers x o → OverLimit x → o ≡ none
passes_none x (refuses h) p = refl
passes_none x (makes h) p = absurd (h p)

some_same : (x y : Image) {o : Option Image} → Answers x o → o ≡ some y → x ≡ y
some_same x y (refuses h) e = absurd (none-ne-some y e)
some_same x y (makes h) e = some-injective x y e

some_made : (x : Image) {o : Option Image} → Answers x o → (OverLimit x → ⊥) → o ≡ some x
some_made x (refuses p) h = absurd (h p)
some_made x (makes g) h = refl

module _ (s : List ℕ) (k f room : ℕ) (bytes : AllBytes s) where
  abbrev im : Image
  im = image_of s

  -- where 1 to 13 do not hold
  answered : Unmet (read_rows s k) → Unmet (lower_checks im f room) → (x : Image) × (unlimited im f ≡ some x) × Answers x (lowered im f)
  answered a b =
      let r = (read_accepts s k).1 a in
      limits_alone im f (accepted_well_formed s k r.0 r.1 bytes r.2) (lt_of_not-le b.0)
      (under 64 (heights im Expressions) (λ i l. b.1.0 (inl (i, l)))) (under 32 (heights im Statements) (λ i l. b.1.0 (inr (i, l))))

  abbrev Past : Type 0
  Past = (im' : Image) × (unlimited im f ≡ some im') × OverLimit im'

  none_past : Unmet (read_rows s k) → Unmet (lower_checks im f room) → lowered im f ≡ none → Past
  none_past a b e = let x = answered a b in (x.0, x.1, none_passes x.0 x.2 e)

  past_none : Unmet (read_rows s k) → Unmet (lower_checks im f room) → Past → lowered im f ≡ none
  past_none a b y =
      let x = answered a b in
      passes_none x.0 x.2 (subst OverLimit (some-injective y.0 x.0 (sym y.1 ∙ x.1)) y.2)

  -- THEOREMS
  pub lower_refuses : (q : Cause) (p : ℕ) → (lower_of s k f room ≡ refused q p) ↔ First (read_rows s k ++ lower_rows im f room) q p
  lower_refuses q p =
      let m = making_refuses s k f room q p in (
        λ e. first_last (read_rows s k) (lower_checks im f room) LimitPassed 0 none_past q p (m.0 e),
        λ h. m.1 (first_last (read_rows s k) (lower_checks im f room) LimitPassed 0 past_none q p h),
      )

  pub lower_accepts : (im' : Image) → (lower_of s k f room ≡ Ok im') ↔ (Unmet (read_rows s k ++ lower_rows im f room) × (unlimited im f ≡ some im'))
  lower_accepts im' = (there, back)
    where
      there : lower_of s k f room ≡ Ok im' → Unmet (read_rows s k ++ lower_rows im f room) × (unlimited im f ≡ some im')
      there e =
          let m = (making_accepts s k f room im').0 e in
          let a = unmet_parts (read_rows s k) (making_rows im f room) m.0 in
          let b = unmet_parts (lower_checks im f room) (row LimitPassed 0 (lowered im f ≡ none) ∷ []) a.1 in
          let x = answered a.0 b.0 in (
            unmet_last (read_rows s k) (lower_checks im f room) LimitPassed 0 past_none m.0,
            x.1 ∙ sym (subst (λ y. some im' ≡ some y) (sym (some_same x.0 im' x.2 m.1)) refl),
          )

      back : Unmet (read_rows s k ++ lower_rows im f room) × (unlimited im f ≡ some im') → lower_of s k f room ≡ Ok im'
      back y =
          let a = unmet_parts (read_rows s k) (lower_rows im f room) y.0 in
          let b = unmet_parts (lower_checks im f room) (row LimitPassed 0 Past ∷ []) a.1 in
          let x = answered a.0 b.0 in
          let d : x.0 ≡ im' = some-injective x.0 im' (sym x.1 ∙ y.1) in
          let e : lowered im f ≡ some x.0 = some_made x.0 x.2 (λ p. b.1.0 (x.0, x.1, p)) in
          (making_accepts s k f room im').1 (
            unmet_last (read_rows s k) (lower_checks im f room) LimitPassed 0 none_past y.0,
            e ∙ subst (λ z. some x.0 ≡ some z) d refl,
          )
