-- What lowering answers: by the reader's table, then 11, 12, 13, and 14 where nothing is made (OfLimits says when that is).
-- Assumes nothing.
use Rattle.std.specs.Prelude.{◌≡◌, ℕ, zero, suc, ◌<◌, Bool, true, false, not, ◌||◌, ◌↔◌, List, [], ◌∷◌, ◌++◌, ◌≢◌, nat_lt, slice_index, refl, Ok}
use Rattle.std.proofs.Common.{sym, ap, inl, inr, arith}
use Rattle.std.proofs.lemmas.Bool.{false≢true}
use Rattle.std.proofs.Math.Option.{Option, none, some}
use borrow.Author.Tests.{ltb-true, ltb-false, not-true, not-false}
use Rattle.rl_spec.specs.declared.Cause.{Cause}
use Rattle.rl_spec.specs.declared.Cause.TheVariants.{LimitPassed}
use Rattle.rl_spec.specs.declared.Section.TheVariants.{Expressions, Statements, Functions}
use Rattle.rl_spec.specs.Image.{Image, heights, image_of}
use Rattle.rl_spec.specs.Lower.{lowered}
use Rattle.rl_spec.specs.Answers.{refused}
use Rattle.rl_spec.specs.Lowerer.{any_over, too_tall, or_limit, lower_by, lower_of}
use Rattle.rl_images.specs.Reading.Table.{Row, row, Unmet, First, unmet_parts, By, refuses, accepts, checks, refuses_exactly, accepts_exactly}
use Rattle.rl_images.specs.Reading.Rows.{read_rows}
use Rattle.rl_images.specs.Reading.Starts.{sizes_are_counts}
use Rattle.rl_theorems.specs.Answers.Tables.{HeightOver, lower_checks}
use Rattle.rl_theorems.specs.Answers.AfterReading.{after_reading}
use Rattle.rl_laws.specs.AnswerLaws.{same_refusal}

-- ---- 12

either : {P : Type 0} (b c : Bool) → b || c ≡ true → (b ≡ true → P) → (c ≡ true → P) → P
either true c e f g = f refl
either false c e f g = g e

neither : (b c : Bool) → b || c ≡ false → (b ≡ false) × (c ≡ false)
neither true c e = absurd (false≢true (sym e))
neither false c e = (refl, e)

any_over_lem : (most : ℕ) (hs : List ℕ) → any_over most hs ≡ true → (i : ℕ) × (most < slice_index hs i)
unfolding any_over
any_over_lem most [] e = absurd (false≢true e)
any_over_lem most (h ∷ hs) e =
    either (nat_lt most h) (any_over most hs) e (λ d. (zero, ltb-true most h d)) (λ d. let r = any_over_lem most hs d in (suc r.0, r.1))

none_over : (most : ℕ) (hs : List ℕ) → any_over most hs ≡ false → (i : ℕ) → most < slice_index hs i → ⊥
unfolding any_over
none_over most [] e i l = omega arith
none_over most (h ∷ hs) e zero l = omega (arith, ltb-false most h (neither (nat_lt most h) (any_over most hs) e).0)
none_over most (h ∷ hs) e (suc i) l = none_over most hs (neither (nat_lt most h) (any_over most hs) e).1 i l

tall_over : (im : Image) → too_tall im ≡ true → HeightOver im
unfolding too_tall
tall_over im e =
    either (any_over 64 (heights im Expressions)) (any_over 32 (heights im Statements)) e
    (λ d. inl (any_over_lem 64 (heights im Expressions) d)) (λ d. inr (any_over_lem 32 (heights im Statements) d))

tall_under : (im : Image) → too_tall im ≡ false → HeightOver im → ⊥
unfolding too_tall
tall_under im e (inl x) = none_over 64 (heights im Expressions) (neither _ (any_over 32 (heights im Statements)) e).0 x.0 x.1
tall_under im e (inr x) = none_over 32 (heights im Statements) (neither (any_over 64 (heights im Expressions)) _ e).1 x.0 x.1

-- ---- the answer

-- 11, 12, 13, and nothing is made
abbrev pub making_rows : Image → ℕ → ℕ → List Row
making_rows im f room = lower_checks im f room ++ row LimitPassed 0 (lowered im f ≡ none) ∷ []

differ : {im : Image} {q : Cause} {p : ℕ} → Ok im ≢ refused q p
differ e = let z : ◌≡◌ {A = ℕ} 0 1 = cc in omega arith

never_none : {im : Image} → some im ≢ none
never_none e = let z : ◌≡◌ {A = ℕ} 0 1 = cc in omega arith

-- 14
limit_by : (o : Option Image) → By refused (row LimitPassed 0 (o ≡ none) ∷ []) (or_limit o) (or_limit o)
limit_by none = refuses (inl (refl, refl, refl))
limit_by (some im) = accepts (never_none, tt)

no_limit : (o : Option Image) (q : Cause) (p : ℕ) → (o ≢ none) → or_limit o ≢ refused q p
no_limit none q p h e = h refl
no_limit (some im) q p h e = differ e

gives : (o : Option Image) (im : Image) → or_limit o ≡ Ok im → o ≡ some im
gives none im e = absurd (differ (sym e))
gives (some x) im e = let y : x ≡ im = cc in ap some y

module _ (s : List ℕ) (k f room : ℕ) where
  -- THEOREM
  pub making_by : By refused (read_rows s k ++ making_rows (image_of s) f room) (or_limit (lowered (image_of s) f)) (lower_of s k f room)
  unfolding lower_of
  making_by =
      after_reading s k (making_rows (image_of s) f room) (lower_by s f room) (λ q n. refl) λ a c e.
      let functions = sizes_are_counts s k a c e Functions in
      checks (not (nat_lt f c.functions)) (λ d. omega (arith, functions, ltb-false f c.functions (not-true _ d)))
      (λ d h. omega (arith, functions, ltb-true f c.functions (not-false _ d), h))
      (checks (too_tall (image_of s)) (tall_over (image_of s)) (tall_under (image_of s))
      (checks (nat_lt room 65535) (ltb-true room 65535) (λ d h. omega (arith, ltb-false room 65535 d, h)) (limit_by (lowered (image_of s) f))))

  -- THEOREMS: so
  pub making_refuses : (q : Cause) (p : ℕ) → (lower_of s k f room ≡ refused q p) ↔ First (read_rows s k ++ making_rows (image_of s) f room) q p
  making_refuses =
      refuses_exactly (λ q q' p p' e. same_refusal e)
      (λ u q p. no_limit (lowered (image_of s) f) q p (unmet_parts (read_rows s k) (making_rows (image_of s) f room) u).1.1.1.1.0) making_by

  pub making_accepts : (im' : Image) → (lower_of s k f room ≡ Ok im') ↔ (Unmet (read_rows s k ++ making_rows (image_of s) f room) × (lowered (image_of s) f ≡ some im'))
  making_accepts im' =
      let x = accepts_exactly (Ok im') (λ q p e. differ (sym e)) making_by in
      (λ e. ((x.0 e).0, gives (lowered (image_of s) f) im' (x.0 e).1), λ y. x.1 (y.0, ap or_limit y.1))
