-- Refusal 14 is for limits alone: lowering without limits makes an image of every accepted one, and lowering refuses where that image passes
-- a limit, and makes it where it passes none.
-- Assumes nothing.
use Rattle.std.specs.Prelude.{◌≡◌, ℕ, ◌<◌, Bool, true, false, cond, length, nat_lt}
use Rattle.std.proofs.Math.Path.{refl}
use Rattle.std.proofs.Common.{sym, ap, inl, inr, arith, length-set, ltb-true}
use Rattle.std.proofs.Math.Option.{Option, none, some}
use Rattle.rl_spec.specs.declared.Section.{Section}
use Rattle.rl_spec.specs.declared.Section.TheVariants.{Expressions, Statements, Functions}
use Rattle.rl_spec.specs.Schema.{limits}
use Rattle.rl_spec.specs.Image.{Field, Image, order_of, records_of, size_of, heights, encode, WellFormed}
use Rattle.rl_spec.specs.Make.{Context}
use Rattle.rl_spec.specs.Lower.{new_body, start, with_body, has_contracts, fitting, finished, lowered_by, lowered, unlimited}
use Rattle.rl_laws.specs.Tests.{by_eqb}
use Rattle.rl_images.specs.Encoding.Header.{size_within}
use Rattle.rl_images.specs.Lowering.Grows.{Eight, eight_sections, records_own, records_other}
use Rattle.rl_images.specs.Lowering.GrowsTo.{eight_later}
use Rattle.rl_images.specs.Lowering.Adds.{Over, Tracks, alike, passed, freed}
use Rattle.rl_images.specs.Lowering.AddsLower.{adds_new_body}
use Rattle.rl_theorems.specs.Answers.Tables.{OverLimit}
use Rattle.rl_theorems.specs.Images.FunctionReady.{Under}
use Rattle.rl_theorems.specs.Images.SoundImages.{same_order}
use Rattle.rl_theorems.specs.Images.LoweredWellFormed.{lowered_well_formed}

-- a well-formed image passes no limit
none_passed : (im : Image) → WellFormed im → OverLimit im → ⊥
unfolding limits
none_passed im wf (inl h) = omega (arith, h, wf.counts.0)
none_passed im wf (inr (inl h)) = omega (arith, h.1, size_within im wf.counts h.0)
none_passed im wf (inr (inr h)) = omega (arith, h, wf.size)

-- what lowering makes of an image that is made without limits
pub data Answers (im : Image) : Option Image → Type 0 where
  refuses : OverLimit im → Answers im none
  makes : (OverLimit im → ⊥) → Answers im (some im)

-- ---- a changed body list passes what was passed

body_size : (im : Image) (f : ℕ) (list : Field) → Eight im → (o : Section) → size_of (with_body im f list) o ≡ size_of im o
body_size im f list e o =
    by_eqb (order_of Functions) (order_of o)
    (λ d. rw (same_order Functions o d, records_own im Functions _ e) (length-set (records_of im Functions) f _))
    (λ n. ap length (records_other im Functions o _ (λ d. n (sym d))))

body_over : (im : Image) (f : ℕ) (list : Field) → Eight im → Over im → OverLimit (with_body im f list)
body_over im f list e (inl h) = inl h
body_over im f list e (inr h) = inr (inl (h.0, rw (body_size im f list e h.0) h.1))

-- ---- the lowered image

module _ (im : Image) (f : ℕ) (wf : WellFormed im) (there : f < size_of im Functions) (low : Under 64 (heights im Expressions))
    (lower : Under 32 (heights im Statements)) where
  abbrev Result : Option Image → Option Image → Type 0
  Result free limited = (x : Image) × (free ≡ some x) × Answers x limited

  abbrev InLimits : Option Image → Type 0
  InLimits o = (x : Image) → o ≡ some x → WellFormed x

  by_bytes : (x : Image) (b : Bool) → nat_lt 65535 (length (encode x)) ≡ b → InLimits (cond b none (some x)) →
      Result (some x) (cond b none (some x))
  by_bytes x true e h = (x, refl, refuses (inr (inr (ltb-true 65535 (length (encode x)) e))))
  by_bytes x false e h = (x, refl, makes (none_passed x (h x refl)))

  by_body : {o p : Option (Field × Context)} → Tracks (start im f) o p → InLimits (finished true f o) →
      Result (finished false f p) (finished true f o)
  unfolding fitting
  by_body (alike {a = list} {d = d} l) h = by_bytes (with_body d.image f list) _ refl h
  by_body (passed {a = list} {d = d} l v) h =
      (with_body d.image f list, refl, refuses (body_over d.image f list (eight_later l (eight_sections im wf)) v))

  by_contracts : (b : Bool) → let made = new_body im f in
      InLimits (cond b (finished true f (made (start im f))) (some im)) →
      Result (cond b (finished false f (made (freed (start im f)))) (some im)) (cond b (finished true f (made (start im f))) (some im))
  by_contracts true h = by_body ((adds_new_body im f).tracks (start im f) (eight_sections im wf)) h
  by_contracts false h = (im, refl, makes (none_passed im wf))

  -- THEOREM: without limits there is an image; where it passes a limit lowering refuses, and else makes that image
  pub limits_alone : (x : Image) × (unlimited im f ≡ some x) × Answers x (lowered im f)
  unfolding lowered_by
  limits_alone = by_contracts (has_contracts im f) (λ x. lowered_well_formed im x f wf there low lower)
