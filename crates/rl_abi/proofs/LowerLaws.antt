-- One law for each way out of lowering for C and Rust.
-- Assumes nothing.
use Prim.Native.Nat.{ℕ, ◌≤◌}
use mathlib.Core.Path.{◌≡◌, refl, sym, ap, subst, ◌∙◌}
use mathlib.Core.Bool.{Bool, true, false, not, cond}
use mathlib.Core.List.{List}
use mathlib.Core.Option.{Option, none, some}
use native.Mathlib.Omega.{arith}
use lib.Dec.{ltb}
use Rattle.rl_spec.specs.Answers.{Answer, refused, LowerAnswer}
use Rattle.std.specs.Prelude.{Ok, Err}
use Rattle.rl_spec.specs.declared.Cause.TheVariants.{NoSuchFunction, HeightOverLimit, OutputTooShort}
use Rattle.rl_spec.specs.Read.{answer_of}
use Rattle.rl_spec.specs.Image.{Image, image_of}
use Rattle.rl_spec.specs.Lower.{lowered}
use Rattle.rl_spec.specs.Lowerer.{too_tall, or_limit, lower_by, lower_of, lower_answer}
use Rattle.rl_images.specs.Reading.Places.{place_small}
use Rattle.rl_spec.specs.Boundary.{lower_packed}
use Rattle.rl_boundary.specs.Packing.{packed_by, place_of}
use Rattle.rl_abi.proofs.Laws.{count_packed}

lower_place : (s : List ℕ) (k f room : ℕ) → place_of (lower_answer (lower_of s k f room)) ≤ 65535
unfolding lower_of
lower_place s k f room = go (answer_of s k) refl
  where
    limit : (o : Option Image) → place_of (lower_answer (or_limit o)) ≤ 65535
    limit none = omega arith
    limit (some im) = omega arith

    chosen : (x y z : Bool) (o : Option Image) →
        place_of (lower_answer (cond (not x) (refused NoSuchFunction 0) (cond y (refused HeightOverLimit 0) (cond z (refused OutputTooShort 0) (or_limit o))))) ≤ 65535
    chosen false y z o = omega arith
    chosen true true z o = omega arith
    chosen true false true o = omega arith
    chosen true false false o = limit o

    go : (a : Answer) → answer_of s k ≡ a → place_of (lower_answer (lower_by s f room a)) ≤ 65535
    go (Err r) e = place_small s k r.cause r.place e
    go (Ok h) e = chosen (ltb f h.counts.functions) (too_tall (image_of s)) (ltb room 65535) (lowered (image_of s) f)

module _ (s : List ℕ) (k f room : ℕ) (a : LowerAnswer) (e : a ≡ lower_answer (lower_of s k f room)) where
  pub lower_near : place_of a ≤ 65535
  lower_near = subst (λ (x : LowerAnswer). place_of x ≤ 65535) (sym e) (lower_place s k f room)

  pub lower_packed_lem : (r : ℕ) → r ≡ packed_by (λ n. n) a → r ≡ lower_packed (lower_answer (lower_of s k f room))
  lower_packed_lem r g = g ∙ count_packed a ∙ ap lower_packed e
