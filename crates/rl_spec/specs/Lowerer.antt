-- What lowering answers: reading first, then 11, 12, 13 and 14, else the bytes of the lowered image.
use Rattle.std.specs.Prelude.{ℕ, ◌-◌, Bool, false, cond, not, ◌||◌, List, [], ◌∷◌, ◌++◌, length, replicate, nat_lt, Result, Ok, Err}
use Rattle.std.proofs.Math.Option.{Option, none, some}
use Rattle.rl_spec.specs.Answers.{Answer, refused, LowerAnswer}
use Rattle.rl_spec.specs.declared.Refusal.{Refusal}
use Rattle.rl_spec.specs.declared.Cause.TheVariants.{NoSuchFunction, HeightOverLimit, OutputTooShort, LimitPassed}
use Rattle.rl_spec.specs.declared.Section.TheVariants.{Expressions, Statements}
use Rattle.rl_spec.specs.Read.{number_of, answer_of}
use Rattle.rl_spec.specs.Image.{Image, heights, encode, image_of}
use Rattle.rl_spec.specs.Lower.{lowered}

-- what comes of lowering: an image, or a refusal
abbrev pub Lowering : Type 0
Lowering = Result Image Refusal

-- ---- 12: an expression over 64 or a statement over 32, anywhere

unfoldable pub any_over : ℕ → List ℕ → Bool
any_over most [] = false
any_over most (h ∷ hs) = nat_lt most h || any_over most hs

unfoldable pub too_tall : Image → Bool
too_tall im = any_over 64 (heights im Expressions) || any_over 32 (heights im Statements)

-- ---- of an image's bytes, a work slice of k entries, a function and an output slice of so many bytes

-- 14 where a limit would be passed
abbrev pub or_limit : Option Image → Lowering
or_limit none = refused LimitPassed 0
or_limit (some im) = Ok im

abbrev pub lower_by : List ℕ → ℕ → ℕ → Answer → Lowering
lower_by s f room (Ok h) =
    cond (not (nat_lt f h.counts.functions)) (refused NoSuchFunction 0)
    (cond (too_tall (image_of s)) (refused HeightOverLimit 0)
    (cond (nat_lt room 65535) (refused OutputTooShort 0) (or_limit (lowered (image_of s) f))))
lower_by s f room (Err r) = Err r

unfoldable pub lower_of : List ℕ → ℕ → ℕ → ℕ → Lowering
lower_of s k f room = lower_by s f room (answer_of s k)

-- ---- THE ANSWER, its number, and the output slice: the image's bytes, then zeros

abbrev pub lower_answer : Lowering → LowerAnswer
lower_answer (Ok im) = Ok (length (encode im))
lower_answer (Err r) = Err r

abbrev pub lower_number : Lowering → ℕ
lower_number (Ok im) = 0
lower_number (Err r) = number_of r.cause

abbrev pub lower_out : ℕ → Lowering → List ℕ
lower_out room (Ok im) = encode im ++ replicate (room - length (encode im)) 0
lower_out room (Err r) = replicate room 0
