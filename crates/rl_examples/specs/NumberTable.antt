-- The numbers of 01's table, one for each cause; the words of an answer and of a value; and what the other tables write rows with.
-- Assumes nothing.
use Rattle.std.specs.Prelude.{◌≡◌, true, false, List, [], ◌∷◌, map, pos, negsuc, refl}
use Rattle.rl_spec.specs.declared.Cause.{Cause}
use Rattle.rl_spec.specs.declared.Cause.TheVariants.{ImageTooLong, WorkTooShort, BytesEnd, WrongKind, CountOverLimit, BadText, BadValue, BadReference, TooHigh, BytesLeft, NoSuchFunction, HeightOverLimit, OutputTooShort, LimitPassed, OtherArena, NoSuchNode, NoSuchCall, ReportsTooShort, WrongValues, NoSuchText, BudgetOverLimit, PagesTooShort}
use Rattle.rl_spec.specs.Answers.{refused}
use Rattle.rl_spec.specs.declared.ConstVal.TheVariants.{Int, Str, Bool}
use Rattle.rl_spec.specs.declared.Plain.TheVariants.{Null, Const}
use Rattle.rl_spec.specs.declared.Value.{Value}
use Rattle.rl_spec.specs.declared.Value.TheVariants.{Plain}
use Rattle.rl_spec.specs.declared.Value.TheVariants as val
use Rattle.rl_spec.specs.Read.{number_of, packed}
use Rattle.rl_spec.specs.Tree.{ascii}
use Rattle.rl_spec.specs.Ranges.{up_from}
use Rattle.rl_spec.specs.Words.{bits64}
use Rattle.rl_spec.specs.Runner.{value_sort, value_payload}

-- from 1 on, in the table's words
abbrev pub causes : List Cause
causes =
    -- over 65,535 bytes; work slice under 8,192 entries
    ImageTooLong
    ∷ WorkTooShort
    -- bytes end; kind not of this section; count over limit; text outside or not UTF-8; value outside its set; reference or list not allowed
    ∷ BytesEnd
    ∷ WrongKind
    ∷ CountOverLimit
    ∷ BadText
    ∷ BadValue
    ∷ BadReference
    -- height over 68 or 36; bytes left
    ∷ TooHigh
    ∷ BytesLeft
    -- no such function; height over 64 or 32; output slice under 65,535; a limit would be passed
    ∷ NoSuchFunction
    ∷ HeightOverLimit
    ∷ OutputTooShort
    ∷ LimitPassed
    -- other arena; no such node; no such call; report slice under the call's reports
    ∷ OtherArena
    ∷ NoSuchNode
    ∷ NoSuchCall
    ∷ ReportsTooShort
    -- values not the parameter count, or over 16; text value missing; budget over 1,000,000
    ∷ WrongValues
    ∷ NoSuchText
    ∷ BudgetOverLimit
    ∷ PagesTooShort ∷ []

pub numbers_so : map number_of causes
    ≡ 1 ∷ 2 ∷ 3 ∷ 4 ∷ 5 ∷ 6 ∷ 7 ∷ 8 ∷ 9 ∷ 10 ∷ 11 ∷ 12 ∷ 13 ∷ 14 ∷ 15 ∷ 16 ∷ 17 ∷ 18 ∷ 19 ∷ 20 ∷ 21 ∷ 22 ∷ []
numbers_so = refl

-- 6 at the place 300: the number above the 32 low bits
pub packed_so : packed (refused BadText 300) ≡ 25769804076
packed_so = refl

-- values with their two words: the sort, 0 Null, 1 Int, 3 Str, 4 Bool, 8 more in an Ok, 16 more in an Err; and the payload
abbrev pub values : List Value
values =
    Plain Null
    ∷ Plain (Const (Int (pos 5)))
    ∷ Plain (Const (Int (negsuc 0)))
    ∷ Plain (Const (Str 7))
    ∷ Plain (Const (Bool true))
    ∷ Plain (Const (Bool false))
    ∷ val.Ok Null
    ∷ val.Ok (Const (Int (pos 5)))
    ∷ val.Err (Const (Str 7)) ∷ []

pub sorts_so : map value_sort values ≡ 0 ∷ 1 ∷ 1 ∷ 3 ∷ 4 ∷ 4 ∷ 8 ∷ 9 ∷ 19 ∷ []
sorts_so = refl

pub payloads_so : map value_payload values ≡ 0 ∷ 5 ∷ 18446744073709551615 ∷ 7 ∷ 1 ∷ 0 ∷ 0 ∷ 5 ∷ 7 ∷ []
payloads_so = refl

-- ---- what rows are written with: the bytes of a text, two's complement, and numbers in a row

pub ascii_so : ascii "az AZ __ 09 >=<!: (i)" ≡ 97 ∷ 122 ∷ 32 ∷ 65 ∷ 90 ∷ 32 ∷ 95 ∷ 95 ∷ 32 ∷ 48 ∷ 57 ∷ 32 ∷ 62 ∷ 61 ∷ 60 ∷ 33 ∷ 58 ∷ 32 ∷ 40 ∷ 105 ∷ 41 ∷ []
unfolding ascii
ascii_so = refl

pub bits_so : map bits64 (pos 0 ∷ pos 9223372036854775807 ∷ negsuc 0 ∷ negsuc 9223372036854775807 ∷ [])
    ≡ 0 ∷ 9223372036854775807 ∷ 18446744073709551615 ∷ 9223372036854775808 ∷ []
bits_so = refl

pub row_so : up_from 3 4 ≡ 3 ∷ 4 ∷ 5 ∷ 6 ∷ []
unfolding up_from
row_so = refl
