-- What reading leaves for what comes after it.
-- Assumes nothing.
use Rattle.std.specs.Prelude.{ℕ, ◌≡◌, refl, List, replicate, Ok, Err}
use Rattle.std.proofs.Common.{subst, arith, ne_eqb}
use Rattle.rl_spec.specs.Answers.{Answer, refused}
use Rattle.rl_spec.specs.declared.Cause.{Cause}
use Rattle.rl_spec.specs.declared.Cause.TheVariants.{ImageTooLong, WorkTooShort, BytesEnd, WrongKind, CountOverLimit, BadText, BadValue, BadReference, TooHigh, BytesLeft, OtherArena, NoSuchNode, NoSuchCall, ReportsTooShort, NoSuchFunction, HeightOverLimit, OutputTooShort, LimitPassed, WrongValues, NoSuchText, BudgetOverLimit, PagesTooShort}
use Rattle.rl_spec.specs.Read.{Out, good, bad, number_of, answer_by, work_by, read_of, answer_of, work_of}
use Rattle.rl_spec.specs.Fold.{work_unless}

not_zero : (q : Cause) → number_of q ≡ 0 → ⊥
not_zero ImageTooLong e = omega arith
not_zero WorkTooShort e = omega arith
not_zero BytesEnd e = omega arith
not_zero WrongKind e = omega arith
not_zero CountOverLimit e = omega arith
not_zero BadText e = omega arith
not_zero BadValue e = omega arith
not_zero BadReference e = omega arith
not_zero TooHigh e = omega arith
not_zero BytesLeft e = omega arith
not_zero OtherArena e = omega arith
not_zero NoSuchNode e = omega arith
not_zero NoSuchCall e = omega arith
not_zero ReportsTooShort e = omega arith
not_zero NoSuchFunction e = omega arith
not_zero HeightOverLimit e = omega arith
not_zero OutputTooShort e = omega arith
not_zero LimitPassed e = omega arith
not_zero WrongValues e = omega arith
not_zero NoSuchText e = omega arith
not_zero BudgetOverLimit e = omega arith
not_zero PagesTooShort e = omega arith

-- what is refused leaves zeros
pub zeros_unless : (q : Cause) (s : List ℕ) (k : ℕ) → replicate k 0 ≡ work_unless (number_of q) s k
zeros_unless q s k = rw (ne_eqb (number_of q) 0 (not_zero q)) refl

abbrev IsAccepted : Answer → Type 0
IsAccepted (Ok h) = Unit {0}
IsAccepted (Err r) = ⊥

-- a refusal of the reader leaves zeros
pub refused_work : (s : List ℕ) (k : ℕ) (q : Cause) (n : ℕ) → answer_of s k ≡ refused q n → work_of s k ≡ replicate k 0
unfolding answer_of work_of
refused_work s k q n e = go (read_of s k) e
  where
    go : (o : Out) → answer_by s o ≡ refused q n → work_by k o ≡ replicate k 0
    go (good at w p) f = absurd (subst IsAccepted f tt)
    go (bad c m) f = refl
