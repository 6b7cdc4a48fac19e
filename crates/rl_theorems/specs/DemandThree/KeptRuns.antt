-- A function's runs in two images, of which the second keeps the texts and the functions' parameters of the first, on values whose texts
-- are the first one's: where the first is refused, so is the second, by the same number; otherwise the second ends as the function that
-- it has, with texts by their bytes.
-- Assumes nothing.
use Rattle.std.specs.Prelude.{◌≡◌, ℕ, ◌<◌, ◌≤◌, Bool, true, false, cond, not, List, map, nat_lt, Ok, Err}
use Rattle.std.proofs.Math.Path.{refl, ap}
use Rattle.std.proofs.Common.{sym, ◌∙◌, subst}
use borrow.Author.Tests.{lt-ltb, le-ltb}
use Rattle.rl_spec.specs.Answers.{accepted, ran, refused, RunAnswer}
use Rattle.rl_spec.specs.declared.Arguments.{Arguments}
use Rattle.rl_spec.specs.declared.Cause.{Cause}
use Rattle.rl_spec.specs.declared.Cause.TheVariants.{WorkTooShort, NoSuchFunction, WrongValues, BudgetOverLimit}
use Rattle.rl_spec.specs.declared.Outcome.{Outcome}
use Rattle.rl_spec.specs.declared.Section.TheVariants.{Texts, Functions}
use Rattle.rl_spec.specs.Read.{counts_of, read_of, answer_of}
use Rattle.rl_spec.specs.Image.{Image, size_of, text_of, encode, image_of, WellFormed}
use Rattle.rl_spec.specs.Values as value
use Rattle.rl_spec.specs.Records.{function_at}
use Rattle.rl_spec.specs.Run as run
use Rattle.rl_spec.specs.Reading.{Function, run_function}
use Rattle.rl_spec.specs.Mapped.{map_value, map_outcome, Text}
use Rattle.rl_spec.specs.Functions.{plain_function, contract_function}
use Rattle.rl_spec.specs.Runner.{plain_of, value_of, as_plain, as_value, as_outcome, outcome_of, outcome_in, all_have, given, values_of, ran_in, is_for, run_of}
use Rattle.rl_laws.specs.Tests.{by_ltb}
use Rattle.rl_images.specs.Encoding.ReaderKnows.{counts}
use Rattle.rl_images.specs.Encoding.Encoded.{encoded_accepted}
use Rattle.rl_images.specs.Reading.Starts.{section_size}
use Rattle.rl_theorems.specs.Runs.TextRuns.{map_function, map_ended, run_mapped}
use Rattle.rl_theorems.specs.Lowering.LoweredFunctions.{plain_runs}
use Rattle.rl_theorems.specs.Lowering.LoweredArguments.{Keeps, keeps_all, values_same, values_have}

-- ---- the bytes of a well-formed image

pub record Whole (s : List ℕ) : Type 0 where
  pub well_formed : WellFormed (image_of s)
  pub bytes : encode (image_of s) ≡ s

-- with a work slice that is long enough they are accepted, and with any other refused by 2
whole_accepted : (s : List ℕ) (k : ℕ) → Whole s → 8192 ≤ k → answer_of s k ≡ accepted (record { 0 = (image_of s).arena }) (counts (image_of s))
whole_accepted s k w l = rw w.bytes at (encoded_accepted (image_of s) k w.well_formed l)

whole_short : (s : List ℕ) (k : ℕ) → Whole s → k < 8192 → answer_of s k ≡ refused WorkTooShort 0
unfolding answer_of read_of
whole_short s k w l = rw (← w.bytes, le-ltb 65535 _ w.well_formed.size, lt-ltb k 8192 l) refl

-- ---- the declared outcome of a run stands for the run's

plain_back : (p : run.Plain ℕ) → plain_of (as_plain p) ≡ p
plain_back run.nothing = refl
plain_back (run.folded (value.int x)) = refl
plain_back (run.folded (value.float x)) = refl
plain_back (run.folded (value.str x)) = refl
plain_back (run.folded (value.bool x)) = refl

value_back : (v : run.Value ℕ) → value_of (as_value v) ≡ v
value_back (run.plain p) = ap run.plain (plain_back p)
value_back (run.ok p) = ap run.ok (plain_back p)
value_back (run.err p) = ap run.err (plain_back p)

outcome_back : (o : run.Outcome ℕ) → outcome_of (as_outcome o) ≡ o
outcome_back (run.returned v) = ap run.returned (value_back v)
outcome_back (run.stopped p) = ap run.stopped (plain_back p)
outcome_back (run.fault k) = refl
outcome_back run.spent = refl

-- ---- the tests of the runner that are left: 11, 19 and 21

abbrev admitted : Bool → Bool → Bool → RunAnswer → RunAnswer
admitted there fits over r =
    cond (not there) (refused NoSuchFunction 0)
    (cond (not fits) (refused WrongValues 0) (cond over (refused BudgetOverLimit 0) r))

abbrev IsRun : RunAnswer → Type 0
IsRun (Ok h) = Unit {0}
IsRun (Err r) = ⊥

no_run : {P : Type 0} (q : Cause) (p : ℕ) (o : Outcome) (n : ℕ) → refused q p ≡ ran o n → P
no_run q p o n e = absurd (subst IsRun (sym e) tt)

-- what they refuse does not depend on the run
same_refusal : (there fits over : Bool) (o o' : Outcome) (n n' : ℕ) (q : Cause) (p : ℕ) → admitted there fits over (ran o n) ≡ refused q p →
    admitted there fits over (ran o' n') ≡ refused q p
same_refusal false fits over o o' n n' q p e = e
same_refusal true false over o o' n n' q p e = e
same_refusal true true true o o' n n' q p e = e
same_refusal true true false o o' n n' q p e = absurd (subst IsRun e tt)

-- what they let pass is run
both_run : (there fits over : Bool) (r r' : RunAnswer) (o : Outcome) (n : ℕ) → admitted there fits over r ≡ ran o n →
    admitted there fits over r' ≡ r'
both_run false fits over r r' o n e = no_run _ _ o n e
both_run true false over r r' o n e = no_run _ _ o n e
both_run true true true r r' o n e = no_run _ _ o n e
both_run true true false r r' o n e = refl

module _ (s s' : List ℕ) (w : Whole s) (w' : Whole s') (to : Keeps (image_of s) (image_of s')) (k f : ℕ) (args : Arguments) (budget : ℕ)
    (texts : all_have (counts_of s) (given args) ≡ true) where
  abbrev im : Image
  im = image_of s

  abbrev im' : Image
  im' = image_of s'

  abbrev there : Bool
  there = nat_lt f (size_of im Functions)

  abbrev fits : Bool
  fits = is_for args.count (function_at im f).params.count

  first_runs : 8192 ≤ k → run_of s k f args budget ≡ admitted there fits (nat_lt 1000000 budget) (ran_in im f (given args) budget)
  unfolding run_of
  first_runs l =
      let h : all_have (counts im) (given args) ≡ true =
      values_have im im (keeps_all im) (counts_of s) (counts im) (section_size s Texts) refl (given args) texts in
      rw (whole_accepted s k w l, h) refl

  second_runs : 8192 ≤ k → run_of s' k f args budget ≡ admitted there fits (nat_lt 1000000 budget) (ran_in im' f (given args) budget)
  unfolding run_of
  second_runs l =
      let h : all_have (counts im') (given args) ≡ true =
      values_have im im' to (counts_of s) (counts im') (section_size s Texts) refl (given args) texts in
      by_ltb f (size_of im Functions)
      (λ d. rw (whole_accepted s' k w' l, h, to.functions, to.params f d) refl)
      (λ d. rw (whole_accepted s' k w' l, to.functions, le-ltb f (size_of im Functions) d) refl)

  -- THEOREM: where the first is refused, so is the second, by the same number, at the same place
  pub refused_alike : (q : Cause) (p : ℕ) → run_of s k f args budget ≡ refused q p → run_of s' k f args budget ≡ refused q p
  unfolding ran_in run_of
  refused_alike q p r =
      by_ltb k 8192
      (λ l. rw (whole_short s' k w' l) (rw (whole_short s k w l) at r))
      (λ l. second_runs l ∙ same_refusal there fits (nat_lt 1000000 budget) _ _ _ _ q p (sym (first_runs l) ∙ r))

  -- what runs is there
  pub ran_there : (o : Outcome) (n : ℕ) → run_of s k f args budget ≡ ran o n → f < size_of im Functions
  unfolding run_of
  ran_there o n r =
      by_ltb f (size_of im Functions) (λ l. l)
      (λ l. by_ltb k 8192 (λ q. no_run WorkTooShort 0 o n (rw (whole_short s k w q) at r))
      (λ q. no_run NoSuchFunction 0 o n (rw (first_runs q, le-ltb f (size_of im Functions) l) at r)))

  abbrev vs : List (run.Value ℕ)
  vs = values_of (given args)

  abbrev ended : run.Outcome ℕ × ℕ
  ended = run.used budget (run_function (text_of im') (plain_function im' f) vs budget)

  -- the second run, with the bytes of its texts
  reads : map_ended (text_of im') ended ≡ run.used budget (run_function (λ t. t) (contract_function im' f) (map (map_value (text_of im)) vs) budget)
  reads =
      let g : Function Text = map_function (text_of im') (plain_function im' f) in
      ap (run.used budget)
      (sym (run_mapped (text_of im') (text_of im') (λ t. t) (λ t. refl) (plain_function im' f) vs budget)
      ∙ ap (λ xs. run_function (λ t. t) g xs budget)
      (values_same im im' to (counts_of s) (counts im') (section_size s Texts) refl (given args) texts)
      ∙ plain_runs im' f (map (map_value (text_of im)) vs) budget)

  -- THEOREM: otherwise the second runs, as the function that it has
  pub runs_alike : (o : Outcome) (n : ℕ) → run_of s k f args budget ≡ ran o n →
      (o' : Outcome) × (n' : ℕ) × (run_of s' k f args budget ≡ ran o' n')
      × ((outcome_in im' o', n') ≡ run.used budget (run_function (λ t. t) (contract_function im' f) (map (map_value (text_of im)) vs) budget))
  unfolding ran_in run_of
  runs_alike o n r =
      by_ltb k 8192 (λ l. no_run WorkTooShort 0 o n (rw (whole_short s k w l) at r))
      (λ l. (
        as_outcome ended.0,
        ended.1,
        second_runs l
            ∙ both_run there fits (nat_lt 1000000 budget) (ran_in im f (given args) budget) (ran_in im' f (given args) budget) o n
            (sym (first_runs l) ∙ r),
        ap (λ x. (map_outcome (text_of im') x, ended.1)) (outcome_back ended.0) ∙ reads,
      ))
