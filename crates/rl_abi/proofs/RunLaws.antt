-- The ways out of `rl_run`. Assumes nothing.
use Prim.Native.Nat.{ℕ, ◌≤◌}
use mathlib.Core.Path.{◌≡◌, refl, ap, ◌∙◌, sym, subst}
use mathlib.Core.Bool.{Bool, true, false, not, cond}
use mathlib.Core.List.{List, [], ◌∷◌}
use native.Mathlib.Omega.{arith}
use lib.Dec.{ltb}
use Rattle.rl_spec.specs.Answers.{Answer, refused, RunAnswer}
use Rattle.std.specs.Prelude.{Ok, Err}
use Rattle.rl_spec.specs.declared.Arguments.{Arguments}
use Rattle.rl_spec.specs.declared.Refusal.{Refusal}
use Rattle.rl_spec.specs.declared.Run.{Run}
use Rattle.rl_spec.specs.declared.Cause.TheVariants.{NoSuchFunction, WrongValues, NoSuchText, BudgetOverLimit}
use Rattle.rl_spec.specs.Read.{number_of, answer_of}
use Rattle.rl_spec.specs.Image.{image_of}
use Rattle.rl_spec.specs.Fold.{work_unless}
use Rattle.rl_spec.specs.Records.{function_at}
use Rattle.rl_spec.specs.Runner.{is_for, all_have, given, ran_in, run_by, run_of, run_number}
use Rattle.rl_spec.specs.Boundary.{above, arguments_of, outcome_words, run_packed, run_words}
use Rattle.rl_images.specs.Reading.Places.{place_small}
use Rattle.rl_boundary.specs.Packing.{place_of}

-- ---- the place of a refusal

run_place : (s : List ℕ) (k f : ℕ) (args : Arguments) (budget : ℕ) → place_of (run_of s k f args budget) ≤ 65535
unfolding run_of ran_in
run_place s k f args budget = go (answer_of s k) refl
  where
    chosen : (w x y z : Bool) (r : RunAnswer) → place_of r ≤ 65535
        → place_of (cond w (refused NoSuchFunction 0) (cond x (refused WrongValues 0) (cond y (refused NoSuchText 0) (cond z (refused BudgetOverLimit 0) r)))) ≤ 65535
    chosen true x y z r e = omega arith
    chosen false true y z r e = omega arith
    chosen false false true z r e = omega arith
    chosen false false false true r e = omega arith
    chosen false false false false r e = e

    go : (a : Answer) → answer_of s k ≡ a → place_of (run_by s f args budget a) ≤ 65535
    go (Err r) e = place_small s k r.cause r.place e
    go (Ok h) e = chosen (not (ltb f h.counts.functions)) (not (is_for args.count (function_at (image_of s) f).params.count)) (not (all_have h.counts (given args))) (ltb 1000000 budget) (ran_in (image_of s) f (given args) budget) (omega arith)

-- ---- the ways out

module _ (s : List ℕ) (k f : ℕ) (words : List ℕ) (budget : ℕ) (args : Arguments) (d : args ≡ arguments_of words) (a : RunAnswer) (e : a ≡ run_of s k f args budget) where
  abbrev whole : a ≡ run_of s k f (arguments_of words) budget
  whole = e ∙ ap (λ x. run_of s k f x budget) d

  pub run_work : (w : List ℕ) → w ≡ work_unless (run_number (run_of s k f args budget)) s k → w ≡ work_unless (run_number (run_of s k f (arguments_of words) budget)) s k
  run_work w y = y ∙ ap (λ x. work_unless (run_number (run_of s k f x budget)) s k) d

  module _ (q : Refusal) (y : a ≡ Err q) where
    pub run_refused_place : q.place ≤ 65535
    run_refused_place = subst (λ (x : RunAnswer). place_of x ≤ 65535) (sym e ∙ y) (run_place s k f args budget)

    pub run_refused : (r : ℕ) → r ≡ above (number_of q.cause) q.place → r ≡ run_packed (run_of s k f (arguments_of words) budget)
    run_refused r z = rw (← whole, y) z

    pub run_refused_outcome : (l : List ℕ) → l ≡ 0 ∷ 0 ∷ 0 ∷ 0 ∷ [] → l ≡ run_words (run_of s k f (arguments_of words) budget)
    run_refused_outcome l z = rw (← whole, y) z

  module _ (h : Run) (y : a ≡ Ok h) where
    pub run_ran : 0 ≡ run_packed (run_of s k f (arguments_of words) budget)
    run_ran = rw (← whole, y) refl

    pub run_ran_outcome : (l : List ℕ) → l ≡ outcome_words h.outcome h.steps → l ≡ run_words (run_of s k f (arguments_of words) budget)
    run_ran_outcome l z = rw (← whole, y) z

pub ruleset running = (run_work, run_refused_place, run_refused, run_refused_outcome, run_ran, run_ran_outcome)
