-- What the runner answers for one run at two budgets.
-- Assumes nothing.
use Rattle.std.specs.Prelude.{◌≡◌, ℕ, ◌<◌, ◌≤◌, List, ◌≢◌, refl}
use Rattle.std.proofs.Common.{sym, ap, ◌∙◌, arith}
use Rattle.rl_spec.specs.declared.Arguments.{Arguments}
use Rattle.rl_spec.specs.declared.Outcome.{Outcome}
use Rattle.rl_spec.specs.declared.Outcome.TheVariants.{Spent}
use Rattle.rl_spec.specs.Answers.{ran}
use Rattle.rl_spec.specs.Image.{text_of, image_of}
use Rattle.rl_spec.specs.Run as run
use Rattle.rl_spec.specs.Reading.{run_function}
use Rattle.rl_spec.specs.Functions.{plain_function}
use Rattle.rl_spec.specs.Runner.{as_outcome, given, values_of, ran_of, ran_in, run_of}
use Rattle.rl_laws.specs.Steps.{NotSpent}
use Rattle.rl_images.specs.Reading.Table.{Unmet, unmet_both, unmet_parts}
use Rattle.rl_images.specs.Reading.Rows.{read_rows}
use Rattle.rl_laws.specs.Tests.{not_below}
use Rattle.rl_theorems.specs.Answers.Tables.{run_rows}
use Rattle.rl_theorems.specs.Answers.OfRunning.{run_accepts}
use Rattle.rl_theorems.specs.Runs.Budget.{run_fair, run_same, run_spent}
use Rattle.rl_laws.specs.AnswerLaws.{same_run}

not_spent : (o : run.Outcome ℕ) → (as_outcome o ≢ Spent) → NotSpent o
not_spent (run.returned v) h = tt
not_spent (run.stopped p) h = tt
not_spent (run.fault k) h = tt
not_spent run.spent h = h refl

module _ (s : List ℕ) (k f : ℕ) (args : Arguments) (n u : ℕ) (o : Outcome) (e : run_of s k f args n ≡ ran o u) (ended : o ≡ Spent → ⊥) where
  -- the run with a budget
  abbrev at : ℕ → run.Outcome ℕ × ℕ
  at b = run.used b (run_function (text_of (image_of s)) (plain_function (image_of s) f) (values_of (given args)) b)

  was : ran_of (at n) ≡ ran o u
  unfolding ran_in
  was = ((run_accepts s k f args n o u).0 e).1

  steps : (at n).1 ≡ u
  steps = (same_run was).1

  unspent : NotSpent (at n).0
  unspent = not_spent (at n).0 (λ d. ended (let x : as_outcome (at n).0 ≡ o = (same_run was).0 in sym x ∙ d))

  parts : Unmet (read_rows s k) × Unmet (run_rows (image_of s) f args n)
  parts = unmet_parts (read_rows s k) (run_rows (image_of s) f args n) ((run_accepts s k f args n o u).0 e).0

  -- with a budget that is not over the limit it is run
  runs : (b : ℕ) → b ≤ 1000000 → (o' : Outcome) (u' : ℕ) → ran_of (at b) ≡ ran o' u' → run_of s k f args b ≡ ran o' u'
  unfolding ran_in
  runs b l o' u' d =
      let r = parts.1 in
      (run_accepts s k f args b o' u').1
      (unmet_both (read_rows s k) (run_rows (image_of s) f args b) parts.0 (r.0, (r.1.0, (r.1.1.0, (λ h. omega (arith, h), tt)))), d)

  -- THEOREMS
  pub runner_same : (b : ℕ) → b ≤ 1000000 → u ≤ b → run_of s k f args b ≡ ran o u
  runner_same b l h =
      runs b l o u
      (ap ran_of (run_same (text_of (image_of s)) (plain_function (image_of s) f) (values_of (given args)) n b unspent (omega (arith, steps))) ∙ was)

  pub runner_spent : (b : ℕ) → b < u → run_of s k f args b ≡ ran Spent b
  runner_spent b h =
      let most : n ≤ 1000000 = not_below 1000000 n parts.1.1.1.1.0 in
      let within : (at n).1 ≤ n = (run_fair (text_of (image_of s)) (plain_function (image_of s) f) (values_of (given args)) n).0 in
      runs b (omega (arith, steps)) Spent b
      (ap ran_of (run_spent (text_of (image_of s)) (plain_function (image_of s) f) (values_of (given args)) n b unspent (omega (arith, steps))))
