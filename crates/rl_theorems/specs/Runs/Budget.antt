-- SPENT EXACTLY WHEN THE NEXT CHARGE WOULD PASS THE BUDGET: where a budget is not spent and u steps are used, every budget from u on gives
-- the same, and every one below u is spent, all of it.
-- Assumes nothing.
use Rattle.std.specs.Prelude.{◌≡◌, ℕ, ◌+◌, ◌-◌, ◌<◌, ◌≤◌, Bool, true, false, List, [], nat_lt, refl}
use Rattle.std.proofs.Common.{ap, subst, arith, ltb-true, ltb-false}
use Rattle.rl_spec.specs.Run.{Value, Env, Outcome, returned, spent, Result, ending, used, Run}
use Rattle.rl_spec.specs.Reading.{Function, run_function, reading}
use Rattle.rl_laws.specs.Steps.{NotSpent, goes, ends, empty, Grown, going, over, dry, Exact, runs, readings}

-- the steps used are at most the budget, and all of it where that is spent
abbrev pub Fair : {T : Type 0} → ℕ → Outcome T × ℕ → Type 0
Fair budget r = (r.1 ≤ budget) × (r.0 ≡ spent → r.1 ≡ budget)

-- ---- the budget n, and k more

module _ {T : Type 0} {n k : ℕ} where
  fair : {x y : Result T (Value T)} → Grown n k x y → Fair n (used n (ending x))
  fair (going p) = (omega arith, λ e. absurd (subst NotSpent e tt))
  fair (over h p) = (omega arith, λ e. absurd (subst NotSpent e h))
  fair (dry b) = (omega arith, λ e. omega arith)

  larger : {x y : Result T (Value T)} → Grown n k x y → NotSpent (ending x).0 → used (n + k) (ending y) ≡ used n (ending x)
  larger (going {a = a} p) h = ap (λ i. (returned a, i)) (omega arith)
  larger (over {o = o} _ p) h = ap (λ i. (o, i)) (omega arith)
  larger (dry b) h = absurd h

  enough : {x y : Result T (Value T)} → Grown n k x y → NotSpent (ending y).0 → (used (n + k) (ending y)).1 ≤ n → used n (ending x) ≡ used (n + k) (ending y)
  enough (going {a = a} p) h l = ap (λ i. (returned a, i)) (omega arith)
  enough (over {o = o} _ p) h l = ap (λ i. (o, i)) (omega arith)
  enough (dry (goes p)) h l = absurd (omega arith)
  enough (dry (ends _ p)) h l = absurd (omega arith)
  enough (dry empty) h l = absurd h

  smaller : {x y : Result T (Value T)} → Grown n k x y → NotSpent (ending y).0 → n < (used (n + k) (ending y)).1 → used n (ending x) ≡ (spent, n)
  smaller (going p) h l = absurd (omega arith)
  smaller (over _ p) h l = absurd (omega arith)
  smaller (dry b) h l = ap (λ i. (spent, i)) (omega arith)

-- ---- any two budgets

module _ {T : Type 0} (m : Run T (Value T)) (exact : Exact m) (env : Env T) where
  abbrev at : ℕ → Outcome T × ℕ
  at n = used n (ending (m env n))

  up_to : (n b : ℕ) → n ≤ b → n + (b - n) ≡ b
  up_to n b h = omega arith

  same_at : (n b : ℕ) → NotSpent (at n).0 → (at n).1 ≤ b → at b ≡ at n
  same_at n b h l = go (nat_lt b n) refl
    where
      go : (t : Bool) → nat_lt b n ≡ t → at b ≡ at n
      go true e =
          subst (λ i. NotSpent (at i).0 → (at i).1 ≤ b → at b ≡ at i) (up_to b n (omega (arith, ltb-true b n e))) (enough (exact env b (n - b))) h l
      go false e = subst (λ i. at i ≡ at n) (up_to n b (ltb-false b n e)) (larger (exact env n (b - n)) h)

  spent_at : (n b : ℕ) → NotSpent (at n).0 → b < (at n).1 → at b ≡ (spent, b)
  spent_at n b h l =
      let p : b ≤ n = omega (arith, (fair (exact env n 0)).0, l) in
      subst (λ i. NotSpent (at i).0 → b < (at i).1 → at b ≡ (spent, b)) (up_to b n p) (smaller (exact env b (n - b))) h l

-- ---- THEOREMS, of the run and of the contract reading

module _ {T : Type 0} (bytes : T → List ℕ) (f : Function T) (vs : List (Value T)) where
  pub run_fair : (budget : ℕ) → Fair budget (used budget (run_function bytes f vs budget))
  unfolding run_function
  run_fair budget = fair (runs bytes f vs [] budget 0)

  pub run_same : (n b : ℕ) → NotSpent (run_function bytes f vs n).0 → (used n (run_function bytes f vs n)).1 ≤ b → used b (run_function bytes f vs b) ≡ used n (run_function bytes f vs n)
  unfolding run_function
  run_same = same_at _ (runs bytes f vs) []

  pub run_spent : (n b : ℕ) → NotSpent (run_function bytes f vs n).0 → b < (used n (run_function bytes f vs n)).1 → used b (run_function bytes f vs b) ≡ (spent, b)
  unfolding run_function
  run_spent = spent_at _ (runs bytes f vs) []

  module _ (ret : T) where
    pub reading_fair : (budget : ℕ) → Fair budget (used budget (reading bytes ret f vs budget))
    unfolding reading
    reading_fair budget = fair (readings bytes ret f vs [] budget 0)

    pub reading_same : (n b : ℕ) → NotSpent (reading bytes ret f vs n).0 → (used n (reading bytes ret f vs n)).1 ≤ b → used b (reading bytes ret f vs b) ≡ used n (reading bytes ret f vs n)
    unfolding reading
    reading_same = same_at _ (readings bytes ret f vs) []

    pub reading_spent : (n b : ℕ) → NotSpent (reading bytes ret f vs n).0 → b < (used n (reading bytes ret f vs n)).1 → used b (reading bytes ret f vs b) ≡ (spent, b)
    unfolding reading
    reading_spent = spent_at _ (readings bytes ret f vs) []
