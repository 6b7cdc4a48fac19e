-- A guard runs as its check.
-- Assumes nothing.
use Rattle.std.specs.Prelude.{◌≡◌, ℕ, zero, suc, Bool, true, false, List, [], ◌∷◌, length, refl}
use Rattle.std.proofs.Common.{ap, ◌∙◌}
use Rattle.std.proofs.Math.Option.{none}
use Rattle.rl_spec.specs.Values as value
use Rattle.rl_spec.specs.Values.{bang}
use Rattle.rl_spec.specs.Fold.{unary_value}
use Rattle.rl_spec.specs.Tree.{Expr}
use Rattle.rl_spec.specs.Statement.{Stmt, Body, nil, ◌▸◌}
use Rattle.rl_spec.specs.Mapped.{Text}
use Rattle.rl_spec.specs.Run.{nothing, folded, Value, plain, ok, err, Env, returned, stopped, Result, got, ended, Run, and_then, ◌>>=◌, ◌>>◌, give, halt, leaving, scoped, truth, plain_of, unwrapped, operand, unary_on, eval}
use Rattle.rl_spec.specs.Reading.{Check, Mode, plainly, bare, Flow, onward, followed, followed_top, when, unless, violated, check, checks, stmt, body, last_or, top}
use Rattle.rl_theorems.specs.Lowering.LowerTrees.{violation, guard, guards}

-- a text is its bytes
abbrev pub own : Text → Text
own t = t

-- ---- laws of runs

regroup : (x : Result Text (Unit {0})) (k : Run Text (Unit {0})) (l : Run Text Flow) →
    and_then (and_then x (λ _. give onward)) (λ f. followed f (k >> l)) ≡ and_then (and_then x (λ _. k)) (λ _. l)
regroup (got a env n) k l = refl
regroup (ended o n) k l = refl

regroup_top : (x : Result Text (Unit {0})) (k : Run Text (Unit {0})) (l : Run Text (Value Text)) →
    and_then (and_then x (λ _. give onward)) (λ f. followed_top f (k >> l)) ≡ and_then (and_then x (λ _. k)) (λ _. l)
regroup_top (got a env n) k l = refl
regroup_top (ended o n) k l = refl

abbrev ev : Expr Text → Run Text (Value Text)
ev = eval own

abbrev st : Stmt Text → Run Text Flow
st = stmt own plainly

-- ---- the message, past the steps that come before it

stopping : (k : ℕ) (x : Result Text (Value Text)) →
    leaving k (and_then (and_then (and_then (and_then x (λ v. plain_of v >>= λ p. give (err p))) unwrapped) (λ v. give onward)) (λ f. followed f (give onward)))
    ≡ and_then (and_then x (λ v. plain_of v >>= λ p. halt (stopped p))) (λ (u : Unit {0}). give onward)
stopping k (got (plain p) env n) = refl
stopping k (got (ok p) env n) = refl
stopping k (got (err p) env n) = refl
stopping k (ended o n) = refl

handing : (k : ℕ) (x : Result Text (Value Text)) →
    leaving k (and_then (and_then (and_then x (λ v. plain_of v >>= λ p. give (err p))) (λ v. halt (returned v))) (λ f. followed f (give onward)))
    ≡ and_then (and_then x (λ v. plain_of v >>= λ p. halt (returned (err p)))) (λ (u : Unit {0}). give onward)
handing k (got (plain p) env n) = refl
handing k (got (ok p) env n) = refl
handing k (got (err p) env n) = refl
handing k (ended o n) = refl

violated_at : (r : Bool) (m : Expr Text) (k : ℕ) (env : Env Text) (n : ℕ) →
    leaving k ((st (violation r m) >>= λ f. followed f (give onward)) env n) ≡ (violated own r m >> give onward) env n
unfolding stmt eval
violated_at true m k env zero = refl
violated_at true m k env (suc zero) = refl
violated_at true m k env (suc (suc n)) = handing k (ev m env n)
violated_at false m k env zero = refl
violated_at false m k env (suc zero) = refl
violated_at false m k env (suc (suc zero)) = refl
violated_at false m k env (suc (suc (suc n))) = stopping k (ev m env n)

-- the condition, past the steps that come before it
tested : (r : Bool) (m : Expr Text) (x : Result Text (Value Text)) →
    and_then (and_then (and_then x (λ v. unary_on own 5 (operand v))) (truth 2))
    (λ t. when t (scoped (body own plainly (violation r m ▸ nil))) (give onward))
    ≡ and_then (and_then x (λ v. truth 4 v >>= λ b. unless b (violated own r m))) (λ (u : Unit {0}). give onward)
unfolding stmt unary_value bang
tested r m (got (plain nothing) env n) = refl
tested r m (got (plain (folded (value.int z))) env n) = refl
tested r m (got (plain (folded (value.float z))) env n) = refl
tested r m (got (plain (folded (value.str z))) env n) = refl
tested r m (got (plain (folded (value.bool true))) env n) = refl
tested r m (got (plain (folded (value.bool false))) env n) = violated_at r m (length env) env n
tested r m (got (ok p) env n) = refl
tested r m (got (err p) env n) = refl
tested r m (ended o n) = refl

guard_at : (r : Bool) (c : Check Text) (env : Env Text) (n : ℕ) →
    st (guard r c) env n ≡ (check own r c >> give onward) env n
unfolding stmt eval
guard_at r c env zero = refl
guard_at r c env (suc zero) = refl
guard_at r c env (suc (suc n)) = tested r c.message (ev c.condition env n)

-- THE GUARD: as runs
pub guard_is : (r : Bool) (c : Check Text) → st (guard r c) ≡ (check own r c >> give onward)
guard_is r c = λ i env n. guard_at r c env n i

-- ---- guards in a body, and at the top

pub guards_body : (r : Bool) (cs : List (Check Text)) (b : Body Text) →
    body own plainly (guards r cs b) ≡ (checks own r cs >> body own plainly b)
unfolding stmt checks guards
guards_body r [] b = refl
guards_body r (c ∷ cs) b =
    (λ i env n. and_then (guard_is r c i env n) (λ f. followed f (guards_body r cs b i)))
    ∙ (λ i env n. regroup (check own r c env n) (checks own r cs) (body own plainly b) i)

-- a statement that is no bare expression, at the top
pub top_cons : (m : Mode Text) (s : Stmt Text) (b : Body Text) → bare s ≡ none →
    top own m (s ▸ b) ≡ (stmt own m s >>= λ f. followed_top f (top own m b))
unfolding top
top_cons m s nil e = ap (λ o. last_or own o (stmt own m s)) e
top_cons m s (t ▸ b) e = refl

pub guards_top : (r : Bool) (cs : List (Check Text)) (b : Body Text) →
    top own plainly (guards r cs b) ≡ (checks own r cs >> top own plainly b)
unfolding checks guards
guards_top r [] b = refl
guards_top r (c ∷ cs) b =
    top_cons plainly (guard r c) (guards r cs b) refl
    ∙ (λ i env n. and_then (guard_is r c i env n) (λ f. followed_top f (guards_top r cs b i)))
    ∙ (λ i env n. regroup_top (check own r c env n) (checks own r cs) (top own plainly b) i)
