-- A wrapped return runs as a checked return.
-- Assumes nothing.
use Rattle.std.specs.Prelude.{◌≡◌, ℕ, zero, suc, Bool, true, false, cond, List, ◌∷◌, length, nat_lt}
use Rattle.std.proofs.Math.Path.{refl}
use Rattle.std.proofs.Common.{◌∙◌}
use Rattle.rl_spec.specs.Tree.{Expr, null, identifier, result_unwrap, ascii}
use Rattle.rl_spec.specs.Statement.{declaration, return, return_alone, Body, nil, ◌▸◌}
use Rattle.rl_spec.specs.Mapped.{Text}
use Rattle.rl_spec.specs.Run.{Plain, Value, plain, ok, err, named, hidden, Env, returned, fault, Result, got, ended, Run, and_then, ◌>>=◌, ◌>>◌, give, halt, charge, bind, find, eval}
use Rattle.rl_spec.specs.Reading.{Check, plainly, checked, Flow, onward, followed, subject, checks, checked_return, stmt, body}
use Rattle.rl_theorems.specs.Lowering.LowerTrees.{reserved, ret_name, guards, skip_err, inner, wrap_as}
use Rattle.rl_theorems.specs.Lowering.LowerGuard.{own, guards_body}
use Rattle.rl_theorems.specs.Lowering.LowerFrame.{begins, Free, CleanChecks, Both, end, both_then, both_end, Never, same_refl, apart', Hid, here, past, find_own, blind_checks}

pub ret_free : Free ret_name
unfolding begins ascii
ret_free = refl

module _ (cs : List (Check Text)) (clean : CleanChecks cs) (t : Text) (isReserved : begins reserved t ≡ true) where
  abbrev ev : Expr Text → Run Text (Value Text)
  ev = eval own

  abbrev run : Body Text → Run Text Flow
  run = body own plainly

  -- the last statement finds the value under its name
  last : (v : Value Text) (env env' : Env Text) (n : ℕ) → Hid t v isReserved env env' →
      Both Never (run (return (identifier t) ▸ nil) env n) ((charge 2 >> halt (returned v)) env' n)
  unfolding stmt eval
  last v env env' zero h = end
  last v env env' (suc zero) h = end
  last v env env' (suc (suc n)) h = rw (find_own t v isReserved h) end

  -- the guards and the last statement
  abbrev tail : Bool → Body Text
  tail r = guards r cs (return (identifier t) ▸ nil)

  -- the checks and what follows them
  abbrev tail' : Bool → Value Text → Run Text Flow
  tail' r v = checks own r cs >> (charge 2 >> halt (returned v))

  -- from the binding of `ret` on
  ensured : (r : Bool) (v : Value Text) (env env' : Env Text) (n : ℕ) → Hid t v isReserved env env' → run (tail r) env n ≡ tail' r v env' n
  ensured r v env env' n h =
      (λ i. guards_body r cs (return (identifier t) ▸ nil) i env n)
      ∙ both_end (both_then (blind_checks t v isReserved r cs clean env env' n h) (λ _ e e' m k. last v e e' m k))

  -- `ret` is bound, or there is no room
  bound : (b : Bool) (r : Bool) (v w : Value Text) (env : Env Text) (n : ℕ) →
      and_then (and_then (cond b (got (tt {0}) (named ret_name w ∷ named t v ∷ env) n) (ended (fault 5) n)) (λ _. give onward)) (λ f. followed f (run (tail r)))
      ≡ and_then (cond b (got (tt {0}) (named ret_name w ∷ hidden v ∷ env) n) (ended (fault 5) n)) (λ _. tail' r v)
  bound false r v w env n = refl
  bound true r v w env n = ensured r v _ _ n (past (apart' t ret_name isReserved ret_free) here)

  -- an Ok is unwrapped
  unwrapping : (p : Plain Text) (env : Env Text) (n : ℕ) →
      run (declaration ret_name (result_unwrap (identifier t)) ▸ tail true) (named t (ok p) ∷ env) n
      ≡ ((charge 3 >> give (plain p)) >>= λ w. bind (named ret_name w) >> tail' true (ok p)) (hidden (ok p) ∷ env) n
  unfolding stmt eval find
  unwrapping p env zero = refl
  unwrapping p env (suc zero) = refl
  unwrapping p env (suc (suc zero)) = refl
  unwrapping p env (suc (suc (suc n))) = rw (same_refl t) (bound (nat_lt (suc (length env)) 128) true (ok p) (plain p) env n)

  -- from the value's own binding on
  kept : (r : Bool) (v : Value Text) (env : Env Text) (n : ℕ) →
      run (skip_err r t (declaration ret_name (inner r t) ▸ tail r)) (named t v ∷ env) n
      ≡ (subject r v >>= λ w. bind (named ret_name w) >> tail' r v) (hidden v ∷ env) n
  unfolding stmt eval find
  kept false v env zero = refl
  kept false v env (suc zero) = refl
  kept false v env (suc (suc n)) = rw (same_refl t) (bound (nat_lt (suc (length env)) 128) false v v env n)
  kept true v env zero = refl
  kept true v env (suc zero) = refl
  kept true v env (suc (suc zero)) = refl
  kept true (plain p) env (suc (suc (suc n))) = rw (same_refl t)
  kept true (ok p) env (suc (suc (suc n))) = rw (same_refl t) (unwrapping p env n)
  kept true (err p) env (suc (suc (suc zero))) = rw (same_refl t)
  kept true (err p) env (suc (suc (suc (suc zero)))) = rw (same_refl t)
  kept true (err p) env (suc (suc (suc (suc (suc n))))) = rw (same_refl t) (rw (same_refl t))

  -- the value has its binding, or there is no room
  room : (b : Bool) (r : Bool) (v : Value Text) (env : Env Text) (n : ℕ) →
      and_then (and_then (cond b (got (tt {0}) (named t v ∷ env) n) (ended (fault 5) n)) (λ _. give onward))
      (λ f. followed f (run (skip_err r t (declaration ret_name (inner r t) ▸ tail r))))
      ≡ and_then (cond b (got (tt {0}) (hidden v ∷ env) n) (ended (fault 5) n)) (λ _. subject r v >>= λ w. bind (named ret_name w) >> tail' r v)
  room false r v env n = refl
  room true r v env n = kept r v env n

  valued : (r : Bool) (x : Result Text (Value Text)) →
      and_then (and_then x (λ v. bind (named t v) >> give onward)) (λ f. followed f (run (skip_err r t (declaration ret_name (inner r t) ▸ tail r))))
      ≡ and_then x (checked_return own ret_name r cs)
  valued r (got v env n) = room (nat_lt (length env) 128) r v env n
  valued r (ended o n) = refl

  wrap_at : (r : Bool) (e : Expr Text) (env : Env Text) (n : ℕ) → run (wrap_as r cs t e) env n ≡ stmt own (checked ret_name r cs) (return e) env n
  unfolding stmt
  wrap_at r e env zero = refl
  wrap_at r e env (suc n) = valued r (ev e env n)

  -- THE WRAP: as runs
  pub wrap_is : (r : Bool) (e : Expr Text) → run (wrap_as r cs t e) ≡ stmt own (checked ret_name r cs) (return e)
  wrap_is r e = λ i env n. wrap_at r e env n i

  pub wrap_null : (r : Bool) → run (wrap_as r cs t null) ≡ stmt own (checked ret_name r cs) return_alone
  unfolding stmt eval
  wrap_null r = wrap_is r null ∙ (λ i env n. null_at n env i)
    where
      null_at : (n : ℕ) (env : Env Text) → stmt own (checked ret_name r cs) (return null) env n ≡ stmt own (checked ret_name r cs) return_alone env n
      null_at zero env = refl
      null_at (suc zero) env = refl
      null_at (suc (suc n)) env = refl
