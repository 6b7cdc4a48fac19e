-- A check whose condition folds to false is not passed, nor is a list of checks with such a one: those ahead of it hold no assignment,
-- so they keep the bindings.
use Rattle.std.specs.Prelude.{◌≡◌, ℕ, zero, suc, Bool, true, false, List, [], ◌∷◌, ◌≢◌}
use Rattle.std.proofs.Common.{subst}
use Rattle.std.proofs.Math.Option.{Option, none, some}
use Rattle.rl_spec.specs.Values as value
use Rattle.rl_spec.specs.Values.{ConstVal}
use Rattle.rl_spec.specs.Fold.{Binding, unary_value, binary_value, const_eval}
use Rattle.rl_spec.specs.Tree.{Expr, null, literal, identifier, unary, binary, grouping, assign, ok_literal, err_literal, is_err, result_unwrap, other}
use Rattle.rl_spec.specs.Run.{nothing, folded, Value, plain, ok, err, Env, Outcome, stopped, returned, Result, got, ended, Run, and_then, ◌>>=◌, give, halt, or_fault, tick, charge, truth, plain_of, err_of, unwrapped, operand, find, look, unary_on, binary_on, eval}
use Rattle.rl_spec.specs.Reading.{Check, unless, violated, check, checks}
use Rattle.rl_theorems.specs.Trees.NamesIn.{NamesIn}
use Rattle.rl_theorems.specs.DemandThree.Folds.{Gives, given, dry, Agrees, folds_run}

-- ---- runs that are over, and runs that keep the bindings

pub data Over {T A : Type 0} : Result T A → Type 0 where
  over : {o : Outcome T} {m : ℕ} → Over (ended o m)

abbrev GoesOn : {T A : Type 0} → Result T A → Type 0
GoesOn (got a env n) = Unit {0}
GoesOn (ended o n) = ⊥

over_stops : {T A : Type 0} {x : Result T A} → Over x → GoesOn x → ⊥
over_stops over h = h

-- what is over does not go on
pub never_got : {T A : Type 0} {x : Result T A} {a : A} {env : Env T} {m : ℕ} → Over x → x ≢ got a env m
never_got h e = over_stops (subst Over e h) tt

over_then : {T A B : Type 0} {x : Result T A} (f : A → Run T B) → Over x → Over (and_then x f)
over_then f over = over

then_over : {T A B : Type 0} (x : Result T A) (f : A → Run T B) → ((a : A) (env : Env T) (n : ℕ) → Over (f a env n)) → Over (and_then x f)
then_over (got a env n) f h = h a env n
then_over (ended o n) f h = over

pub data Keeps {T A : Type 0} (env : Env T) : Result T A → Type 0 where
  kept : {a : A} {m : ℕ} → Keeps env (got a env m)
  ends : {o : Outcome T} {m : ℕ} → Keeps env (ended o m)

abbrev pub Still : {T A : Type 0} → Run T A → Type 0
Still {T = T} m = (env : Env T) (n : ℕ) → Keeps env (m env n)

keeps_then : {T A B : Type 0} {env : Env T} {x : Result T A} {f : A → Run T B} → Keeps env x → ((a : A) → Still (f a)) → Keeps env (and_then x f)
keeps_then kept h = h _ _ _
keeps_then ends h = ends

then : {T A B : Type 0} {m : Run T A} {f : A → Run T B} → Still m → ((a : A) → Still (f a)) → Still (m >>= f)
then h k env n = keeps_then (h env n) k

gives : {T A : Type 0} (a : A) → Still {T = T} (give a)
gives a env n = kept

halts : {T A : Type 0} (o : Outcome T) → Still {A = A} (halt o)
halts o env n = ends

ticks : {T : Type 0} → Still {T = T} tick
ticks env zero = ends
ticks env (suc n) = kept

charges : {T : Type 0} (k : ℕ) → Still {T = T} (charge k)
charges zero = gives tt
charges (suc k) = then ticks (λ _. charges k)

or_faults : {T A : Type 0} (k : ℕ) (o : Option A) → Still {T = T} (or_fault k o)
or_faults k none = halts _
or_faults k (some a) = gives a

truths : {T : Type 0} (k : ℕ) (w : Value T) → Still (truth k w)
truths k (plain nothing) = halts _
truths k (plain (folded (value.int x))) = halts _
truths k (plain (folded (value.float x))) = halts _
truths k (plain (folded (value.str x))) = halts _
truths k (plain (folded (value.bool b))) = gives b
truths k (ok p) = halts _
truths k (err p) = halts _

plain_ofs : {T : Type 0} (w : Value T) → Still (plain_of w)
plain_ofs (plain p) = gives p
plain_ofs (ok p) = halts _
plain_ofs (err p) = halts _

err_ofs : {T : Type 0} (w : Value T) → Still (err_of w)
err_ofs (plain p) = halts _
err_ofs (ok p) = gives false
err_ofs (err p) = gives true

unwrappeds : {T : Type 0} (w : Value T) → Still (unwrapped w)
unwrappeds (plain p) = halts _
unwrappeds (ok p) = gives (plain p)
unwrappeds (err p) = halts _

-- ---- expressions

-- no assignment at any depth
abbrev pub NoAssign : {T : Type 0} → Expr T → Type 0
NoAssign e = NamesIn (λ x. Unit {0}) (λ x. ⊥) e

module _ {T : Type 0} (bytes : T → List ℕ) where
  looks : (x : T) → Still (look bytes x)
  looks x env n = or_faults 3 (find bytes env x) env n

  unary_ons : (op : ℕ) (v : Option (ConstVal T)) → Still (unary_on bytes op v)
  unary_ons op none = halts _
  unary_ons op (some v) = then (or_faults 4 (unary_value op v)) (λ w. gives _)

  binary_ons : (op : ℕ) (v w : Option (ConstVal T)) → Still (binary_on bytes op v w)
  binary_ons op none w = halts _
  binary_ons op (some v) none = halts _
  binary_ons op (some v) (some w) = then (or_faults 4 (binary_value bytes op v w)) (λ x. gives _)

  -- WITHOUT ASSIGNMENT THE BINDINGS STAY
  pub evals_still : (e : Expr T) → NoAssign e → Still (eval bytes e)
  unfolding eval
  evals_still null h = then ticks (λ _. gives _)
  evals_still (literal l) h = then ticks (λ _. then (or_faults 4 l) (λ v. gives _))
  evals_still (identifier x) h = then ticks (λ _. looks x)
  evals_still (unary op e) h = then ticks (λ _. then (evals_still e h) (λ v. unary_ons op (operand v)))
  evals_still (binary l op r) h = then ticks (λ _. then (evals_still l h.0) (λ v. then (evals_still r h.1) (λ w. binary_ons op (operand v) (operand w))))
  evals_still (grouping e) h = then ticks (λ _. evals_still e h)
  evals_still (assign x e) h = absurd h.0
  evals_still (ok_literal e) h = then ticks (λ _. then (evals_still e h) (λ v. then (plain_ofs v) (λ p. gives _)))
  evals_still (err_literal e) h = then ticks (λ _. then (evals_still e h) (λ v. then (plain_ofs v) (λ p. gives _)))
  evals_still (is_err e) h = then ticks (λ _. then (evals_still e h) (λ v. then (err_ofs v) (λ b. gives _)))
  evals_still (result_unwrap e) h = then ticks (λ _. then (evals_still e h) unwrappeds)
  evals_still other h = then ticks (λ _. halts _)

  -- ---- lists of checks

  -- one folds to false under these names, and those ahead of it hold no assignment
  pub data Fails (names : List (Binding T)) : List (Check T) → Type 0 where
    here : {c : Check T} {cs : List (Check T)} → const_eval bytes names c.condition ≡ some (value.bool false) → Fails names (c ∷ cs)
    there : {c : Check T} {cs : List (Check T)} → NoAssign c.condition → Fails names cs → Fails names (c ∷ cs)

module _ {T : Type 0} (bytes : T → List ℕ) where
  -- what is violated is over, whatever the message does
  pub violated_over : (r : Bool) (m : Expr T) (env : Env T) (n : ℕ) → Over (violated bytes r m env n)
  violated_over false m env n =
      then_over (charge 3 env n) (λ _. eval bytes m >>= λ v. plain_of v >>= λ p. halt (stopped p))
      (λ _ e k. then_over (eval bytes m e k) (λ v. plain_of v >>= λ p. halt (stopped p))
      (λ v e k. then_over (plain_of v e k) (λ p. halt (stopped p)) (λ p e k. over)))
  violated_over true m env n =
      then_over (charge 2 env n) (λ _. eval bytes m >>= λ v. plain_of v >>= λ p. halt (returned (err p)))
      (λ _ e k. then_over (eval bytes m e k) (λ v. plain_of v >>= λ p. halt (returned (err p)))
      (λ v e k. then_over (plain_of v e k) (λ p. halt (returned (err p))) (λ p e k. over)))

  over_keeps : {A : Type 0} {env : Env T} {x : Result T A} → Over x → Keeps env x
  over_keeps over = ends

  unlesses : (r b : Bool) (m : Expr T) → Still (unless b (violated bytes r m))
  unlesses r true m env n = kept
  unlesses r false m env n = over_keeps (violated_over r m env n)

  -- a check without assignment in its condition keeps the bindings
  pub check_still : (r : Bool) (c : Check T) → NoAssign c.condition → Still (check bytes r c)
  check_still r c h = then (charges 2) (λ _. then (evals_still bytes c.condition h) (λ w. then (truths 4 w) (λ b. unlesses r b c.message)))

  judged : {env : Env T} {n : ℕ} {x : Result T (Value T)} (r : Bool) (m : Expr T) → Gives env (value.bool false) n x →
      Over (and_then x (λ v. truth 4 v >>= λ b. unless b (violated bytes r m)))
  judged {env = env} r m (given {m = k} p) = violated_over r m env k
  judged r m dry = over

  charged : {A : Type 0} {env : Env T} {x : Result T (Unit {0})} (f : Run T A) → Keeps env x → ((n : ℕ) → Over (f env n)) → Over (and_then x (λ _. f))
  charged f kept h = h _
  charged f ends h = over

  -- A CHECK THAT FOLDS TO FALSE IS NOT PASSED
  pub check_over : (r : Bool) (c : Check T) (names : List (Binding T)) (env : Env T) → Agrees bytes names env → const_eval bytes names c.condition ≡ some (value.bool false) →
      (n : ℕ) → Over (check bytes r c env n)
  check_over r c names env h e n =
      charged (eval bytes c.condition >>= λ v. truth 4 v >>= λ b. unless b (violated bytes r c.message)) (charges 2 env n)
      (λ m. judged r c.message (folds_run bytes names env h c.condition (value.bool false) e m))

  pub check_never : (r : Bool) (c : Check T) (names : List (Binding T)) (env : Env T) → Agrees bytes names env → const_eval bytes names c.condition ≡ some (value.bool false) →
      (n : ℕ) (env' : Env T) (n' : ℕ) → check bytes r c env n ≢ got tt env' n'
  check_never r c names env h e n env' n' p = never_got (check_over r c names env h e n) p

  -- NOR IS A LIST OF CHECKS WITH SUCH A ONE
  pub checks_over : (r : Bool) (cs : List (Check T)) (names : List (Binding T)) (env : Env T) → Agrees bytes names env → Fails bytes names cs →
      (n : ℕ) → Over (checks bytes r cs env n)
  unfolding checks
  checks_over r [] names env h f n = elim f [ ]
  checks_over r (c ∷ cs) names env h (here e) n = over_then (λ _. checks bytes r cs) (check_over r c names env h e n)
  checks_over r (c ∷ cs) names env h (there s f) n = charged (checks bytes r cs) (check_still r c s env n) (checks_over r cs names env h f)

  pub checks_never : (r : Bool) (cs : List (Check T)) (names : List (Binding T)) (env : Env T) → Agrees bytes names env → Fails bytes names cs →
      (n : ℕ) (env' : Env T) (n' : ℕ) → checks bytes r cs env n ≢ got tt env' n'
  checks_never r cs names env h f n env' n' p = never_got (checks_over r cs names env h f n) p
