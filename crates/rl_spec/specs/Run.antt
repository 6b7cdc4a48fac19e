-- What a body does, counted in steps: 01's "Runner". A run goes from the bindings and the budget that is left to a result. T is the
-- type of texts, and `bytes` gives a text's bytes.
use Rattle.std.specs.Prelude.{ℕ, zero, suc, ◌-◌, Bool, true, false, cond, List, [], ◌∷◌, length, drop, nat_lt}
use Rattle.std.proofs.Math.Option.{Option, none, some}
use Rattle.rl_spec.specs.Values as value
use Rattle.rl_spec.specs.Values.{ConstVal, same_text}
use Rattle.rl_spec.specs.Tree.{Expr, null, literal, identifier, unary, binary, grouping, assign, ok_literal, err_literal, is_err, result_unwrap, other}
use Rattle.rl_spec.specs.Fold.{unary_value, binary_value}

infixl 1 ◌>>=◌ ◌>>◌
-- ---- values: a folded value, Null, or Ok or Err of one of these

pub data Plain (T : Type 0) : Type 0 where
  nothing : Plain T
  folded : ConstVal T → Plain T

pub data Value (T : Type 0) : Type 0 where
  plain ok err : Plain T → Value T

-- ---- bindings, the latest first. No name finds a hidden one.

pub data Bound (T : Type 0) : Type 0 where
  named : T → Value T → Bound T
  hidden : Value T → Bound T

abbrev pub Env : Type 0 → Type 0
Env T = List (Bound T)

-- ---- runs

pub data Outcome (T : Type 0) : Type 0 where
  returned : Value T → Outcome T
  stopped : Plain T → Outcome T
  fault : ℕ → Outcome T
  spent : Outcome T

-- the run goes on, with a value, the bindings and the budget left; or it is over
pub data Result (T A : Type 0) : Type 0 where
  got : A → Env T → ℕ → Result T A
  ended : Outcome T → ℕ → Result T A

-- how a function's run ends: its outcome, and the budget that is left
abbrev pub Ending : Type 0 → Type 0
Ending T = Outcome T × ℕ

abbrev pub ending : {T : Type 0} → Result T (Value T) → Ending T
ending (got v env left) = (returned v, left)
ending (ended o left) = (o, left)

-- with the steps used
abbrev pub used : {T : Type 0} → ℕ → Ending T → Outcome T × ℕ
used budget e = (e.0, budget - e.1)

abbrev pub Run : Type 0 → Type 0 → Type 0
Run T A = Env T → ℕ → Result T A

abbrev pub and_then : {T A B : Type 0} → Result T A → (A → Run T B) → Result T B
and_then (got a env n) f = f a env n
and_then (ended o n) f = ended o n

abbrev pub ◌>>=◌ : {T A B : Type 0} → Run T A → (A → Run T B) → Run T B
◌>>=◌ m f = λ env n. and_then (m env n) f

abbrev pub ◌>>◌ : {T A B : Type 0} → Run T A → Run T B → Run T B
◌>>◌ m k = λ env n. and_then (m env n) (λ _. k)

abbrev pub give : {T A : Type 0} → A → Run T A
give a env n = got a env n

abbrev pub halt : {T A : Type 0} → Outcome T → Run T A
halt o env n = ended o n

abbrev pub fail : {T A : Type 0} → ℕ → Run T A
fail k = halt (fault k)

abbrev pub or_fault : {T A : Type 0} → ℕ → Option A → Run T A
or_fault k none = fail k
or_fault k (some a) = give a

-- a charge of 1: Spent exactly when it would pass the budget
abbrev pub tick : {T : Type 0} → Run T (Unit {0})
tick env zero = ended spent zero
tick env (suc n) = got tt env n

-- a charge of several is that many of 1
abbrev pub charge : {T : Type 0} → ℕ → Run T (Unit {0})
charge zero = give tt
charge (suc k) = tick >> charge k

-- fault 5: more than 128 bindings
abbrev pub bind : {T : Type 0} → Bound T → Run T (Unit {0})
bind b env n = cond (nat_lt (length env) 128) (got tt (b ∷ env) n) (ended (fault 5) n)

-- what is bound in a scope is dropped on leaving it; what is assigned stays
abbrev pub leaving : {T A : Type 0} → ℕ → Result T A → Result T A
leaving k (got a env n) = got a (drop (length env - k) env) n
leaving k (ended o n) = ended o n

abbrev pub scoped : {T A : Type 0} → Run T A → Run T A
scoped m env n = leaving (length env) (m env n)

-- ---- sorts of values

-- a Bool, or the fault k
abbrev pub truth_of : {T : Type 0} → ℕ → ConstVal T → Run T Bool
truth_of k (value.int x) = fail k
truth_of k (value.float x) = fail k
truth_of k (value.str x) = fail k
truth_of k (value.bool b) = give b

abbrev pub truth_plain : {T : Type 0} → ℕ → Plain T → Run T Bool
truth_plain k nothing = fail k
truth_plain k (folded v) = truth_of k v

abbrev pub truth : {T : Type 0} → ℕ → Value T → Run T Bool
truth k (plain p) = truth_plain k p
truth k (ok p) = fail k
truth k (err p) = fail k

-- Ok or Err of an Ok or Err is fault 2
abbrev pub plain_of : {T : Type 0} → Value T → Run T (Plain T)
plain_of (plain p) = give p
plain_of (ok p) = fail 2
plain_of (err p) = fail 2

-- is_err and result_unwrap of a plain value are fault 2
abbrev pub err_of : {T : Type 0} → Value T → Run T Bool
err_of (plain p) = fail 2
err_of (ok p) = give false
err_of (err p) = give true

-- unwrapping Ok(m) gives m, Err(m) stops the run with m
abbrev pub unwrapped : {T : Type 0} → Value T → Run T (Value T)
unwrapped (plain p) = fail 2
unwrapped (ok p) = give (plain p)
unwrapped (err p) = halt (stopped p)

-- what an operator works on; a value that does not fold has none
abbrev pub operand : {T : Type 0} → Value T → Option (ConstVal T)
operand (plain nothing) = none
operand (plain (folded v)) = some v
operand (ok p) = none
operand (err p) = none

abbrev pub folds : {T : Type 0} → ConstVal T → Value T
folds v = plain (folded v)

module _ {T : Type 0} (bytes : T → List ℕ) where
  -- ---- names by their bytes, latest first

  unfoldable pub find : Env T → T → Option (Value T)
  find [] x = none
  find (named y v ∷ env) x = cond (same_text (bytes y) (bytes x)) (some v) (find env x)
  find (hidden v ∷ env) x = find env x

  -- the bindings with a name's latest one changed
  abbrev pub behind : Bound T → Option (Env T) → Option (Env T)
  behind b none = none
  behind b (some env) = some (b ∷ env)

  unfoldable pub update : Env T → T → Value T → Option (Env T)
  update [] x v = none
  update (named y w ∷ env) x v = cond (same_text (bytes y) (bytes x)) (some (named y v ∷ env)) (behind (named y w) (update env x v))
  update (hidden w ∷ env) x v = behind (hidden w) (update env x v)

  -- fault 3: unknown name
  abbrev pub look : T → Run T (Value T)
  look x env n = or_fault 3 (find env x) env n

  abbrev pub store : T → Value T → Run T (Unit {0})
  store x v env n = and_then (or_fault 3 (update env x v) env n) (λ env' _ n'. got tt env' n')

  -- fault 4: no value
  abbrev pub unary_on : ℕ → Option (ConstVal T) → Run T (Value T)
  unary_on op none = fail 4
  unary_on op (some v) = or_fault 4 (unary_value op v) >>= λ w. give (folds w)

  abbrev pub binary_on : ℕ → Option (ConstVal T) → Option (ConstVal T) → Run T (Value T)
  binary_on op none b = fail 4
  binary_on op (some v) none = fail 4
  binary_on op (some v) (some w) = or_fault 4 (binary_value bytes op v w) >>= λ x. give (folds x)

  -- ---- expressions: each node costs 1, charged on entry, operands left to right

  unfoldable pub eval : Expr T → Run T (Value T)
  eval null = do
    tick
    give (plain nothing)
  eval (literal l) = do
    tick
    v ← or_fault 4 l
    give (folds v)
  eval (identifier x) = do
    tick
    look x
  eval (unary op e) = do
    tick
    v ← eval e
    unary_on op (operand v)
  eval (binary l op r) = do
    tick
    v ← eval l
    w ← eval r
    binary_on op (operand v) (operand w)
  eval (grouping e) = do
    tick
    eval e
  eval (assign x e) = do
    tick
    v ← eval e
    store x v
    give v
  eval (ok_literal e) = do
    tick
    v ← eval e
    p ← plain_of v
    give (ok p)
  eval (err_literal e) = do
    tick
    v ← eval e
    p ← plain_of v
    give (err p)
  eval (is_err e) = do
    tick
    v ← eval e
    b ← err_of v
    give (folds (value.bool b))
  eval (result_unwrap e) = do
    tick
    v ← eval e
    unwrapped v
  -- fault 1: a form that is not taken
  eval other = do
    tick
    fail 1
