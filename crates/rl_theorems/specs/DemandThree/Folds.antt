-- What folds is what a run gives: where the bindings give every name that folding knows its value, an expression that folds evaluates
-- to what it folds to and changes no binding, or the budget ends.
use Rattle.std.specs.Prelude.{◌≡◌, ℕ, zero, suc, ◌≤◌, List, ◌≢◌, refl}
use Rattle.std.proofs.Math.Path.{subst⁻¹}
use Rattle.std.proofs.Math.Option.{Option, none, some}
use Rattle.std.proofs.Common.{arith, le_refl, le_trans}
use Rattle.rl_spec.specs.Values.{ConstVal}
use Rattle.rl_spec.specs.Fold.{Binding, unary_value, unary_folded, binary_value, binary_folded, lookup, const_eval}
use Rattle.rl_spec.specs.Tree.{Expr, null, literal, identifier, unary, binary, grouping, assign, ok_literal, err_literal, is_err, result_unwrap, other}
use Rattle.rl_spec.specs.Run.{Value, Env, spent, Result, got, ended, Run, and_then, ◌>>=◌, ◌>>◌, give, or_fault, tick, operand, folds, find, unary_on, binary_on, eval}

-- the value v, the bindings as they were and at most n left; or the budget is spent
pub data Gives {T : Type 0} (env : Env T) (v : ConstVal T) (n : ℕ) : Result T (Value T) → Type 0 where
  given : {m : ℕ} → m ≤ n → Gives env v n (got (folds v) env m)
  dry : Gives env v n (ended spent zero)

abbrev Is : {A : Type 0} → Option A → Type 0
Is none = ⊥
Is (some a) = Unit {0}

pub none≢some : {A : Type 0} {a : A} → none ≢ some a
none≢some h = subst⁻¹ Is h tt

wider : {T : Type 0} {env : Env T} {v : ConstVal T} {m n : ℕ} {x : Result T (Value T)} → m ≤ n → Gives env v m x → Gives env v n x
wider h (given p) = given (le_trans p h)
wider h dry = dry

-- after a step
ticked : {T : Type 0} {env : Env T} {v : ConstVal T} (k : Run T (Value T)) → ((n : ℕ) → Gives env v n (k env n)) → (n : ℕ) → Gives env v n ((tick >> k) env n)
ticked k h zero = dry
ticked k h (suc n) = let p : n ≤ suc n = omega arith in wider p (h n)

-- a value that is there
yields : {T : Type 0} {env : Env T} {v : ConstVal T} {m n : ℕ} (k : ℕ) (o : Option (ConstVal T)) → o ≡ some v → m ≤ n → Gives env v n ((or_fault k o >>= λ w. give (folds w)) env m)
yields {env = env} {v = v} {m = m} {n = n} k o e p = subst⁻¹ (λ i. Gives env v n ((or_fault k i >>= λ w. give (folds w)) env m)) e (given p)

module _ {T : Type 0} (bytes : T → List ℕ) where
  -- the bindings give every name that folding knows its value
  abbrev pub Agrees : List (Binding T) → Env T → Type 0
  Agrees names env = (x : T) (w : ConstVal T) → lookup bytes names x ≡ some w → find bytes env x ≡ some (folds w)

  unary_on_lem : {env : Env T} {u v : ConstVal T} {n : ℕ} {x : Result T (Value T)} (op : ℕ) → Gives env u n x → unary_value op u ≡ some v → Gives env v n (and_then x (λ w. unary_on bytes op (operand w)))
  unary_on_lem {u = u} op (given p) e = yields 4 (unary_value op u) e p
  unary_on_lem op dry e = dry

  unaries : {env : Env T} {v : ConstVal T} {n : ℕ} {x : Result T (Value T)} (op : ℕ) (o : Option (ConstVal T)) → ((u : ConstVal T) → o ≡ some u → Gives env u n x) →
      unary_folded op o ≡ some v → Gives env v n (and_then x (λ w. unary_on bytes op (operand w)))
  unfolding unary_folded
  unaries op none h e = absurd (none≢some e)
  unaries op (some u) h e = unary_on_lem op (h u refl) e

  binary_second : {env : Env T} {b v : ConstVal T} {n : ℕ} {y : Result T (Value T)} (op : ℕ) (a : ConstVal T) → Gives env b n y → binary_value bytes op a b ≡ some v →
      Gives env v n (and_then y (λ w. binary_on bytes op (some a) (operand w)))
  binary_second {b = b} op a (given p) e = yields 4 (binary_value bytes op a b) e p
  binary_second op a dry e = dry

  binary_on_lem : {env : Env T} {a b v : ConstVal T} {n : ℕ} {x : Result T (Value T)} (op : ℕ) (k : Run T (Value T)) → Gives env a n x → ((m : ℕ) → Gives env b m (k env m)) →
      binary_value bytes op a b ≡ some v → Gives env v n (and_then x (λ u. k >>= λ w. binary_on bytes op (operand u) (operand w)))
  binary_on_lem {a = a} op k (given {m = m} p) h e = wider p (binary_second op a (h m) e)
  binary_on_lem op k dry h e = dry

  binaries : {env : Env T} {v : ConstVal T} {n : ℕ} {x : Result T (Value T)} (op : ℕ) (k : Run T (Value T)) (o q : Option (ConstVal T)) →
      ((u : ConstVal T) → o ≡ some u → Gives env u n x) → ((w : ConstVal T) → q ≡ some w → (m : ℕ) → Gives env w m (k env m)) →
      binary_folded bytes op o q ≡ some v → Gives env v n (and_then x (λ u. k >>= λ w. binary_on bytes op (operand u) (operand w)))
  unfolding binary_folded
  binaries op k none q h g e = absurd (none≢some e)
  binaries op k (some a) none h g e = absurd (none≢some e)
  binaries op k (some a) (some b) h g e = binary_on_lem op k (h a refl) (g b refl) e

  found : {env : Env T} {v : ConstVal T} {n : ℕ} (o : Option (Value T)) → o ≡ some (folds v) → Gives env v n (or_fault 3 o env n)
  found {env = env} {v = v} {n = n} o e = subst⁻¹ (λ i. Gives env v n (or_fault 3 i env n)) e (given (le_refl n))

  -- WHAT FOLDS IS WHAT A RUN GIVES; what folds holds no assignment
  pub folds_run : (names : List (Binding T)) (env : Env T) → Agrees names env → (e : Expr T) (v : ConstVal T) → const_eval bytes names e ≡ some v →
      (n : ℕ) → Gives env v n (eval bytes e env n)
  unfolding eval const_eval
  folds_run names env h null v e n = absurd (none≢some e)
  folds_run names env h (literal l) v e n = ticked (or_fault 4 l >>= λ w. give (folds w)) (λ m. yields 4 l e (le_refl m)) n
  folds_run names env h (identifier x) v e n = ticked (λ s m. or_fault 3 (find bytes s x) s m) (λ m. found (find bytes env x) (h x v e)) n
  folds_run names env h (unary op a) v e n =
      ticked (eval bytes a >>= λ w. unary_on bytes op (operand w)) (λ m. unaries op (const_eval bytes names a) (λ u q. folds_run names env h a u q m) e) n
  folds_run names env h (binary l op r) v e n =
      ticked (eval bytes l >>= λ u. eval bytes r >>= λ w. binary_on bytes op (operand u) (operand w))
      (λ m. binaries op (eval bytes r) (const_eval bytes names l) (const_eval bytes names r) (λ u q. folds_run names env h l u q m) (λ u q. folds_run names env h r u q) e) n
  folds_run names env h (grouping a) v e n = ticked (eval bytes a) (folds_run names env h a v e) n
  folds_run names env h (assign x a) v e n = absurd (none≢some e)
  folds_run names env h (ok_literal a) v e n = absurd (none≢some e)
  folds_run names env h (err_literal a) v e n = absurd (none≢some e)
  folds_run names env h (is_err a) v e n = absurd (none≢some e)
  folds_run names env h (result_unwrap a) v e n = absurd (none≢some e)
  folds_run names env h other v e n = absurd (none≢some e)
