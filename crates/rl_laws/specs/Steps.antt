-- A run at two budgets: where the smaller is not spent, both go alike and what was added is left; where it is spent, the larger takes more
-- than the smaller. So a loop is its own unfolding: the count that bounds its turns is never what stops it.
-- Assumes nothing.
use Rattle.std.specs.Prelude.{ℕ, zero, suc, ◌+◌, ◌≤◌, ◌<◌, ◌≡◌, refl, Bool, true, false, cond, ltb, length}
use Rattle.std.proofs.Common.{sym, ap, subst, arith, le_refl, le_trans, le_of_suc-le-suc, add-zero, zero-add}
use mathlib.Core.List.{List, [], ◌∷◌}
use Rattle.std.proofs.Math.Option.{Option, none, some}
use Rattle.std.proofs.Math.Nat.{suc-le-suc_iff, le-suc}
use Rattle.rl_spec.specs.Values as value
use Rattle.rl_spec.specs.Values.{ConstVal}
use Rattle.rl_spec.specs.Fold.{unary_value, binary_value}
use Rattle.rl_spec.specs.Tree.{Expr, null, literal, identifier, unary, binary, grouping, assign, ok_literal, err_literal, is_err, result_unwrap, other}
use Rattle.rl_spec.specs.Statement.{Stmt, declaration, expression, return, return_alone, conditional, while, loop, break, continue, other_statement, Body, nil, ◌▸◌, Branch, branch, Else, no_else, else_branch, else_conditional}
use Rattle.rl_spec.specs.Run.{nothing, folded, Value, plain, ok, err, Bound, hidden, Env, Outcome, returned, stopped, fault, spent, Result, got, ended, Run, and_then, ◌>>=◌, ◌>>◌, give, halt, or_fault, tick, charge, bind, leaving, scoped, truth, plain_of, err_of, unwrapped, operand, find, update, look, store, unary_on, binary_on, eval}
use Rattle.rl_spec.specs.Reading.{Check, Function, Mode, plainly, checked, mode_of, body_under, bare, Flow, onward, breaks, continues, followed, followed_top, again, turns, repeat, loop_turn, when, unless, bind_all, content, subject, violated, checks, checked_return, returning, returning_null, taken, while_turn, stmt, body, branch_or, or_else, last_or, top, entering}

-- the budget is not spent
abbrev pub NotSpent : {T : Type 0} → Outcome T → Type 0
NotSpent (returned v) = Unit {0}
NotSpent (stopped p) = Unit {0}
NotSpent (fault k) = Unit {0}
NotSpent spent = ⊥

-- less than k is left, and nothing where the budget is spent
pub data Below {T A : Type 0} (k : ℕ) : Result T A → Type 0 where
  goes : {a : A} {env : Env T} {m : ℕ} → m < k → Below k (got a env m)
  ends : {o : Outcome T} {m : ℕ} → NotSpent o → m < k → Below k (ended o m)
  empty : Below k (ended spent zero)

-- a result with the budget n, and one with k more: alike, the second with k more left; or the first is spent, and the second takes more
-- than n
pub data Grown {T A : Type 0} (n k : ℕ) : Result T A → Result T A → Type 0 where
  going : {a : A} {env : Env T} {m : ℕ} → m ≤ n → Grown n k (got a env m) (got a env (m + k))
  over : {o : Outcome T} {m : ℕ} → NotSpent o → m ≤ n → Grown n k (ended o m) (ended o (m + k))
  dry : {y : Result T A} → Below k y → Grown n k (ended spent zero) y

-- a run at two budgets
abbrev pub Exact : {T A : Type 0} → Run T A → Type 0
Exact {T = T} m = (env : Env T) (n k : ℕ) → Grown n k (m env n) (m env (n + k))

-- no more is left than was given
abbrev Spends : {T A : Type 0} → Run T A → Type 0
Spends {T = T} m = (env : Env T) (n : ℕ) → Below (suc n) (m env n)

-- two runs, the first from budgets that are at most n
abbrev Follows : {T A : Type 0} → ℕ → ℕ → Run T A → Run T A → Type 0
Follows {T = T} n k p q = (env : Env T) (m : ℕ) → m ≤ n → Grown m k (p env m) (q env (m + k))

below : {T A : Type 0} {j k : ℕ} {x : Result T A} → j ≤ k → Below j x → Below k x
below h (goes p) = goes (le_trans p h)
below h (ends o p) = ends o (le_trans p h)
below h empty = empty

below_then : {T A B : Type 0} {k : ℕ} {x : Result T A} {f : A → Run T B} → Below k x → ((a : A) → Spends (f a)) → Below k (and_then x f)
below_then (goes p) h = below (omega (arith, p)) (h _ _ _)
below_then (ends o p) h = ends o p
below_then empty h = empty

first : {T A : Type 0} {n k : ℕ} {x y : Result T A} → Grown n k x y → Below (suc n) x
first (going p) = goes (suc-le-suc_iff.1 p)
first (over o p) = ends o (suc-le-suc_iff.1 p)
first (dry b) = empty

spends : {T A : Type 0} {m : Run T A} → Exact m → Spends m
spends h env n = first (h env n 0)

wider : {T A : Type 0} {m n k : ℕ} {x y : Result T A} → m ≤ n → Grown m k x y → Grown n k x y
wider h (going p) = going (le_trans p h)
wider h (over o p) = over o (le_trans p h)
wider h (dry b) = dry b

grown_then : {T A B : Type 0} {n k : ℕ} {x y : Result T A} (f g : A → Run T B) → Grown n k x y → ((a : A) → Follows n k (f a) (g a)) → ((a : A) → Spends (g a)) → Grown n k (and_then x f) (and_then y g)
grown_then f g (going p) h l = wider p (h _ _ _ p)
grown_then f g (over o p) h l = over o p
grown_then f g (dry b) h l = dry (below_then b l)

then : {T A B : Type 0} {m : Run T A} {f : A → Run T B} → Exact m → ((a : A) → Exact (f a)) → Exact (m >>= f)
then {f = f} h g env n k = grown_then f f (h env n k) (λ a e m l. g a e m k) (λ a. spends (g a))

gives : {T A : Type 0} (a : A) → Exact {T = T} (give a)
gives a env n k = going (le_refl n)

halts : {T A : Type 0} (o : Outcome T) → NotSpent o → Exact {A = A} (halt o)
halts o h env n k = over h (le_refl n)

suc_in : (n k : ℕ) → suc (n + k) ≡ suc n + k
suc_in n k = omega arith

ticks : {T : Type 0} → Exact {T = T} tick
ticks env zero zero = dry empty
ticks env zero (suc k) = dry (subst (λ i. Below (suc k) (tick env i)) (sym (zero-add (suc k))) (goes (le_refl (suc k))))
ticks env (suc n) k = let h : n ≤ suc n = omega arith in subst (λ i. Grown (suc n) k (got tt env n) (tick env i)) (suc_in n k) (going h)

charges : {T : Type 0} (k : ℕ) → Exact {T = T} (charge k)
charges zero = gives tt
charges (suc k) = then ticks (λ _. charges k)

or_faults : {T A : Type 0} (k : ℕ) (o : Option A) → Exact {T = T} (or_fault k o)
or_faults k none = halts _ tt
or_faults k (some a) = gives a

binds_if : {T : Type 0} (x : Bool) (b : Bound T) (env : Env T) (n k : ℕ) → Grown n k (cond x (got (tt {0}) (b ∷ env) n) (ended (fault 5) n)) (cond x (got (tt {0}) (b ∷ env) (n + k)) (ended (fault 5) (n + k)))
binds_if true b env n k = going (le_refl n)
binds_if false b env n k = over tt (le_refl n)

binds : {T : Type 0} (b : Bound T) → Exact (bind b)
binds b env n k = binds_if (ltb (length env) 128) b env n k

stores_if : {T : Type 0} (o : Option (Env T)) (env : Env T) (n k : ℕ) → Grown n k (and_then (or_fault 3 o env n) (λ e _ m. got (tt {0}) e m)) (and_then (or_fault 3 o env (n + k)) (λ e _ m. got (tt {0}) e m))
stores_if none env n k = over tt (le_refl n)
stores_if (some e) env n k = going (le_refl n)

below_leaves : {T A : Type 0} (j : ℕ) {k : ℕ} {x : Result T A} → Below k x → Below k (leaving j x)
below_leaves j (goes p) = goes p
below_leaves j (ends o p) = ends o p
below_leaves j empty = empty

leaves : {T A : Type 0} (j : ℕ) {n k : ℕ} {x y : Result T A} → Grown n k x y → Grown n k (leaving j x) (leaving j y)
leaves j (going p) = going p
leaves j (over o p) = over o p
leaves j (dry b) = dry (below_leaves j b)

scopes : {T A : Type 0} {m : Run T A} → Exact m → Exact (scoped m)
scopes h env n k = leaves (length env) (h env n k)

truths : {T : Type 0} (k : ℕ) (w : Value T) → Exact (truth k w)
truths k (plain nothing) = halts _ tt
truths k (plain (folded (value.int x))) = halts _ tt
truths k (plain (folded (value.float x))) = halts _ tt
truths k (plain (folded (value.str x))) = halts _ tt
truths k (plain (folded (value.bool b))) = gives b
truths k (ok p) = halts _ tt
truths k (err p) = halts _ tt

plain_ofs : {T : Type 0} (w : Value T) → Exact (plain_of w)
plain_ofs (plain p) = gives p
plain_ofs (ok p) = halts _ tt
plain_ofs (err p) = halts _ tt

err_ofs : {T : Type 0} (w : Value T) → Exact (err_of w)
err_ofs (plain p) = halts _ tt
err_ofs (ok p) = gives false
err_ofs (err p) = gives true

unwrappeds : {T : Type 0} (w : Value T) → Exact (unwrapped w)
unwrappeds (plain p) = halts _ tt
unwrappeds (ok p) = gives (plain p)
unwrappeds (err p) = halts _ tt

followeds : {T : Type 0} (f : Flow) {k : Run T Flow} → Exact k → Exact (followed f k)
followeds onward h = h
followeds breaks h = gives breaks
followeds continues h = gives continues

tops_next : {T A : Type 0} (f : Flow) {k : Run T A} → Exact k → Exact (followed_top f k)
tops_next onward h = h
tops_next breaks h = halts _ tt
tops_next continues h = halts _ tt

whens : {T : Type 0} (b : Bool) {k l : Run T Flow} → Exact k → Exact l → Exact (when b k l)
whens true h g = h
whens false h g = g

unlesses : {T : Type 0} (b : Bool) {k : Run T (Unit {0})} → Exact k → Exact (unless b k)
unlesses true h = gives tt
unlesses false h = h

bind_alls : {T : Type 0} (xs : List T) (vs : List (Value T)) → Exact (bind_all xs vs)
bind_alls [] vs = gives _
bind_alls (x ∷ xs) [] = gives _
bind_alls (x ∷ xs) (v ∷ vs) = then (binds _) (λ _. bind_alls xs vs)

contents : {T : Type 0} (w : Value T) → Exact (content w)
contents (plain p) = halts _ tt
contents (ok p) = gives _
contents (err p) = then (charges 2) (λ _. halts _ tt)

subjects : {T : Type 0} (r : Bool) (w : Value T) → Exact (subject r w)
subjects false w = then (charges 2) (λ _. gives w)
subjects true w = then (charges 3) (λ _. then (contents w) (λ z. then (charges 3) (λ _. gives z)))

-- ---- loops: the count of turns is at least the budget, so it does not stop first

abbrev Turn : Type 0 → Type 0
Turn T = Run T Flow → Run T Flow

-- a turn at two budgets, before what follows it
abbrev Even : {T : Type 0} → Turn T → Type 0
Even {T = T} turn = (p q : Run T Flow) (n k : ℕ) → Follows n k p q → Spends q → (env : Env T) → Grown n k (turn p env n) (turn q env (n + k))

same : {T A : Type 0} {n : ℕ} {x : Result T A} → Below (suc n) x → Grown n 0 x x
same {n = n} (goes {a = a} {env = env} {m = m} p) = subst (λ i. Grown n 0 (got a env m) (got a env i)) (add-zero m) (going (le_of_suc-le-suc p))
same {A = A} {n = n} (ends {o = o} {m = m} h p) = subst (λ i. Grown {A = A} n 0 (ended o m) (ended o i)) (add-zero m) (over h (le_of_suc-le-suc p))
same empty = dry empty

equal : {T A : Type 0} {n : ℕ} {x y : Result T A} → Grown n 0 x y → x ≡ y
equal (going {a = a} {env = env} {m = m} p) = ap (got a env) (sym (add-zero m))
equal (over {o = o} {m = m} h p) = ap (ended o) (sym (add-zero m))
equal (dry (goes p)) = absurd (omega arith)
equal (dry (ends h p)) = absurd (omega arith)
equal (dry empty) = refl

follows_self : {T A : Type 0} {n : ℕ} {p : Run T A} → Spends p → Follows n 0 p p
follows_self {p = p} h env m l = subst (λ i. Grown m 0 (p env m) (p env i)) (sym (add-zero m)) (same (h env m))

turns_below : {T : Type 0} (turn : Turn T) → Even turn → (j : ℕ) (env : Env T) (n : ℕ) → Below n (turns j turn env n)
unfolding turns
turns_below turn h zero env n = empty
turns_below turn h (suc j) env zero = empty
turns_below turn h (suc j) env (suc n) =
    let r : Spends (turns j turn) = λ e m. below (le-suc _) (turns_below turn h j e m) in
    first (h (turns j turn) (turns j turn) n 0 (follows_self r) r env)

turns_spend : {T : Type 0} (turn : Turn T) → Even turn → (j : ℕ) → Spends (turns j turn)
turns_spend turn h j env n = below (le-suc _) (turns_below turn h j env n)

turnses : {T : Type 0} (turn : Turn T) → Even turn → (i j : ℕ) (env : Env T) (n k : ℕ) → n ≤ i → n + k ≤ j → Grown n k (turns i turn env n) (turns j turn env (n + k))
unfolding turns
turnses turn h zero j env zero k p q = dry (subst (λ i. Below k (turns j turn env i)) (sym (zero-add k)) (turns_below turn h j env k))
turnses turn h (suc i) j env zero k p q = dry (subst (λ i. Below k (turns j turn env i)) (sym (zero-add k)) (turns_below turn h j env k))
turnses turn h zero j env (suc n) k p q = absurd (omega arith)
turnses turn h (suc i) zero env (suc n) k p q = absurd (omega arith)
turnses turn h (suc i) (suc j) env (suc n) k p q =
    let l : n ≤ suc n = omega arith in
    subst (λ x. Grown (suc n) k (turn (turns i turn) env n) (turns (suc j) turn env x)) (suc_in n k)
    (wider l (h (turns i turn) (turns j turn) n k (λ e m l. turnses turn h i j e m k (omega arith) (omega arith)) (turns_spend turn h j) env))

repeats : {T : Type 0} (turn : Turn T) → Even turn → Exact (repeat turn)
repeats turn h env n k = turnses turn h n (n + k) env n k (le_refl n) (le_refl (n + k))

-- A LOOP IS ITS UNFOLDING: a step, a turn, and the loop again
repeat_unfolds : {T : Type 0} (turn : Turn T) → Even turn → (env : Env T) (n : ℕ) → repeat turn env n ≡ (tick >> turn (repeat turn)) env n
unfolding turns
repeat_unfolds turn h env zero = refl
repeat_unfolds turn h env (suc n) =
    equal
    (subst (λ x. Grown n 0 (turn (turns n turn) env n) (turn (repeat turn) env x)) (add-zero n)
    (h (turns n turn) (repeat turn) n 0 (λ e m l. turnses turn h n (m + 0) e m 0 l (le_refl (m + 0))) (spends (repeats turn h)) env))

again_follows : {T : Type 0} {n k : ℕ} (f : Flow) (p q : Run T Flow) → Follows n k p q → Follows n k (again f p) (again f q)
again_follows onward p q h env m l = h env m l
again_follows breaks p q h env m l = going (le_refl m)
again_follows continues p q h env m l = h env m l

again_spends : {T : Type 0} (f : Flow) {q : Run T Flow} → Spends q → Spends (again f q)
again_spends onward h = h
again_spends breaks h = spends (gives onward)
again_spends continues h = h

loop_turns : {T : Type 0} {b : Run T Flow} → Exact b → Even (loop_turn b)
loop_turns h p q n k g s env =
    grown_then (λ f. again f p) (λ f. again f q) (scopes h env n k) (λ f. again_follows f p q g) (λ f. again_spends f s)

-- ---- expressions

module _ {T : Type 0} (bytes : T → List ℕ) where
  looks : (x : T) → Exact (look bytes x)
  looks x env n k = or_faults 3 (find bytes env x) env n k

  stores : (x : T) (v : Value T) → Exact (store bytes x v)
  stores x v env n k = stores_if (update bytes env x v) env n k

  unary_ons : (op : ℕ) (v : Option (ConstVal T)) → Exact (unary_on bytes op v)
  unary_ons op none = halts _ tt
  unary_ons op (some v) = then (or_faults 4 (unary_value op v)) (λ w. gives _)

  binary_ons : (op : ℕ) (v w : Option (ConstVal T)) → Exact (binary_on bytes op v w)
  binary_ons op none w = halts _ tt
  binary_ons op (some v) none = halts _ tt
  binary_ons op (some v) (some w) = then (or_faults 4 (binary_value bytes op v w)) (λ x. gives _)

  pub evals : (e : Expr T) → Exact (eval bytes e)
  unfolding eval
  evals null = then ticks (λ _. gives _)
  evals (literal l) = then ticks (λ _. then (or_faults 4 l) (λ v. gives _))
  evals (identifier x) = then ticks (λ _. looks x)
  evals (unary op e) = then ticks (λ _. then (evals e) (λ v. unary_ons op (operand v)))
  evals (binary l op r) = then ticks (λ _. then (evals l) (λ v. then (evals r) (λ w. binary_ons op (operand v) (operand w))))
  evals (grouping e) = then ticks (λ _. evals e)
  evals (assign x e) = then ticks (λ _. then (evals e) (λ v. then (stores x v) (λ _. gives v)))
  evals (ok_literal e) = then ticks (λ _. then (evals e) (λ v. then (plain_ofs v) (λ p. gives _)))
  evals (err_literal e) = then ticks (λ _. then (evals e) (λ v. then (plain_ofs v) (λ p. gives _)))
  evals (is_err e) = then ticks (λ _. then (evals e) (λ v. then (err_ofs v) (λ b. gives _)))
  evals (result_unwrap e) = then ticks (λ _. then (evals e) unwrappeds)
  evals other = then ticks (λ _. halts _ tt)

module _ {T : Type 0} (bytes : T → List ℕ) where
  -- ---- checks and returns

  takens : (c : Option (Expr T)) → Exact (taken bytes c)
  takens none = gives true
  takens (some e) = then (evals bytes e) (truths 2)

  violateds : (r : Bool) (m : Expr T) → Exact (violated bytes r m)
  violateds false m = then (charges 3) (λ _. then (evals bytes m) (λ w. then (plain_ofs w) (λ p. halts _ tt)))
  violateds true m = then (charges 2) (λ _. then (evals bytes m) (λ w. then (plain_ofs w) (λ p. halts _ tt)))

  pub checkses : (r : Bool) (cs : List (Check T)) → Exact (checks bytes r cs)
  unfolding checks
  checkses r [] = gives tt
  checkses r (c ∷ cs) =
      then (then (charges 2) (λ _. then (evals bytes c.condition) (λ w. then (truths 4 w) (λ b. unlesses b (violateds r c.message)))))
      (λ _. checkses r cs)

  checked_returns : (ret : T) (r : Bool) (cs : List (Check T)) (v : Value T) → Exact (checked_return bytes ret r cs v)
  checked_returns ret r cs v =
      then (binds (hidden v)) (λ _. then (subjects r v) (λ w. then (binds _)
      (λ _. then (checkses r cs) (λ _. then (charges 2) (λ _. halts _ tt)))))

  returns : (m : Mode T) (v : Value T) → Exact (returning bytes m v)
  returns plainly v = halts _ tt
  returns (checked ret r cs) v = checked_returns ret r cs v

  return_nulls : (m : Mode T) → Exact (returning_null bytes m)
  return_nulls plainly = halts _ tt
  return_nulls (checked ret r cs) = then (charges 1) (λ _. checked_returns ret r cs (plain nothing))

  -- ---- statements and bodies, in both modes

  when_follows : {n k : ℕ} (t : Bool) (b p q : Run T Flow) → Exact b → Follows n k p q → Spends q →
      Follows n k (when t (scoped b >>= λ f. again f p) (give onward)) (when t (scoped b >>= λ f. again f q) (give onward))
  when_follows {k = k} true b p q h g s env m l =
      grown_then (λ f. again f p) (λ f. again f q) (scopes h env m k) (λ f. again_follows f p q (λ e i r. g e i (le_trans r l))) (λ f. again_spends f s)
  when_follows false b p q h g s env m l = going (le_refl m)

  when_spends : (t : Bool) (b q : Run T Flow) → Exact b → Spends q → Spends (when t (scoped b >>= λ f. again f q) (give onward))
  when_spends true b q h s env n = below_then (spends (scopes h) env n) (λ f. again_spends f s)
  when_spends false b q h s env n = goes (le_refl (suc n))

  while_turns : (e : Expr T) {b : Run T Flow} → Exact b → Even (while_turn bytes e b)
  while_turns e {b = b} h p q n k g s env =
      grown_then (λ t. when t (scoped b >>= λ f. again f p) (give onward)) (λ t. when t (scoped b >>= λ f. again f q) (give onward))
      (takens (some e) env n k) (λ t. when_follows t b p q h g s) (λ t. when_spends t b q h s)

  mutual
    unfolding stmt

    pub stmts : (m : Mode T) (s : Stmt T) → Exact (stmt bytes m s)
    stmts m (declaration x e) = then ticks (λ _. then (evals bytes e) (λ v. then (binds _) (λ _. gives _)))
    stmts m (expression e) = then ticks (λ _. then (evals bytes e) (λ v. gives _))
    stmts m (return e) = then ticks (λ _. then (evals bytes e) (returns m))
    stmts m return_alone = then ticks (λ _. return_nulls m)
    stmts m (conditional b e) = then ticks (λ _. branches m b (or_else bytes m e) (elses m e))
    stmts m (while e b) = then ticks (λ _. repeats (while_turn bytes e (body bytes m b)) (while_turns e (bodies m b)))
    stmts m (loop b) = then ticks (λ _. repeats (loop_turn (body bytes m b)) (loop_turns (bodies m b)))
    stmts m break = then ticks (λ _. gives _)
    stmts m continue = then ticks (λ _. gives _)
    stmts m other_statement = then ticks (λ _. halts _ tt)

    pub bodies : (m : Mode T) (b : Body T) → Exact (body bytes m b)
    bodies m nil = gives _
    bodies m (s ▸ b) = then (stmts m s) (λ f. followeds f (bodies m b))

    branches : (m : Mode T) (b : Branch T) (k : Run T Flow) → Exact k → Exact (branch_or bytes m b k)
    branches m (branch c b) k h = then (takens c) (λ t. whens t (scopes (bodies m b)) h)

    elses : (m : Mode T) (e : Else T) → Exact (or_else bytes m e)
    elses m no_else = gives _
    elses m (else_branch b) = branches m b (give onward) (gives onward)
    elses m (else_conditional b e) = branches plainly b (or_else bytes plainly e) (elses plainly e)

  lasts : (m : Mode T) (s : Stmt T) (o : Option (Expr T)) → Exact (last_or bytes o (stmt bytes m s))
  lasts m s none = then (stmts m s) (λ f. tops_next f (gives _))
  lasts m s (some e) = then ticks (λ _. evals bytes e)

  pub tops : (m : Mode T) (b : Body T) → Exact (top bytes m b)
  unfolding top
  tops m nil = gives _
  tops m (s ▸ nil) = lasts m s (bare s)
  tops m (s ▸ (t ▸ b)) = then (stmts m s) (λ f. tops_next f (tops m (t ▸ b)))

  -- ---- functions

  enterings : (f : Function T) (vs : List (Value T)) → Exact (entering bytes f vs)
  enterings f vs = then (bind_alls f.params vs) (λ _. checkses f.is_result f.entry)

  -- THE RUN AND THE CONTRACT READING at two budgets
  pub runs : (f : Function T) (vs : List (Value T)) → Exact (bind_all f.params vs >> top bytes plainly f.body)
  runs f vs = then (bind_alls f.params vs) (λ _. tops plainly f.body)

  pub readings : (ret : T) (f : Function T) (vs : List (Value T)) → Exact (entering bytes f vs >> top bytes (mode_of ret f.is_result f.ensures) (body_under f.ensures f.body))
  readings ret f vs = then (enterings f vs) (λ _. tops (mode_of ret f.is_result f.ensures) (body_under f.ensures f.body))

  -- ---- the two loops unfold

  pub while_unfolds : (m : Mode T) (e : Expr T) (b : Body T) (env : Env T) (n : ℕ) →
      repeat (while_turn bytes e (body bytes m b)) env n ≡ (tick >> while_turn bytes e (body bytes m b) (repeat (while_turn bytes e (body bytes m b)))) env n
  while_unfolds m e b = repeat_unfolds (while_turn bytes e (body bytes m b)) (while_turns e (bodies m b))

  pub loop_unfolds : (m : Mode T) (b : Body T) (env : Env T) (n : ℕ) →
      repeat (loop_turn (body bytes m b)) env n ≡ (tick >> loop_turn (body bytes m b) (repeat (loop_turn (body bytes m b)))) env n
  loop_unfolds m b = repeat_unfolds (loop_turn (body bytes m b)) (loop_turns (bodies m b))
