-- Statements and bodies, run plainly or under a contract; a function's plain run, and 01's "Contract reading".
use Rattle.std.specs.Prelude.{ℕ, zero, suc, Bool, true, false, List, [], ◌∷◌}
use Rattle.std.proofs.Math.Option.{Option, none, some}
use Rattle.rl_spec.specs.Tree.{Expr}
use Rattle.rl_spec.specs.Statement.{Stmt, declaration, expression, return, return_alone, conditional, while, loop, break, continue, other_statement, Body, nil, ◌▸◌, Branch, branch, Else, no_else, else_branch, else_conditional}
use Rattle.rl_spec.specs.Run.{nothing, Value, plain, ok, err, named, hidden, Outcome, returned, stopped, ended, Ending, ending, Run, ◌>>=◌, ◌>>◌, give, halt, fail, tick, charge, bind, scoped, truth, plain_of, eval}

-- a condition that must hold, and the message where it does not
pub record Check (T : Type 0) : Type 0 where
  pub condition : Expr T
  pub message : Expr T

-- the entry checks are the refinements and then the requires
pub record Function (T : Type 0) : Type 0 where
  pub name : T
  pub params : List T
  pub is_result : Bool
  pub entry : List (Check T)
  pub ensures : List (Check T)
  pub body : Body T

-- ---- where a return is checked

-- a return is plain, or it is checked by a function's ensures, under this name for the value
pub data Mode (T : Type 0) : Type 0 where
  plainly : Mode T
  checked : T → Bool → List (Check T) → Mode T

abbrev pub mode_of : {T : Type 0} → T → Bool → List (Check T) → Mode T
mode_of ret r [] = plainly
mode_of ret r (c ∷ cs) = checked ret r (c ∷ cs)

abbrev pub bare : {T : Type 0} → Stmt T → Option (Expr T)
bare (declaration x e) = none
bare (expression e) = some e
bare (return e) = none
bare return_alone = none
bare (conditional b e) = none
bare (while e b) = none
bare (loop b) = none
bare break = none
bare continue = none
bare other_statement = none

-- under ensures a bare only statement is a return
abbrev pub only_returned : {T : Type 0} → Stmt T → Option (Expr T) → Body T
only_returned s none = s ▸ nil
only_returned s (some e) = return e ▸ nil

abbrev pub with_return : {T : Type 0} → Body T → Body T
with_return nil = nil
with_return (s ▸ nil) = only_returned s (bare s)
with_return (s ▸ (t ▸ b)) = s ▸ (t ▸ b)

abbrev pub body_under : {T : Type 0} → List (Check T) → Body T → Body T
body_under [] b = b
body_under (c ∷ cs) b = with_return b

-- ---- how a body and a loop go on

pub data Flow : Type 0 where
  onward breaks continues : Flow

abbrev pub followed : {T : Type 0} → Flow → Run T Flow → Run T Flow
followed onward k = k
followed breaks k = give breaks
followed continues k = give continues

-- fault 1: Break or Continue outside a loop
abbrev pub followed_top : {T A : Type 0} → Flow → Run T A → Run T A
followed_top onward k = k
followed_top breaks k = fail 1
followed_top continues k = fail 1

abbrev pub again : {T : Type 0} → Flow → Run T Flow → Run T Flow
again onward k = k
again continues k = k
again breaks k = give onward

-- the turns of a loop, each of which costs 1; the budget pays at most k
unfoldable pub turns : {T : Type 0} → ℕ → (Run T Flow → Run T Flow) → Run T Flow
turns zero turn env n = ended Outcome.spent zero
turns (suc k) turn env n = (tick >> turn (turns k turn)) env n

abbrev pub repeat : {T : Type 0} → (Run T Flow → Run T Flow) → Run T Flow
repeat turn env n = turns n turn env n

abbrev pub loop_turn : {T : Type 0} → Run T Flow → Run T Flow → Run T Flow
loop_turn body next = scoped body >>= λ f. again f next

abbrev pub when : {T : Type 0} → Bool → Run T Flow → Run T Flow → Run T Flow
when true k l = k
when false k l = l

abbrev pub unless : {T : Type 0} → Bool → Run T (Unit {0}) → Run T (Unit {0})
unless true k = give tt
unless false k = k

abbrev pub bind_all : {T : Type 0} → List T → List (Value T) → Run T (Unit {0})
bind_all [] vs = give tt
bind_all (x ∷ xs) [] = give tt
bind_all (x ∷ xs) (v ∷ vs) = do
  bind (named x v)
  bind_all xs vs

-- ---- what `ret` stands for

-- of a result function: the content of an Ok; a plain value is fault 2, an Err charges 2 and returns
abbrev pub content : {T : Type 0} → Value T → Run T (Value T)
content (plain p) = fail 2
content (err p) = do
  charge 2
  halt (returned (err p))
content (ok p) = give (plain p)

-- charge 2; of a result function 3, its content, 3
abbrev pub subject : {T : Type 0} → Bool → Value T → Run T (Value T)
subject false v = do
  charge 2
  give v
subject true v = do
  charge 3
  w ← content v
  charge 3
  give w

module _ {T : Type 0} (bytes : T → List ℕ) where
  abbrev ev : Expr T → Run T (Value T)
  ev = eval bytes

  -- ---- a check: charge 2, condition; not Bool is fault 4; false charges 3, evaluates the message and stops with it, or in a
  -- result function charges 2 and returns Err of it; a message that is an Ok or Err is fault 2

  abbrev pub violated : Bool → Expr T → Run T (Unit {0})
  violated false m = do
    charge 3
    v ← ev m
    p ← plain_of v
    halt (stopped p)
  violated true m = do
    charge 2
    v ← ev m
    p ← plain_of v
    halt (returned (err p))

  abbrev pub check : Bool → Check T → Run T (Unit {0})
  check r c = do
    charge 2
    v ← ev c.condition
    b ← truth 4 v
    unless b (violated r c.message)

  unfoldable pub checks : Bool → List (Check T) → Run T (Unit {0})
  checks r [] = give tt
  checks r (c ∷ cs) = do
    check r c
    checks r cs

  -- ---- a return

  -- take one hidden binding; bind `ret`; check the ensures in order; charge 2, return the first value
  abbrev pub checked_return : T → Bool → List (Check T) → Value T → Run T Flow
  checked_return ret r cs v = do
    bind (hidden v)
    w ← subject r v
    bind (named ret w)
    checks r cs
    charge 2
    halt (returned v)

  abbrev pub returning : Mode T → Value T → Run T Flow
  returning plainly v = halt (returned v)
  returning (checked ret r cs) v = checked_return ret r cs v

  -- Null costs 1 where the return is checked
  abbrev pub returning_null : Mode T → Run T Flow
  returning_null plainly = halt (returned (plain nothing))
  returning_null (checked ret r cs) = do
    charge 1
    checked_return ret r cs (plain nothing)

  -- ---- statements: each begun costs 1, a 68's branches 0

  -- a branch is taken when its condition is none or true; not Bool is fault 2
  abbrev pub taken : Option (Expr T) → Run T Bool
  taken none = give true
  taken (some e) = do
    v ← ev e
    truth 2 v

  abbrev pub while_turn : Expr T → Run T Flow → Run T Flow → Run T Flow
  while_turn e body next = do
    b ← taken (some e)
    when b (scoped body >>= λ f. again f next) (give onward)

  unfoldable mutual
    pub stmt : Mode T → Stmt T → Run T Flow
    stmt m (declaration x e) = do
      tick
      v ← ev e
      bind (named x v)
      give onward
    stmt m (expression e) = do
      tick
      v ← ev e
      give onward
    stmt m (return e) = do
      tick
      v ← ev e
      returning m v
    stmt m return_alone = do
      tick
      returning_null m
    stmt m (conditional b e) = do
      tick
      branch_or m b (or_else m e)
    stmt m (while e b) = do
      tick
      repeat (while_turn e (body m b))
    stmt m (loop b) = do
      tick
      repeat (loop_turn (body m b))
    stmt m break = do
      tick
      give breaks
    stmt m continue = do
      tick
      give continues
    stmt m other_statement = do
      tick
      fail 1

    pub body : Mode T → Body T → Run T Flow
    body m nil = give onward
    body m (s ▸ b) = do
      f ← stmt m s
      followed f (body m b)

    -- a branch, and what is done where it is not taken
    pub branch_or : Mode T → Branch T → Run T Flow → Run T Flow
    branch_or m (branch c b) other = do
      t ← taken c
      when t (scoped (body m b)) other

    -- a return inside a 68 that is an else branch is plain
    pub or_else : Mode T → Else T → Run T Flow
    or_else m no_else = give onward
    or_else m (else_branch b) = branch_or m b (give onward)
    or_else m (else_conditional b e) = branch_or plainly b (or_else plainly e)

  -- ---- the top: a last bare expression gives the value, otherwise the end gives Null

  abbrev pub last_or : Option (Expr T) → Run T Flow → Run T (Value T)
  last_or none k = k >>= λ f. followed_top f (give (plain nothing))
  last_or (some e) k = do
    tick
    ev e

  unfoldable pub top : Mode T → Body T → Run T (Value T)
  top m nil = give (plain nothing)
  top m (s ▸ nil) = last_or (bare s) (stmt m s)
  top m (s ▸ (t ▸ b)) = do
    f ← stmt m s
    followed_top f (top m (t ▸ b))

  -- ---- functions: the outcome, and the budget that is left

  -- THE RUN of a function's body
  unfoldable pub run_function : Function T → List (Value T) → ℕ → Ending T
  run_function f vs budget = ending ((bind_all f.params vs >> top plainly f.body) [] budget)

  -- the entry checks, which are passed when all of them held
  abbrev pub entering : Function T → List (Value T) → Run T (Unit {0})
  entering f vs = bind_all f.params vs >> checks f.is_result f.entry

  -- THE CONTRACT READING; `ret` is the name that the ensures have for the value
  unfoldable pub reading : T → Function T → List (Value T) → ℕ → Ending T
  reading ret f vs budget =
      ending ((entering f vs >> top (mode_of ret f.is_result f.ensures) (body_under f.ensures f.body)) [] budget)
