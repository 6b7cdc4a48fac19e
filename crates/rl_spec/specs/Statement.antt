-- The trees that the statements of an image stand for. Forms that the runner does not take are one. T is the type of texts.
use Rattle.std.specs.Prelude.{ℕ, cond, List, [], ◌∷◌, map, ◌==◌, None, Some}
use Rattle.std.proofs.Math.Option.{Option, none}
use Rattle.rl_spec.specs.declared.Section.TheVariants.{Statements}
use Rattle.rl_spec.specs.declared.Interval.{Interval}
use Rattle.rl_spec.specs.Answers.{Optional}
use Rattle.rl_spec.specs.declared.StatementForm.{StatementForm}
use Rattle.rl_spec.specs.declared.StatementForm.TheVariants.{Declaration, Expression, Return, ReturnAlone, Conditional, Branch as ABranch, While, Loop, Break, Continue, Other}
use Rattle.rl_spec.specs.Image.{Rec, Image, record_of, field_of, entry_of}
use Rattle.rl_spec.specs.Tree.{Expr, number, descend, expr_tree, optional_tree}
use Rattle.rl_spec.specs.Ranges.{interval, optional, numbers_in}

infixr 5 ◌▸◌
mutual
  pub data Stmt (T : Type 0) : Type 0 where
    declaration : T → Expr T → Stmt T
    expression : Expr T → Stmt T
    return : Expr T → Stmt T
    return_alone : Stmt T
    conditional : Branch T → Else T → Stmt T
    while : Expr T → Body T → Stmt T
    loop : Body T → Stmt T
    break continue : Stmt T
    other_statement : Stmt T

  pub data Body (T : Type 0) : Type 0 where
    nil : Body T
    ◌▸◌ : Stmt T → Body T → Body T

  -- a branch without a condition is taken
  pub data Branch (T : Type 0) : Type 0 where
    branch : Option (Expr T) → Body T → Branch T

  pub data Else (T : Type 0) : Type 0 where
    no_else : Else T
    else_branch : Branch T → Else T
    else_conditional : Branch T → Else T → Else T

-- ---- those of an image

-- a record of the section of statements is a statement or a branch
pub data Item (T : Type 0) : Type 0 where
  a_statement : Stmt T → Item T
  a_branch : Branch T → Item T

-- a branch among statements is a form that is not taken
abbrev pub as_statement : {T : Type 0} → Item T → Stmt T
as_statement (a_statement s) = s
as_statement (a_branch b) = other_statement

abbrev pub as_branch : {T : Type 0} → Item T → Branch T
as_branch (a_statement s) = branch none nil
as_branch (a_branch b) = b

abbrev pub else_of : {T : Type 0} → Stmt T → Else T
else_of (declaration x e) = no_else
else_of (expression e) = no_else
else_of (return e) = no_else
else_of return_alone = no_else
else_of (conditional b e) = else_conditional b e
else_of (while e b) = no_else
else_of (loop b) = no_else
else_of break = no_else
else_of continue = no_else
else_of other_statement = no_else

abbrev pub as_else : {T : Type 0} → Item T → Else T
as_else (a_statement s) = else_of s
as_else (a_branch b) = else_branch b

abbrev pub body_from : {T : Type 0} → List (Item T) → Body T
body_from [] = nil
body_from (x ∷ xs) = as_statement x ▸ body_from xs

-- the body of a list, by the items that its entries stand for
abbrev pub body_by : {T : Type 0} → Image → (ℕ → Item T) → Interval → Body T
body_by im item list = body_from (map (λ k. item (entry_of im k)) (numbers_in list))

abbrev pub else_by : {T : Type 0} → (ℕ → Item T) → Optional → Else T
else_by item None = no_else
else_by item (Some n) = as_else (item n)

-- ---- the form of a record; field 0 is the span

unfoldable pub statement_by : Rec → StatementForm
statement_by r =
    cond (r.kind == 64) (Declaration (number r 1) (number r 3))
    (cond (r.kind == 65) (Expression (number r 1))
    (cond (r.kind == 66) (Return (number r 1))
    (cond (r.kind == 67) ReturnAlone
    (cond (r.kind == 68) (Conditional (number r 1) (optional (field_of r 2)))
    (cond (r.kind == 69) (ABranch (optional (field_of r 1)) (interval (field_of r 2)))
    (cond (r.kind == 70) (While (number r 1) (interval (field_of r 2)))
    (cond (r.kind == 71) (Loop (interval (field_of r 1)))
    (cond (r.kind == 77) Break
    (cond (r.kind == 78) Continue Other)))))))))

abbrev pub statement_of : Image → ℕ → StatementForm
statement_of im i = statement_by (record_of im Statements i)

-- a form with the items of the statements before it
abbrev pub item_by : Image → StatementForm → (ℕ → Item ℕ) → Item ℕ
item_by im (Declaration x n) item = a_statement (declaration x (expr_tree im n))
item_by im (Expression n) item = a_statement (expression (expr_tree im n))
item_by im (Return n) item = a_statement (return (expr_tree im n))
item_by im ReturnAlone item = a_statement return_alone
item_by im (Conditional b e) item = a_statement (conditional (as_branch (item b)) (else_by item e))
item_by im (ABranch n list) item = a_branch (branch (optional_tree im n) (body_by im item list))
item_by im (While n list) item = a_statement (while (expr_tree im n) (body_by im item list))
item_by im (Loop list) item = a_statement (loop (body_by im item list))
item_by im Break item = a_statement break
item_by im Continue item = a_statement continue
item_by im Other item = a_statement other_statement

unfoldable pub item_tree : Image → ℕ → Item ℕ
item_tree im = descend (λ _. a_statement other_statement) (λ i item. item_by im (statement_of im i) item)

abbrev pub body_tree : Image → Interval → Body ℕ
body_tree im list = body_by im (item_tree im) list
