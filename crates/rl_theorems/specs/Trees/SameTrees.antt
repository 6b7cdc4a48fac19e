-- The trees of an image depend on its text bytes and on four of its sections: other functions change none of them.
-- Assumes nothing.
use Rattle.std.specs.Prelude.{◌≡◌, ℕ, List, [], ◌∷◌, ◌≢◌, None, Some}
use Rattle.std.proofs.Math.Path.{refl}
use Rattle.std.proofs.Common.{ap, sym, ◌∙◌, arith}
use Rattle.std.proofs.Math.Option.{some}
use Rattle.rl_spec.specs.declared.Section.{Section}
use Rattle.rl_spec.specs.declared.Section.TheVariants.{Texts, Lists, Expressions, Statements, Functions}
use Rattle.rl_spec.specs.declared.Interval.{Interval}
use Rattle.rl_spec.specs.Answers.{Optional}
use Rattle.rl_spec.specs.Image.{Field, Rec, Image, order_of, records_of, record_of, field_of, text_of}
use Rattle.rl_spec.specs.declared.Form.{Form}
use Rattle.rl_spec.specs.declared.Form.TheVariants.{Null, Literal, Identifier, Unary, Binary, Grouping, Assign, OkLiteral, ErrLiteral, IsErr, ResultUnwrap, Other}
use Rattle.rl_spec.specs.declared.StatementForm.{StatementForm}
use Rattle.rl_spec.specs.declared.StatementForm.TheVariants as line
use Rattle.rl_spec.specs.declared.StatementForm.TheVariants.{Declaration, Expression, Return, ReturnAlone, Conditional, Branch as ABranch, While, Loop, Break, Continue}
use Rattle.rl_spec.specs.Tree.{Expr, other, is_res_path, call_form, form_by, descend, tree_by, expr_tree, optional_tree}
use Rattle.rl_spec.specs.Statement.{declaration, expression, return, while, other_statement, branch, Item, a_statement, a_branch, body_by, statement_of, item_by, item_tree, body_tree}
use Rattle.rl_spec.specs.Mapped.{map_expr, map_body}
use Rattle.rl_spec.specs.Make.{with_records}
use Rattle.rl_images.specs.Lowering.Grows.{records_other}

-- an image of these sections alone
abbrev tables : List ℕ → List Rec → List Rec → List Rec → List Rec → Image
tables s ts ls es ss = record { arena = 0; bytes = s; records = ts ∷ ls ∷ es ∷ ss ∷ [] }

abbrev tables_of : Image → Image
tables_of im = tables im.bytes (records_of im Texts) (records_of im Lists) (records_of im Expressions) (records_of im Statements)

module _ (im : Image) where
  call_tables : (path args : Field) → call_form im path args ≡ call_form (tables_of im) path args
  unfolding call_form is_res_path
  call_tables path args = refl

  form_tables : (r : Rec) → form_by im r ≡ form_by (tables_of im) r
  unfolding form_by
  form_tables r = rw (call_tables (field_of r 1) (field_of r 2)) refl

  tree_by_lem : (form : Form) (tree : ℕ → Expr ℕ) → tree_by im form tree ≡ tree_by (tables_of im) form tree
  tree_by_lem Null tree = refl
  tree_by_lem (Literal v) tree = refl
  tree_by_lem (Identifier t) tree = refl
  tree_by_lem (Unary op n) tree = refl
  tree_by_lem (Binary l op r) tree = refl
  tree_by_lem (Grouping n) tree = refl
  tree_by_lem (Assign t n) tree = refl
  tree_by_lem (OkLiteral n) tree = refl
  tree_by_lem (ErrLiteral n) tree = refl
  tree_by_lem (IsErr n) tree = refl
  tree_by_lem (ResultUnwrap n) tree = refl
  tree_by_lem Other tree = refl

  expr_tables : expr_tree im ≡ expr_tree (tables_of im)
  unfolding expr_tree
  expr_tables = λ j. descend (λ _. other) (λ i tree. tree_by_lem (form_tables (record_of im Expressions i) j) tree j)

  optional_tables : (o : Optional) → optional_tree im o ≡ optional_tree (tables_of im) o
  optional_tables None = refl
  optional_tables (Some n) = λ i. some (expr_tables i n)

  item_by_lem : (form : StatementForm) (item : ℕ → Item ℕ) → item_by im form item ≡ item_by (tables_of im) form item
  item_by_lem (Declaration x n) item = λ i. a_statement (declaration x (expr_tables i n))
  item_by_lem (Expression n) item = λ i. a_statement (expression (expr_tables i n))
  item_by_lem (Return n) item = λ i. a_statement (return (expr_tables i n))
  item_by_lem ReturnAlone item = refl
  item_by_lem (Conditional b e) item = refl
  item_by_lem (ABranch o list) item = λ i. a_branch (branch (optional_tables o i) (body_by im item list))
  item_by_lem (While n list) item = λ i. a_statement (while (expr_tables i n) (body_by im item list))
  item_by_lem (Loop list) item = refl
  item_by_lem Break item = refl
  item_by_lem Continue item = refl
  item_by_lem line.Other item = refl

  item_tables : item_tree im ≡ item_tree (tables_of im)
  unfolding item_tree
  item_tables = λ j. descend (λ _. a_statement other_statement) (λ i item. item_by_lem (statement_of im i) item j)

  body_tables : (list : Interval) → map_body (text_of im) (body_tree im list) ≡ map_body (text_of (tables_of im)) (body_tree (tables_of im) list)
  body_tables list = λ i. map_body (text_of im) (body_by im (item_tables i) list)

module _ (im : Image) (rs : List Rec) where
  abbrev changed : Image
  changed = with_records im Functions rs

  same_tables : tables_of changed ≡ tables_of im
  same_tables = λ i.
      tables im.bytes (same Texts (λ h. omega arith) i) (same Lists (λ h. omega arith) i) (same Expressions (λ h. omega arith) i)
      (same Statements (λ h. omega arith) i)
    where
      same : (o : Section) → (order_of o ≢ order_of Functions) → records_of changed o ≡ records_of im o
      same o n = records_other im Functions o rs n

  -- THEOREMS: bodies and texts, where only functions change
  pub body_same : (list : Interval) → map_body (text_of changed) (body_tree changed list) ≡ map_body (text_of im) (body_tree im list)
  body_same list = body_tables changed list ∙ ap (λ t. map_body (text_of t) (body_tree t list)) same_tables ∙ sym (body_tables im list)

  pub expr_same : (n : ℕ) → map_expr (text_of changed) (expr_tree changed n) ≡ map_expr (text_of im) (expr_tree im n)
  expr_same n =
      (λ i. map_expr (text_of changed) (expr_tables changed i n))
      ∙ ap (λ t. map_expr (text_of t) (expr_tree t n)) same_tables
      ∙ (λ i. map_expr (text_of im) (sym (expr_tables im) i n))

  pub text_same : (t : ℕ) → text_of changed t ≡ text_of im t
  text_same t = ap (λ x. text_of x t) same_tables
