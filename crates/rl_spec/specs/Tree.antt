-- The trees that the expressions of an image stand for: a shared record stands for copies. T is the type of texts.
use Rattle.std.specs.Prelude.{ℕ, zero, suc, ◌+◌, ◌-◌, ◌^◌, Bool, cond, ◌&&◌, List, [], ◌∷◌, ℤ, pos, negsuc, ◌==◌, from_bits, nat_lt, None, Some}
use Prim.Native.Char.{code}
use Prim.Native.String.{String, [] as end, ◌∷◌ as ◌▸◌}
use Rattle.std.proofs.Math.Option.{Option, none, some}
use Rattle.std.specs.Float.{binary32, binary64}
use Rattle.rl_spec.specs.declared.Section.TheVariants.{Expressions}
use Rattle.rl_spec.specs.declared.ConstVal.TheVariants.{Int, Float, Str, Bool as Truth}
use Rattle.rl_spec.specs.Answers.{Folded, Optional}
use Rattle.rl_spec.specs.declared.Form.{Form}
use Rattle.rl_spec.specs.declared.Form.TheVariants.{Null, Literal, Identifier, Unary, Binary, Grouping, Assign, OkLiteral, ErrLiteral, IsErr, ResultUnwrap, Other}
use Rattle.rl_spec.specs.Image.{Field, Rec, Image, first, second, record_of, field_of, entry_of, text_of}
use Rattle.rl_spec.specs.Values.{ConstVal, same_text}
use Rattle.rl_spec.specs.Folded.{folded_of}

-- ---- the trees. Forms that neither folding nor the runner takes are one.

pub data Expr (T : Type 0) : Type 0 where
  null : Expr T
  -- with what it folds to
  literal : Option (ConstVal T) → Expr T
  identifier : T → Expr T
  unary : ℕ → Expr T → Expr T
  binary : Expr T → ℕ → Expr T → Expr T
  grouping : Expr T → Expr T
  assign : T → Expr T → Expr T
  ok_literal err_literal is_err result_unwrap : Expr T → Expr T
  other : Expr T

-- ---- the form of a record

-- the bytes of an ASCII text
unfoldable pub ascii : String → List ℕ
ascii end = []
ascii (c ▸ s) = code c ∷ ascii s

-- the number whose two's complement in w bits is n
abbrev pub signed : ℕ → ℕ → ℤ
signed w n = cond (nat_lt n (2 ^ (w - 1))) (pos n) (negsuc (2 ^ w - suc n))

-- a UInt folds where it is an i64
abbrev pub unsigned : ℕ → Folded
unsigned n = cond (nat_lt n (2 ^ 63)) (Some (Int (pos n))) None

-- the number in a field, where field 0 is the span
abbrev pub number : Rec → ℕ → ℕ
number r j = first (field_of r j)

-- the bytes of the text that the k-th entry of a list names
abbrev pub text_in : Image → Field → ℕ → List ℕ
text_in im list k = text_of im (entry_of im (first list + k))

-- the path std::res::NAME
unfoldable pub is_res_path : Image → Field → List ℕ → Bool
is_res_path im path name =
    (second path == 3)
    && same_text (text_in im path 0) (ascii "std")
    && same_text (text_in im path 1) (ascii "res")
    && same_text (text_in im path 2) name

-- a Call, by its path and its arguments
unfoldable pub call_form : Image → Field → Field → Form
call_form im path args =
    cond (second args == 1)
    (cond (is_res_path im path (ascii "is_err")) (IsErr (entry_of im (first args)))
    (cond (is_res_path im path (ascii "result_unwrap")) (ResultUnwrap (entry_of im (first args))) Other)) Other

unfoldable pub form_by : Image → Rec → Form
form_by im r =
    cond (r.kind == 16) Null
    (cond (r.kind == 17) (Literal (Some (Int (signed 64 (number r 1)))))
    (cond (r.kind == 18) (Literal (Some (Int (signed 32 (number r 1)))))
    (cond (r.kind == 19) (Literal (unsigned (number r 1)))
    (cond (r.kind == 20) (Literal (Some (Int (pos (number r 1)))))
    (cond (r.kind == 21) (Literal (Some (Int (pos (number r 1)))))
    (cond (r.kind == 22) (Literal (Some (Int (signed 8 (number r 1)))))
    (cond (r.kind == 23) (Literal (Some (Int (pos (number r 1)))))
    (cond (r.kind == 24) (Literal (Some (Int (signed 16 (number r 1)))))
    (cond (r.kind == 25) (Literal (Some (Str (number r 1))))
    (cond (r.kind == 26) (Literal (Some (Truth (number r 1 == 1))))
    (cond (r.kind == 27) (Literal (Some (Float (from_bits binary64 (number r 1)))))
    (cond (r.kind == 28) (Literal (Some (Float (from_bits binary32 (number r 1)))))
    (cond (r.kind == 30) (Identifier (number r 1))
    (cond (r.kind == 32) (Binary (number r 1) (number r 2) (number r 3))
    (cond (r.kind == 33) (Unary (number r 1) (number r 2))
    (cond (r.kind == 34) (Grouping (number r 1))
    (cond (r.kind == 39) (Assign (number r 1) (number r 2))
    (cond (r.kind == 41) (call_form im (field_of r 1) (field_of r 2))
    (cond (r.kind == 49) (OkLiteral (number r 1))
    (cond (r.kind == 50) (ErrLiteral (number r 1)) Other))))))))))))))))))))

abbrev pub form_of : Image → ℕ → Form
form_of im i = form_by im (record_of im Expressions i)

-- ---- the tree at an index

-- what `step` makes at an index of what is made at the smaller ones; d is for the others, which no accepted image has
abbrev pub below : {X : Type 0} → ℕ → (ℕ → X) → (ℕ → X) → ℕ → X
below i d g j = cond (nat_lt j i) (g j) (d j)

unfoldable pub descend_by : {X : Type 0} → (ℕ → X) → (ℕ → (ℕ → X) → X) → ℕ → ℕ → X
descend_by d step zero i = d i
descend_by d step (suc fuel) i = step i (below i d (descend_by d step fuel))

unfoldable pub descend : {X : Type 0} → (ℕ → X) → (ℕ → (ℕ → X) → X) → ℕ → X
descend d step i = descend_by d step (suc i) i

-- a form with the trees of its parts
abbrev pub tree_by : Image → Form → (ℕ → Expr ℕ) → Expr ℕ
tree_by im Null tree = null
tree_by im (Literal v) tree = literal (folded_of v)
tree_by im (Identifier t) tree = identifier t
tree_by im (Unary op n) tree = unary op (tree n)
tree_by im (Binary l op r) tree = binary (tree l) op (tree r)
tree_by im (Grouping n) tree = grouping (tree n)
tree_by im (Assign t n) tree = assign t (tree n)
tree_by im (OkLiteral n) tree = ok_literal (tree n)
tree_by im (ErrLiteral n) tree = err_literal (tree n)
tree_by im (IsErr n) tree = is_err (tree n)
tree_by im (ResultUnwrap n) tree = result_unwrap (tree n)
tree_by im Other tree = other

unfoldable pub expr_tree : Image → ℕ → Expr ℕ
expr_tree im = descend (λ _. other) (λ i tree. tree_by im (form_of im i) tree)

-- the condition of a branch, the message of a clause
abbrev pub optional_tree : Image → Optional → Option (Expr ℕ)
optional_tree im None = none
optional_tree im (Some n) = some (expr_tree im n)
