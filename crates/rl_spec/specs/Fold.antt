-- `const_eval` of rl-checker's contracts.rs on trees, and what folding answers.
use Rattle.std.specs.Prelude.{ℕ, Bool, cond, List, [], ◌∷◌, replicate, ◌==◌, nat_lt, Ok, Err}
use Rattle.std.proofs.Math.Option.{Option, none, some}
use Rattle.rl_spec.specs.declared.Id.{Id}
use Rattle.rl_spec.specs.Answers.{Answer, refused, FoldAnswer}
use Rattle.rl_spec.specs.declared.Cause.TheVariants.{OtherArena, NoSuchNode}
use Rattle.rl_spec.specs.Read.{number_of, answer_of, work_of}
use Rattle.rl_spec.specs.Image.{text_of, image_of}
use Rattle.rl_spec.specs.Values.{ConstVal, bool, gt, ge, lt, le, eq, ne, plus, minus, star, slash, same_text, compare_values, arith_values, bang, negate}
use Rattle.rl_spec.specs.Folded.{as_folded}
use Rattle.rl_spec.specs.Tree.{Expr, null, literal, identifier, unary, binary, grouping, assign, ok_literal, err_literal, is_err, result_unwrap, other, expr_tree}

-- a verdict as a value
abbrev pub boolean : {T : Type 0} → Option Bool → Option (ConstVal T)
boolean none = none
boolean (some b) = some (bool b)

-- ---- operators by their bytes

-- 5 Bang, 2 Minus
unfoldable pub unary_value : {T : Type 0} → ℕ → ConstVal T → Option (ConstVal T)
unary_value op v = cond (op == 5) (bang v) (cond (op == 2) (negate v) none)

-- an operand without a value leaves none
unfoldable pub unary_folded : {T : Type 0} → ℕ → Option (ConstVal T) → Option (ConstVal T)
unary_folded op none = none
unary_folded op (some v) = unary_value op v

-- the names that are bound, the latest first
pub record Binding (T : Type 0) : Type 0 where
  pub name : T
  pub value : ConstVal T

module _ {T : Type 0} (bytes : T → List ℕ) where
  -- 6 Compare, 7 BangEqual, 8 Less, 9 LessEqual, 10 Greater, 11 GreaterEqual, 1 Plus, 2 Minus, 3 Star, 4 Slash
  unfoldable pub binary_value : ℕ → ConstVal T → ConstVal T → Option (ConstVal T)
  binary_value op a b =
      cond (op == 6) (boolean (compare_values bytes eq a b))
      (cond (op == 7) (boolean (compare_values bytes ne a b))
      (cond (op == 8) (boolean (compare_values bytes lt a b))
      (cond (op == 9) (boolean (compare_values bytes le a b))
      (cond (op == 10) (boolean (compare_values bytes gt a b))
      (cond (op == 11) (boolean (compare_values bytes ge a b))
      (cond (op == 1) (arith_values plus a b)
      (cond (op == 2) (arith_values minus a b)
      (cond (op == 3) (arith_values star a b) (cond (op == 4) (arith_values slash a b) none)))))))))

  unfoldable pub binary_folded : ℕ → Option (ConstVal T) → Option (ConstVal T) → Option (ConstVal T)
  binary_folded op none b = none
  binary_folded op (some x) none = none
  binary_folded op (some x) (some y) = binary_value op x y

  -- names are compared by their bytes
  unfoldable pub lookup : List (Binding T) → T → Option (ConstVal T)
  lookup [] x = none
  lookup (b ∷ env) x = cond (same_text (bytes b.name) (bytes x)) (some b.value) (lookup env x)

  unfoldable pub const_eval : List (Binding T) → Expr T → Option (ConstVal T)
  const_eval env null = none
  const_eval env (literal v) = v
  const_eval env (identifier x) = lookup env x
  const_eval env (unary op e) = unary_folded op (const_eval env e)
  const_eval env (binary l op r) = binary_folded op (const_eval env l) (const_eval env r)
  const_eval env (grouping e) = const_eval env e
  const_eval env (assign x e) = none
  const_eval env (ok_literal e) = none
  const_eval env (err_literal e) = none
  const_eval env (is_err e) = none
  const_eval env (result_unwrap e) = none
  const_eval env other = none

-- ---- THE ANSWER: reading first, then 15 another arena, 16 no such node; folding alone knows no names

abbrev pub fold_by : List ℕ → Id → Answer → FoldAnswer
fold_by s id (Ok h) =
    cond (id.arena.0 == h.arena.0)
    (cond (nat_lt id.node.0 h.counts.expressions)
    (Ok (as_folded (const_eval (text_of (image_of s)) [] (expr_tree (image_of s) id.node.0))))
    (refused NoSuchNode 0))
    (refused OtherArena 0)
fold_by s id (Err r) = Err r

unfoldable pub fold_of : List ℕ → ℕ → Id → FoldAnswer
fold_of s k id = fold_by s id (answer_of s k)

abbrev pub fold_number : FoldAnswer → ℕ
fold_number (Ok v) = 0
fold_number (Err r) = number_of r.cause

-- the work slice: as reading leaves it, and zero where something is refused by a number
abbrev pub work_unless : ℕ → List ℕ → ℕ → List ℕ
work_unless number s k = cond (number == 0) (work_of s k) (replicate k 0)
