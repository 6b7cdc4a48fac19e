-- The height of a tree: 1 without parts, else 1 more than the largest of its parts.
-- Assumes nothing.
use Rattle.std.specs.Prelude.{ℕ, suc, max}
use Rattle.rl_spec.specs.Tree.{Expr, null, literal, identifier, unary, binary, grouping, assign, ok_literal, err_literal, is_err, result_unwrap, other}

unfoldable pub expr_height : {T : Type 0} → Expr T → ℕ
expr_height null = 1
expr_height (literal v) = 1
expr_height (identifier t) = 1
expr_height (unary op e) = suc (expr_height e)
expr_height (binary l op r) = suc (max (expr_height l) (expr_height r))
expr_height (grouping e) = suc (expr_height e)
expr_height (assign t e) = suc (expr_height e)
expr_height (ok_literal e) = suc (expr_height e)
expr_height (err_literal e) = suc (expr_height e)
expr_height (is_err e) = suc (expr_height e)
expr_height (result_unwrap e) = suc (expr_height e)
expr_height other = 1
