-- An item with its texts mapped is the statement, the branch or the else branch that it was, mapped.
-- Assumes nothing.
use Rattle.std.specs.Prelude.{◌≡◌}
use Rattle.std.proofs.Math.Path.{refl}
use Rattle.rl_spec.specs.Statement.{declaration, expression, return, return_alone, conditional, while, loop, break, continue, other_statement, Item, a_statement, a_branch, as_statement, as_branch, as_else}
use Rattle.rl_spec.specs.Mapped.{map_stmt, map_branch, map_else, map_item}

module _ {A B : Type 0} (f : A → B) where
  pub statement_mapped : (x : Item A) → map_stmt f (as_statement x) ≡ as_statement (map_item f x)
  unfolding map_stmt
  statement_mapped (a_statement s) = refl
  statement_mapped (a_branch b) = refl

  pub branch_mapped : (x : Item A) → map_branch f (as_branch x) ≡ as_branch (map_item f x)
  unfolding map_stmt
  branch_mapped (a_statement s) = refl
  branch_mapped (a_branch b) = refl

  pub else_mapped : (x : Item A) → map_else f (as_else x) ≡ as_else (map_item f x)
  unfolding map_stmt
  else_mapped (a_statement (declaration x e)) = refl
  else_mapped (a_statement (expression e)) = refl
  else_mapped (a_statement (return e)) = refl
  else_mapped (a_statement return_alone) = refl
  else_mapped (a_statement (conditional b e)) = refl
  else_mapped (a_statement (while e b)) = refl
  else_mapped (a_statement (loop b)) = refl
  else_mapped (a_statement break) = refl
  else_mapped (a_statement continue) = refl
  else_mapped (a_statement other_statement) = refl
  else_mapped (a_branch b) = refl
