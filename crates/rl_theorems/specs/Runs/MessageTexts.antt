-- The text of a report goes by the bytes of the parameter or the clause that it names, whatever their numbers are in the image.
-- Assumes nothing.
use Rattle.std.specs.Prelude.{◌≡◌, ℕ, ◌+◌}
use Rattle.std.proofs.Math.Path.{refl, ap}
use Rattle.std.proofs.Common.{sym}
use Rattle.std.proofs.Math.Option.{Option, none, some, map}
use Rattle.rl_spec.specs.declared.Violation.TheVariants.{Refinement, Requires}
use Rattle.rl_spec.specs.Image.{Image, text_of}
use Rattle.rl_spec.specs.Values as value
use Rattle.rl_spec.specs.Values.{ConstVal}
use Rattle.rl_spec.specs.Tree.{Expr, null, literal, identifier, unary, binary, grouping, assign, ok_literal, err_literal, is_err, result_unwrap, other, ascii}
use Rattle.rl_spec.specs.Records.{function_at}
use Rattle.rl_spec.specs.FnContracts.{ContractClause, param_of, clause_of}
use Rattle.rl_spec.specs.Mapped.{Text, map_const, map_expr, map_param, map_clause}
use Rattle.rl_spec.specs.Message.{param_text, string_of, string_in, own_string, or_default, message_by}

module _ {A B : Type 0} (f : A → B) where
  string_of_lem : (v : Option (ConstVal A)) → string_of (map (map_const f) v) ≡ map f (string_of v)
  string_of_lem none = refl
  string_of_lem (some (value.int x)) = refl
  string_of_lem (some (value.float x)) = refl
  string_of_lem (some (value.str x)) = refl
  string_of_lem (some (value.bool x)) = refl

  string_in_lem : (e : Expr A) → string_in (map_expr f e) ≡ map f (string_in e)
  unfolding map_expr
  string_in_lem null = refl
  string_in_lem (literal v) = string_of_lem v
  string_in_lem (identifier x) = refl
  string_in_lem (unary op e) = refl
  string_in_lem (binary l op r) = refl
  string_in_lem (grouping e) = refl
  string_in_lem (assign x e) = refl
  string_in_lem (ok_literal e) = refl
  string_in_lem (err_literal e) = refl
  string_in_lem (is_err e) = refl
  string_in_lem (result_unwrap e) = refl
  string_in_lem other = refl

  pub own_mapped : (m : Option (Expr A)) → own_string (map (map_expr f) m) ≡ map f (own_string m)
  own_mapped none = refl
  own_mapped (some e) = string_in_lem e

-- a requires' own text, or the default text
abbrev pub clause_text : ContractClause Text → Text
clause_text c = or_default (own_string c.message) (ascii "requires violated")

module _ (im : Image) (f n : ℕ) where
  pub refinement_text_lem : message_by im f (Refinement n) ≡ param_text (map_param (text_of im) (param_of im ((function_at im f).params.first + n)))
  unfolding message_by
  refinement_text_lem = refl

  pub requires_text : message_by im f (Requires n) ≡ clause_text (map_clause (text_of im) (clause_of im ((function_at im f).required.first + n)))
  unfolding message_by clause_of
  requires_text = ap (λ o. or_default o (ascii "requires violated")) (sym (own_mapped (text_of im) (clause_of im ((function_at im f).required.first + n)).message))
