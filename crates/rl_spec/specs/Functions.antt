-- The functions of an image: as the runner runs them, with texts by their indices, and as their contracts are read, with texts by
-- their bytes.
use Rattle.std.specs.Prelude.{ℕ, Bool, List, [], ◌∷◌, ◌++◌, map}
use Rattle.std.proofs.Math.Option.{Option, none, some}
use Rattle.rl_spec.specs.Image.{Image, text_of}
use Rattle.rl_spec.specs.Values as value
use Rattle.rl_spec.specs.Values.{RefineOp, gt, ge, lt, le, eq, ne}
use Rattle.rl_spec.specs.Tree.{Expr, literal, identifier, binary, ascii}
use Rattle.rl_spec.specs.Statement.{Body, body_tree}
use Rattle.rl_spec.specs.Ranges.{numbers_in}
use Rattle.rl_spec.specs.Records.{param_at, function_at}
use Rattle.rl_spec.specs.FnContracts.{RefineOperand, integer, str, bool, param, ParamRefinement, Param, ContractClause, FnContracts, clause_of, contracts_of}
use Rattle.rl_spec.specs.Run.{Value, Outcome, used}
use Rattle.rl_spec.specs.Reading.{Check, Function, reading}
use Rattle.rl_spec.specs.Mapped.{Text, map_value, map_body, map_clause, map_contracts}
use Rattle.rl_spec.specs.Message.{refinement_text}

-- ---- as the runner runs it: without its contracts

unfoldable pub plain_function : Image → ℕ → Function ℕ
plain_function im f =
    record {
      name = (function_at im f).name;
      params = map (λ i. (param_at im i).name) (numbers_in (function_at im f).params);
      is_result = (function_at im f).result;
      entry = [];
      ensures = [];
      body = body_tree im (function_at im f).body;
    }

-- ---- as its contracts are read

-- a text of the Rust's, one node
abbrev pub said : Text → Expr Text
said t = literal (some (value.str t))

-- the operator bytes of refinements
abbrev pub operator_of : RefineOp → ℕ
operator_of gt = 10
operator_of ge = 11
operator_of lt = 8
operator_of le = 9
operator_of eq = 6
operator_of ne = 7

abbrev pub operand_node : RefineOperand Text → Expr Text
operand_node (integer x) = literal (some (value.int x))
operand_node (str t) = literal (some (value.str t))
operand_node (bool b) = literal (some (value.bool b))
operand_node (param t) = identifier t

-- a refinement: comparison, the parameter's name, operand; its message is the Rust's text
abbrev pub refinement_check : Text → ParamRefinement Text → Check Text
refinement_check name r =
    record {
      condition = binary (identifier name) (operator_of r.op) (operand_node r.operand);
      message = said (refinement_text name (some r));
    }

abbrev pub check_first : Text → Option (ParamRefinement Text) → List (Check Text) → List (Check Text)
check_first name none rest = rest
check_first name (some r) rest = refinement_check name r ∷ rest

unfoldable pub refinement_checks : List (Param Text) → List (Check Text)
refinement_checks [] = []
refinement_checks (p ∷ ps) = check_first p.name p.refinement (refinement_checks ps)

-- a clause; a missing message is the Rust's text
abbrev pub message_or : Text → Option (Expr Text) → Expr Text
message_or default none = said default
message_or default (some e) = e

abbrev pub clause_check : Text → ContractClause Text → Check Text
clause_check default c = record { condition = c.condition; message = message_or default c.message }

-- its contracts, and the clauses that it ensures, with texts by their bytes
abbrev pub contracts_in : Image → ℕ → FnContracts Text
contracts_in im f = map_contracts (text_of im) (contracts_of im f)

abbrev pub ensured_in : Image → ℕ → List (ContractClause Text)
ensured_in im f = map (map_clause (text_of im)) (map (clause_of im) (numbers_in (function_at im f).ensured))

-- a function of this name, with these contracts, what it ensures, and its body
abbrev pub contracted : Text → Bool → FnContracts Text → List (ContractClause Text) → Body Text → Function Text
contracted name is_result c ensured body =
    record {
      name = name;
      params = map (λ p. p.name) c.params;
      is_result = is_result;
      entry = refinement_checks c.params ++ map (clause_check (ascii "requires violated")) c.requires;
      ensures = map (clause_check (ascii "ensures violated")) ensured;
      body = body;
    }

unfoldable pub contract_function : Image → ℕ → Function Text
contract_function im f =
    contracted (text_of im (function_at im f).name) (function_at im f).result (contracts_in im f) (ensured_in im f)
    (map_body (text_of im) (body_tree im (function_at im f).body))

-- THE CONTRACT READING of a function of an image, on values whose texts are the image's
unfoldable pub reading_in : Image → ℕ → List (Value ℕ) → ℕ → Outcome Text × ℕ
reading_in im f vs budget = used budget (reading (λ t. t) (ascii "ret") (contract_function im f) (map (map_value (text_of im)) vs) budget)
