-- Small functions lowered, by computation: images whole or in the part that tells, those of marked cases 10 and 11 first.
-- Assumes nothing.
use Rattle.std.specs.Prelude.{◌≡◌, ℕ, true, false, List, [], ◌∷◌, map, drop, pos, refl}
use Prim.Native.String.{String}
use Rattle.std.proofs.Math.Option.{Option, none, some}
use Rattle.rl_spec.specs.declared.Section.{Section}
use Rattle.rl_spec.specs.declared.Section.TheVariants.{Texts, Lists, Expressions, Statements, Functions}
use Rattle.rl_spec.specs.Schema.{limits, sections, in_section, sort_of, fields_of, fields_in, schema}
use Rattle.rl_spec.specs.Utf8.{within, utf8_char, begins, width_by, char_width, octets, utf8}
use Rattle.rl_spec.specs.Bytes.{num_at, u16_at, u32_at, past}
use Rattle.rl_spec.specs.Fields.{zeros, kind_of_statement, allowed, child_height, entry_at, range_of, part_of, byte_in, operand_sort_of, refer_to, refer_or_none, entries_from as entriesHold, list_of, operand_of, value_of, field_at, fields_from, record_at}
use Rattle.rl_spec.specs.Read.{counts_of, counts_from, header_of, records_from, sections_from, end_of, body_of, read_of, answer_of, number_in}
use Rattle.rl_spec.specs.Image.{Field, num, pair, Rec, Image, records_of, entry_of, text_of, size_of, bytes_of, encode_fields, encode_record, encode_records, encode_sections, encode_counts, encode}
use Rattle.rl_spec.specs.Tree.{ascii, descend_by, descend, form_by, call_form, is_res_path, expr_tree}
use Rattle.rl_spec.specs.Records.{param_at, clause_at, function_at}
use Rattle.rl_spec.specs.Ranges.{up_from}
use Rattle.rl_spec.specs.FnContracts.{param_of, clause_of, contracts_of, any_refined}
use Rattle.rl_spec.specs.Message.{decimal_by, decimal}
use Rattle.rl_spec.specs.Make.{each, flat_map, append, append_bytes, made, new_text, new_list, stmt}
use Rattle.rl_spec.specs.Lower.{expr, ident, str_lit, err_lit, res_call, clone_entries, clone_fields, deep_clone_expr, violation, only_if, guard, declare, return_of, wrap_as, wrap_return, refine_predicate, transform_branch, transform_arm, transform_statement, wrap_trailing, desugar_fn_contracts, has_contracts, new_body, fitting, lowered_by, lowered}
use Rattle.rl_spec.specs.Values as value
use Rattle.rl_spec.specs.Values.{same_text, compare_values, bang}
use Rattle.rl_spec.specs.Fold.{unary_value, binary_value}
use Rattle.rl_spec.specs.Statement.{statement_by, item_tree}
use Rattle.rl_spec.specs.Run.{folded, Value, ok, folds, Outcome, returned, stopped, fault, spent, used, find, update, eval}
use Rattle.rl_spec.specs.Reading as reading
use Rattle.rl_spec.specs.Reading.{checks, turns, top, run_function}
use Rattle.rl_spec.specs.Mapped.{map_expr, map_stmt, map_body, map_branch, map_else}
use Rattle.rl_spec.specs.Functions.{refinement_checks, contract_function}
use Rattle.rl_examples.specs.MarkedImages.{bool, identifier, clause, text_bytes, text_records, build, flow}

-- ---- records

-- a record with the span 9, the function's
abbrev pub new : ℕ → List Field → Rec
new k fs = made k (num 9 ∷ fs)

-- body, requires, ensures; without parameters. 0 or 1 for the result flag.
abbrev pub function : ℕ → Field → Field → Field → Rec
function result body requires ensures =
    made 82 (num 0 ∷ num 9 ∷ pair 0 0 ∷ num result ∷ body ∷ requires ∷ ensures ∷ [])

-- texts, list entries, nodes, statements, clauses, and the one function
abbrev pub image : List String → List ℕ → List Rec → List Rec → List Rec → Rec → Image
image texts lists expressions statements clauses function =
    build
    record {
      texts = texts;
      lists = lists;
      expressions = expressions;
      statements = statements;
      parameters = [];
      clauses = clauses;
      functions = function ∷ [];
      calls = [];
    }

-- the kinds of a section
abbrev kinds : Section → Option Image → List ℕ
kinds o none = []
kinds o (some im) = map (λ (r : Rec). r.kind) (records_of im o)

-- what computation opens
unfoldable pub lowering : Unit {0}
unfolding text_bytes text_records ascii limits sort_of fields_of fields_in schema bytes_of encode_fields encode_record encode_records encode_sections encode_counts encode descend_by descend param_at clause_at function_at up_from param_of any_refined decimal_by decimal each flat_map append append_bytes new_text new_list stmt expr ident str_lit err_lit res_call clone_entries clone_fields deep_clone_expr violation only_if guard declare return_of wrap_as wrap_return refine_predicate transform_branch transform_arm transform_statement wrap_trailing desugar_fn_contracts has_contracts new_body fitting lowered_by
lowering = tt

-- ---- MARKED CASE 10: an Identifier as requires without message, empty plain body

abbrev pub requires_identifier : Image
requires_identifier =
    image
    ("f" ∷ "p" ∷ [])
    []
    (identifier 1 ∷ [])
    []
    (clause 0 65535 ∷ [])
    (function 0 (pair 0 0) (pair 0 1) (pair 0 0))

-- the whole image: the copy keeps its text and its span
abbrev pub requires_lowered : Image
requires_lowered =
    image
    ("f" ∷ "p" ∷ "requires violated" ∷ "std" ∷ "res" ∷ "result_unwrap" ∷ [])
    (3 ∷ 4 ∷ 5 ∷ 4 ∷ 0 ∷ 2 ∷ [])
    (identifier 1 ∷ new 25 (num 2 ∷ []) ∷ identifier 1 ∷ new 33 (num 5 ∷ num 2 ∷ []) ∷ new 50 (num 1 ∷ [])
    ∷ new 41 (pair 0 3 ∷ pair 3 1 ∷ []) ∷ [])
    (new 65 (num 5 ∷ []) ∷ new 69 (num 3 ∷ pair 4 1 ∷ num 0 ∷ []) ∷ new 68 (num 1 ∷ num 65535 ∷ []) ∷ [])
    (clause 0 65535 ∷ [])
    (function 0 (pair 5 1) (pair 0 1) (pair 0 0))

pub case10_whole : lowered requires_identifier 0 ≡ some requires_lowered
unfolding lowering
case10_whole = refl

-- ---- MARKED CASE 11: result function, one-node ensures without message, one kind 66

abbrev pub returns_ok : Image
returns_ok =
    image
    ("f" ∷ "ret" ∷ [])
    (0 ∷ [])
    (bool 1 ∷ made 49 (num 2 ∷ num 0 ∷ []) ∷ identifier 1 ∷ [])
    (made 66 (num 5 ∷ num 1 ∷ []) ∷ [])
    (clause 2 65535 ∷ [])
    (function 1 (pair 0 1) (pair 0 0) (pair 0 1))

-- 10 new nodes behind the three
abbrev pub returns_lowered : Image
returns_lowered =
    image
    ("f" ∷ "ret" ∷ "__ensure_ret_0" ∷ "__ensure_ret_0" ∷ "std" ∷ "res" ∷ "is_err" ∷ "__ensure_ret_0" ∷ "__ensure_ret_0"
    ∷ "std" ∷ "res" ∷ "result_unwrap" ∷ "ret" ∷ "ensures violated" ∷ "__ensure_ret_0" ∷ [])
    (0 ∷ 4 ∷ 5 ∷ 6 ∷ 3 ∷ 2 ∷ 9 ∷ 10 ∷ 11 ∷ 6 ∷ 6 ∷ 1 ∷ 4 ∷ 5 ∷ 8 ∷ 9 ∷ [])
    (bool 1 ∷ made 49 (num 2 ∷ num 0 ∷ []) ∷ identifier 1
    -- is_err(temp), the temp that is returned then, result_unwrap(temp)
    ∷ new 30 (num 3 ∷ []) ∷ new 41 (pair 1 3 ∷ pair 4 1 ∷ []) ∷ new 30 (num 7 ∷ []) ∷ new 30 (num 8 ∷ [])
    ∷ new 41 (pair 6 3 ∷ pair 9 1 ∷ [])
    -- the message, the copy, its negation, err(message), and the temp that is returned
    ∷ new 25 (num 13 ∷ []) ∷ identifier 1 ∷ new 33 (num 5 ∷ num 9 ∷ []) ∷ new 50 (num 8 ∷ []) ∷ new 30 (num 14 ∷ []) ∷ [])
    (made 66 (num 5 ∷ num 1 ∷ []) ∷ new 64 (num 2 ∷ num 0 ∷ num 1 ∷ num 0 ∷ []) ∷ new 66 (num 5 ∷ [])
    ∷ new 69 (num 4 ∷ pair 5 1 ∷ num 0 ∷ []) ∷ new 68 (num 3 ∷ num 65535 ∷ [])
    ∷ new 64 (num 12 ∷ num 0 ∷ num 7 ∷ num 0 ∷ []) ∷ new 66 (num 11 ∷ []) ∷ new 69 (num 10 ∷ pair 10 1 ∷ num 0 ∷ [])
    ∷ new 68 (num 7 ∷ num 65535 ∷ []) ∷ new 66 (num 12 ∷ []) ∷ [])
    (clause 2 65535 ∷ [])
    (function 1 (pair 11 5) (pair 0 0) (pair 0 1))

pub case11_whole : lowered returns_ok 0 ≡ some returns_lowered
unfolding lowering
case11_whole = refl

-- ---- a return alone inside a loop, and a bare last expression, which is numbered after it and comes ahead of it

abbrev pub loop_and_last : Image
loop_and_last =
    image
    ("f" ∷ "ret" ∷ [])
    (0 ∷ 1 ∷ 2 ∷ [])
    (bool 1 ∷ identifier 1 ∷ [])
    (made 67 (num 5 ∷ []) ∷ made 71 (num 6 ∷ pair 0 1 ∷ []) ∷ made 65 (num 7 ∷ num 0 ∷ []) ∷ [])
    (clause 1 0 ∷ [])
    (function 0 (pair 1 2) (pair 0 0) (pair 0 1))

-- the loop keeps its span; the clause's own message, node 0, is shared by both guards
abbrev pub loop_and_last_lowered : Image
loop_and_last_lowered =
    image
    ("f" ∷ "ret" ∷ "__ensure_ret_0" ∷ "__ensure_ret_0" ∷ "ret" ∷ "std" ∷ "res" ∷ "result_unwrap" ∷ "__ensure_ret_0"
    ∷ "__ensure_ret_1" ∷ "__ensure_ret_1" ∷ "ret" ∷ "std" ∷ "res" ∷ "result_unwrap" ∷ "__ensure_ret_1" ∷ [])
    (0 ∷ 1 ∷ 2 ∷ 5 ∷ 6 ∷ 7 ∷ 6 ∷ 5 ∷ 3 ∷ 4 ∷ 7 ∷ 8 ∷ 12 ∷ 13 ∷ 14 ∷ 12 ∷ 12 ∷ 10 ∷ 11 ∷ 14 ∷ 15 ∷ 9 ∷ [])
    (bool 1 ∷ identifier 1
    ∷ new 16 [] ∷ new 30 (num 3 ∷ []) ∷ identifier 1 ∷ new 33 (num 5 ∷ num 4 ∷ []) ∷ new 50 (num 0 ∷ [])
    ∷ new 41 (pair 3 3 ∷ pair 6 1 ∷ []) ∷ new 30 (num 8 ∷ [])
    ∷ new 30 (num 10 ∷ []) ∷ identifier 1 ∷ new 33 (num 5 ∷ num 10 ∷ []) ∷ new 50 (num 0 ∷ [])
    ∷ new 41 (pair 12 3 ∷ pair 15 1 ∷ []) ∷ new 30 (num 15 ∷ []) ∷ [])
    (made 67 (num 5 ∷ []) ∷ made 71 (num 6 ∷ pair 0 1 ∷ []) ∷ made 65 (num 7 ∷ num 0 ∷ [])
    ∷ new 64 (num 2 ∷ num 0 ∷ num 2 ∷ num 0 ∷ []) ∷ new 64 (num 4 ∷ num 0 ∷ num 3 ∷ num 0 ∷ []) ∷ new 65 (num 7 ∷ [])
    ∷ new 69 (num 5 ∷ pair 7 1 ∷ num 0 ∷ []) ∷ new 68 (num 6 ∷ num 65535 ∷ []) ∷ new 66 (num 8 ∷ [])
    ∷ made 71 (num 6 ∷ pair 8 4 ∷ [])
    ∷ new 64 (num 9 ∷ num 0 ∷ num 0 ∷ num 0 ∷ []) ∷ new 64 (num 11 ∷ num 0 ∷ num 9 ∷ num 0 ∷ []) ∷ new 65 (num 13 ∷ [])
    ∷ new 69 (num 11 ∷ pair 16 1 ∷ num 0 ∷ []) ∷ new 68 (num 13 ∷ num 65535 ∷ []) ∷ new 66 (num 14 ∷ []) ∷ [])
    (clause 1 0 ∷ [])
    (function 0 (pair 17 5) (pair 0 0) (pair 0 1))

pub loop_and_last_whole : lowered loop_and_last 0 ≡ some loop_and_last_lowered
unfolding lowering
loop_and_last_whole = refl

-- ---- more images. Statements, list entries and a body, under `ensures ret` with the message node 0

abbrev pub under_ensures : List Rec → List ℕ → Field → Image
under_ensures statements lists body =
    image
    ("f" ∷ "ret" ∷ [])
    lists
    (bool 1 ∷ identifier 1 ∷ [])
    statements
    (clause 1 0 ∷ [])
    (function 0 body (pair 0 0) (pair 0 1))

-- the statements of an image from the n-th on
abbrev pub statements_from : ℕ → Option Image → List Rec
statements_from n none = []
statements_from n (some im) = drop n (records_of im Statements)

-- a return in a conditional whose else branch is a conditional with a return
abbrev pub else_conditional_lem : Image
else_conditional_lem =
    under_ensures
    (made 66 (num 5 ∷ num 0 ∷ []) ∷ made 69 (num 6 ∷ num 0 ∷ pair 0 1 ∷ num 1 ∷ []) ∷ made 68 (num 7 ∷ num 1 ∷ num 65535 ∷ [])
    ∷ made 68 (num 8 ∷ num 1 ∷ num 2 ∷ []) ∷ [])
    (0 ∷ 3 ∷ []) (pair 1 1)

-- a return in either branch of a conditional, `if (false) { return false } else { return false }`
abbrev pub else_returns : Image
else_returns =
    image
    ("f" ∷ "ret" ∷ [])
    (0 ∷ 3 ∷ [])
    (bool 0 ∷ identifier 1 ∷ [])
    (made 66 (num 5 ∷ num 0 ∷ []) ∷ made 69 (num 6 ∷ num 0 ∷ pair 0 1 ∷ num 1 ∷ []) ∷ made 69 (num 7 ∷ num 65535 ∷ pair 0 1 ∷ num 1 ∷ [])
    ∷ made 68 (num 8 ∷ num 1 ∷ num 2 ∷ []) ∷ [])
    (clause 1 0 ∷ [])
    (function 0 (pair 1 1) (pair 0 0) (pair 0 1))

-- a match of two arms that share a return
abbrev pub two_arms : Image
two_arms =
    under_ensures
    (made 66 (num 5 ∷ num 0 ∷ []) ∷ made 76 (num 6 ∷ num 0 ∷ pair 0 1 ∷ []) ∷ made 76 (num 7 ∷ num 65535 ∷ pair 0 1 ∷ [])
    ∷ made 75 (num 8 ∷ num 1 ∷ pair 1 2 ∷ []) ∷ [])
    (0 ∷ 1 ∷ 2 ∷ 3 ∷ []) (pair 3 1)

-- the texts of an image from the n-th on
abbrev pub texts_from : ℕ → Option Image → List (List ℕ)
texts_from n none = []
texts_from n (some im) = map (text_of im) (drop n (up_from 0 (size_of im Texts)))

-- the nodes and the list entries of an image from the n-th on
abbrev pub nodes_from : ℕ → Option Image → List Rec
nodes_from n none = []
nodes_from n (some im) = drop n (records_of im Expressions)

abbrev pub entries_from : ℕ → Option Image → List ℕ
entries_from n none = []
entries_from n (some im) = map (entry_of im) (drop n (up_from 0 (size_of im Lists)))

-- a MapLiteral of an Identifier and a StructLiteral of the same Identifier and a Lambda (CopyExamples)
abbrev pub requires_map : Image
requires_map =
    image
    ("f" ∷ "a" ∷ "b" ∷ [])
    (1 ∷ 0 ∷ 2 ∷ 1 ∷ 0 ∷ 2 ∷ [])
    (identifier 1 ∷ made 56 (num 3 ∷ num 8 ∷ []) ∷ made 52 (num 4 ∷ num 0 ∷ pair 0 4 ∷ []) ∷ made 36 (num 5 ∷ pair 4 2 ∷ []) ∷ [])
    []
    (clause 3 0 ∷ [])
    (function 0 (pair 0 0) (pair 0 1) (pair 0 0))

-- without contracts
abbrev pub no_contracts : Image
no_contracts =
    image
    ("f" ∷ [])
    (0 ∷ [])
    (bool 1 ∷ [])
    (made 66 (num 5 ∷ num 0 ∷ []) ∷ [])
    []
    (function 1 (pair 0 1) (pair 0 0) (pair 0 0))

-- two functions, of which the second has a contract
abbrev pub two_functions : Image
two_functions =
    build
    record {
      texts = "f" ∷ [];
      lists = [];
      expressions = bool 0 ∷ [];
      statements = [];
      parameters = [];
      clauses = clause 0 0 ∷ [];
      functions = function 0 (pair 0 0) (pair 0 0) (pair 0 0) ∷ function 1 (pair 0 0) (pair 0 1) (pair 0 0) ∷ [];
      calls = [];
    }

abbrev functions_in : Option Image → List Rec
functions_in none = []
functions_in (some im) = records_of im Functions

-- ---- what is made of them, in the part that tells

pub record Lowerings : Type 0 where
  -- the else branch, statement 2, is left alone; the branch is rebuilt with needs_scope false
  pub else_left_alone : statements_from 4 (lowered else_conditional_lem 0)
      ≡ new 64 (num 2 ∷ num 0 ∷ num 0 ∷ num 0 ∷ []) ∷ new 64 (num 4 ∷ num 0 ∷ num 2 ∷ num 0 ∷ []) ∷ new 65 (num 6 ∷ [])
      ∷ new 69 (num 4 ∷ pair 6 1 ∷ num 0 ∷ []) ∷ new 68 (num 7 ∷ num 65535 ∷ []) ∷ new 66 (num 7 ∷ [])
      ∷ made 69 (num 6 ∷ num 0 ∷ pair 7 4 ∷ num 0 ∷ []) ∷ made 68 (num 8 ∷ num 10 ∷ num 2 ∷ []) ∷ []
  -- both branches are rebuilt
  pub else_rebuilt : statements_from 17 (lowered else_returns 0)
      ≡ made 69 (num 7 ∷ num 65535 ∷ pair 16 4 ∷ num 0 ∷ []) ∷ made 68 (num 8 ∷ num 10 ∷ num 17 ∷ []) ∷ []
  -- loops of each kind without a return: rebuilt, with their spans, texts, nodes and inner statement, and a list each; nothing else is new
  pub rebuilt_loops : lowered (under_ensures
      (made 77 (num 5 ∷ []) ∷ made 70 (num 6 ∷ num 0 ∷ pair 0 1 ∷ []) ∷ made 72 (num 7 ∷ num 0 ∷ num 0 ∷ num 1 ∷ pair 0 1 ∷ [])
      ∷ made 73 (num 8 ∷ num 1 ∷ num 0 ∷ pair 0 1 ∷ []) ∷ made 74 (num 9 ∷ num 1 ∷ num 0 ∷ pair 0 0 ∷ []) ∷ [])
      (0 ∷ 1 ∷ 2 ∷ 3 ∷ 4 ∷ []) (pair 1 4)) 0
      ≡ some (under_ensures
      (made 77 (num 5 ∷ []) ∷ made 70 (num 6 ∷ num 0 ∷ pair 0 1 ∷ []) ∷ made 72 (num 7 ∷ num 0 ∷ num 0 ∷ num 1 ∷ pair 0 1 ∷ [])
      ∷ made 73 (num 8 ∷ num 1 ∷ num 0 ∷ pair 0 1 ∷ []) ∷ made 74 (num 9 ∷ num 1 ∷ num 0 ∷ pair 0 0 ∷ [])
      ∷ made 70 (num 6 ∷ num 0 ∷ pair 5 1 ∷ []) ∷ made 72 (num 7 ∷ num 0 ∷ num 0 ∷ num 1 ∷ pair 6 1 ∷ [])
      ∷ made 73 (num 8 ∷ num 1 ∷ num 0 ∷ pair 7 1 ∷ []) ∷ made 74 (num 9 ∷ num 1 ∷ num 0 ∷ pair 8 0 ∷ []) ∷ [])
      (0 ∷ 1 ∷ 2 ∷ 3 ∷ 4 ∷ 0 ∷ 0 ∷ 0 ∷ 5 ∷ 6 ∷ 7 ∷ 8 ∷ []) (pair 8 4))
  -- each arm is finished before the next, and has a temporary of its own
  pub two_arms_kinds : kinds Statements (lowered two_arms 0)
      ≡ 66 ∷ 76 ∷ 76 ∷ 75 ∷ 64 ∷ 64 ∷ 65 ∷ 69 ∷ 68 ∷ 66 ∷ 76 ∷ 64 ∷ 64 ∷ 65 ∷ 69 ∷ 68 ∷ 66 ∷ 76 ∷ 75 ∷ []
  pub two_arms_rebuilt : statements_from 17 (lowered two_arms 0)
      ≡ made 76 (num 7 ∷ num 65535 ∷ pair 18 4 ∷ []) ∷ made 75 (num 8 ∷ num 1 ∷ pair 22 2 ∷ []) ∷ []
  pub two_arms_temporaries : texts_from 2 (lowered two_arms 0)
      ≡ map ascii ("__ensure_ret_0" ∷ "__ensure_ret_0" ∷ "ret" ∷ "std" ∷ "res" ∷ "result_unwrap" ∷ "__ensure_ret_0"
      ∷ "__ensure_ret_1" ∷ "__ensure_ret_1" ∷ "ret" ∷ "std" ∷ "res" ∷ "result_unwrap" ∷ "__ensure_ret_1" ∷ [])
  -- refinements, then requires: `flow >= 1` is made right operand first and copied left first
  pub flow_nodes : nodes_from 7 (lowered flow 0)
      ≡ made 17 (num 2 ∷ num 1 ∷ []) ∷ made 30 (num 2 ∷ num 3 ∷ []) ∷ made 32 (num 2 ∷ num 8 ∷ num 11 ∷ num 7 ∷ [])
      ∷ made 25 (num 2 ∷ num 4 ∷ [])
      ∷ made 30 (num 2 ∷ num 3 ∷ []) ∷ made 17 (num 2 ∷ num 1 ∷ []) ∷ made 32 (num 2 ∷ num 11 ∷ num 11 ∷ num 12 ∷ [])
      ∷ made 33 (num 2 ∷ num 5 ∷ num 13 ∷ []) ∷ made 50 (num 2 ∷ num 10 ∷ []) ∷ made 41 (num 2 ∷ pair 3 3 ∷ pair 6 1 ∷ [])
      ∷ made 30 (num 3 ∷ num 1 ∷ []) ∷ made 17 (num 3 ∷ num 4096 ∷ []) ∷ made 32 (num 3 ∷ num 17 ∷ num 8 ∷ num 18 ∷ [])
      ∷ made 33 (num 2 ∷ num 5 ∷ num 19 ∷ []) ∷ made 50 (num 2 ∷ num 3 ∷ []) ∷ made 41 (num 2 ∷ pair 8 3 ∷ pair 11 1 ∷ []) ∷ []
  pub flow_texts : texts_from 3 (lowered flow 0)
      ≡ map ascii ("flow" ∷ "refinement failed: flow >= 1" ∷ "std" ∷ "res" ∷ "result_unwrap" ∷ "std" ∷ "res" ∷ "result_unwrap" ∷ [])
  -- two guards, and the return as it was
  pub flow_body : entries_from 13 (lowered flow 0) ≡ 3 ∷ 6 ∷ 0 ∷ []
  -- without contracts the image is unchanged
  pub unchanged : lowered no_contracts 0 ≡ some no_contracts
  -- the other function stays, and this one keeps all but its body
  pub second_lowered : functions_in (lowered two_functions 1)
      ≡ function 0 (pair 0 0) (pair 0 0) (pair 0 0) ∷ function 1 (pair 1 1) (pair 0 1) (pair 0 0) ∷ []

-- THEOREM
pub lowerings_so : Lowerings
unfolding lowering
lowerings_so = record { else_left_alone = refl; else_rebuilt = refl; rebuilt_loops = refl; two_arms_kinds = refl; two_arms_rebuilt = refl; two_arms_temporaries = refl; flow_nodes = refl; flow_texts = refl; flow_body = refl; unchanged = refl; second_lowered = refl }

-- ---- what the reader and the runner make of them

unfoldable pub decoding : Unit {0}
unfolding answer_of read_of header_of counts_from counts_of body_of end_of sections_from sections records_from record_at in_section fields_from field_at value_of refer_to refer_or_none allowed kind_of_statement child_height entry_at entriesHold list_of range_of part_of byte_in operand_sort_of operand_of zeros past u16_at u32_at num_at utf8 octets char_width width_by begins utf8_char within
decoding = tt

-- the reader's number for a lowered image, 14 where there is none
abbrev pub read_by : Option Image → ℕ
read_by none = 14
read_by (some im) = number_in (answer_of (encode im) 8192)

abbrev pub lowerable : List Image
lowerable = requires_identifier ∷ returns_ok ∷ loop_and_last ∷ two_arms ∷ requires_map ∷ flow ∷ []

-- they are accepted
pub lowerable_accepted : map (λ im. read_by (lowered im 0)) lowerable ≡ 0 ∷ 0 ∷ 0 ∷ 0 ∷ 0 ∷ 0 ∷ []
unfolding lowering decoding
lowerable_accepted = refl

unfoldable pub running : Unit {0}
unfolding clause_of contracts_of same_text compare_values bang form_by call_form is_res_path expr_tree unary_value binary_value statement_by item_tree find update eval checks turns reading.stmt reading.body reading.branch_or reading.or_else top run_function reading.reading map_expr map_stmt map_body map_branch map_else refinement_checks contract_function
running = tt

-- the run of a function's body, and the reading of its contracts
abbrev pub run : Option Image → List (Value (List ℕ)) → ℕ → Outcome (List ℕ) × ℕ
run none vs budget = (fault 0, 0)
run (some im) vs budget = used budget (run_function (λ t. t) (contract_function im 0) vs budget)

abbrev pub read : Image → List (Value (List ℕ)) → ℕ → Outcome (List ℕ) × ℕ
read im vs budget = used budget (reading.reading (λ t. t) (ascii "ret") (contract_function im 0) vs budget)

abbrev int : ℕ → Value (List ℕ)
int n = folds (value.int (pos n))

abbrev said : String → Outcome (List ℕ)
said s = stopped (folded (value.str (ascii s)))

-- a function, values for its parameters, a budget; the outcome and the steps
pub record Case : Type 0 where
  pub image : Image
  pub values : List (Value (List ℕ))
  pub budget : ℕ
  pub outcome : Outcome (List ℕ) × ℕ

abbrev on : Image → List (Value (List ℕ)) → ℕ → Outcome (List ℕ) → ℕ → Case
on im vs budget o n = record { image = im; values = vs; budget = budget; outcome = (o, n) }

unfoldable pub cases : List Case
cases =
    on requires_identifier [] 1000 (fault 3) 3
    ∷ on returns_ok [] 1000 (returned (ok (folded (value.bool true)))) 14
    ∷ on returns_ok [] 10 spent 10
    ∷ on else_conditional_lem [] 1000 (returned (folds (value.bool true))) 11
    ∷ on else_returns [] 1000 (stopped (folded (value.bool false))) 13
    -- a refinement that fails, a requires that fails, and both hold
    ∷ on flow (int 0 ∷ []) 1000 (said "refinement failed: flow >= 1") 9
    ∷ on flow (int 5000 ∷ []) 1000 (said "flow id range") 14
    ∷ on flow (int 7 ∷ []) 1000 (returned (int 7)) 12
    ∷ []

-- the lowered bodies run so
pub runs_so : map (λ (c : Case). run (lowered c.image 0) c.values c.budget) cases ≡ map (λ (c : Case). c.outcome) cases
unfolding lowering running cases
runs_so = refl

-- and so are the originals' contracts read
pub reads_so : map (λ (c : Case). read c.image c.values c.budget) cases ≡ map (λ (c : Case). c.outcome) cases
unfolding lowering running cases
reads_so = refl
