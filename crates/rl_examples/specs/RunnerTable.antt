-- 01's "Runner", sentence by sentence, by computation: a row or more for each, the first ones in RunnerRows. Every row is tried with
-- every budget up to its steps, so that it is Spent exactly when the next charge would pass the budget.
-- Assumes nothing.
use Rattle.std.specs.Prelude.{◌≡◌, ℕ, true, false, List, [], ◌∷◌, ◌++◌, map, replicate, negsuc, refl}
use Rattle.std.specs.Float.Ieee.{of_bits, of_fields}
use Rattle.rl_spec.specs.Image.{num, pair, Rec, Image, text_of}
use Rattle.rl_spec.specs.Values as value
use Rattle.rl_spec.specs.Values.{same_text, compare_values, arith_values, bang, negate}
use Rattle.rl_spec.specs.Tree.{ascii, form_by, call_form, is_res_path, descend_by, descend, expr_tree}
use Rattle.rl_spec.specs.Ranges.{up_from}
use Rattle.rl_spec.specs.Records.{param_at, function_at}
use Rattle.rl_spec.specs.Fold.{unary_value, binary_value}
use Rattle.rl_spec.specs.Statement.{statement_by, item_tree}
use Rattle.rl_spec.specs.Run.{nothing, folded, Value, plain, ok, err, Outcome, returned, stopped, fault, used, find, update, eval}
use Rattle.rl_spec.specs.Reading.{turns, stmt, body, branch_or, or_else, top, run_function}
use Rattle.rl_spec.specs.Mapped.{Text, map_outcome}
use Rattle.rl_spec.specs.Functions.{plain_function}
use Rattle.rl_examples.specs.MarkedImages.{made, integer, uint, byte, character, string, bool, float, identifier, binary, unary, plus, minus, slash, less, text_bytes, text_records}
use Rattle.rl_examples.specs.FunctionRows.{x, y, no, from, null, number, assign, ok_literal, err_literal, call_of, is_err, result_unwrap, none, declare, bare, return_alone, conditional, branch, while, loop, break, continue, never, int, truth, str, returned_null, five, said, listed, Row, expected, ends_late}
use Rattle.rl_examples.specs.RunnerRows.{plainly, runs, node_of, node, half, first_rows}

-- ---- "Literals and operators mean what they fold to."

abbrev folding : List Row
folding =
    node (integer (negsuc 2) ∷ []) (returned (plain (folded (value.int (negsuc 2))))) 2
    -- SInt -3, UInt 5, Byte 5, SFloat 1.5
    ∷ node (made 18 (num 2 ∷ num 4294967293 ∷ []) ∷ []) (returned (plain (folded (value.int (negsuc 2))))) 2
    ∷ node (uint 5 ∷ []) (returned (int 5)) 2
    ∷ node (byte 5 ∷ []) (returned (int 5)) 2
    ∷ node (string no ∷ []) (returned (plain (said "no"))) 2
    ∷ node (bool 0 ∷ []) (returned (truth false)) 2
    ∷ node (bool 1 ∷ []) (returned (truth true)) 2
    ∷ node (float 0x3FF8000000000000 ∷ []) (returned half) 2
    ∷ node (made 28 (num 2 ∷ num 0x3FC00000 ∷ []) ∷ []) (returned half) 2
    ∷ node (uint 9223372036854775808 ∷ []) (fault 4) 2
    -- -7 / 2, 1 < 2, !true, -true
    ∷ node (integer (negsuc 6) ∷ number 2 ∷ binary 0 slash 1 ∷ []) (returned (plain (folded (value.int (negsuc 2))))) 4
    ∷ node (number 1 ∷ number 2 ∷ binary 0 less 1 ∷ []) (returned (truth true)) 4
    ∷ node (bool 1 ∷ unary 5 0 ∷ []) (returned (truth false)) 3
    ∷ node (bool 1 ∷ unary minus 0 ∷ []) (fault 4) 3
    ∷ []

-- ---- "Taken: what `const_eval` takes, Null, Assign (value, then name; gives the value), OkLiteral, ErrLiteral, Call of std, res,
-- is_err or result_unwrap on one argument; kinds 64 to 71 (69 only inside 68), 77, 78."

abbrev taken : List Row
taken =
    node (null ∷ []) returned_null 2
    -- x = 2; x = x + 1; y = Character 'a' and y = 2, where no y is
    ∷ node_of (int 1 ∷ []) (number 2 ∷ assign x 0 ∷ []) (returned (int 2)) 3
    ∷ node_of (int 1 ∷ []) (identifier x ∷ number 1 ∷ binary 0 plus 1 ∷ assign x 2 ∷ []) (returned (int 2)) 5
    ∷ node (character 97 ∷ assign y 0 ∷ []) (fault 1) 3
    ∷ node (number 2 ∷ assign y 0 ∷ []) (fault 3) 3
    -- x = (y = 5); x + y
    ∷ runs (int 1 ∷ int 2 ∷ []) (number 5 ∷ assign y 0 ∷ assign x 1 ∷ identifier x ∷ identifier y ∷ binary 3 plus 4 ∷ [])
    (bare 2 ∷ bare 5 ∷ []) 2 (returned (int 10)) 8
    ∷ node (number 5 ∷ ok_literal 0 ∷ []) (returned (ok five)) 3
    ∷ node (null ∷ ok_literal 0 ∷ []) (returned (ok nothing)) 3
    ∷ node (number 5 ∷ err_literal 0 ∷ []) (returned (err five)) 3
    ∷ node (number 5 ∷ ok_literal 0 ∷ is_err 1 ∷ []) (returned (truth false)) 4
    ∷ node (number 5 ∷ err_literal 0 ∷ is_err 1 ∷ []) (returned (truth true)) 4
    ∷ []

-- the other forms, of which no part is entered: Character, ResolvedIdentifier, ArrayLiteral,
-- MapLiteral, SetLiteral, TupleLiteral, ResolvedAssign, CallExpr, MethodCall, Index, IndexAssign, Cast, Is, ErrorLiteral, Propagate,
-- StructLiteral, FieldAccess, FieldAssign, EnumVariant, Lambda, ResolvedLambda; Calls of is_err on none and on two, of std::res, of
-- std::res::is_err and one more, of x::res::is_err, std::x::result_unwrap and std::res::x
abbrev other_nodes : List Rec
other_nodes =
    character 97 ∷ made 31 (num 2 ∷ num x ∷ num 0 ∷ num 0 ∷ [])
    ∷ made 35 (num 2 ∷ from 0 2 ∷ []) ∷ made 36 (num 2 ∷ from 0 2 ∷ []) ∷ made 37 (num 2 ∷ from 0 2 ∷ [])
    ∷ made 38 (num 2 ∷ from 0 2 ∷ [])
    ∷ made 40 (num 2 ∷ num x ∷ num 0 ∷ num 0 ∷ num 0 ∷ [])
    ∷ made 42 (num 2 ∷ num 0 ∷ from 0 1 ∷ []) ∷ made 43 (num 2 ∷ num 0 ∷ from 0 1 ∷ from 0 1 ∷ [])
    ∷ made 44 (num 2 ∷ num 0 ∷ num 1 ∷ []) ∷ made 45 (num 2 ∷ num 0 ∷ num 1 ∷ num 1 ∷ [])
    ∷ made 46 (num 2 ∷ num 0 ∷ num 0 ∷ []) ∷ made 47 (num 2 ∷ num 0 ∷ num 0 ∷ [])
    ∷ made 48 (num 2 ∷ num 0 ∷ []) ∷ made 51 (num 2 ∷ num 0 ∷ [])
    ∷ made 52 (num 2 ∷ num x ∷ from 0 2 ∷ []) ∷ made 53 (num 2 ∷ num 0 ∷ num x ∷ []) ∷ made 54 (num 2 ∷ num 0 ∷ num x ∷ num 1 ∷ [])
    ∷ made 55 (num 2 ∷ num x ∷ num y ∷ []) ∷ made 56 (num 2 ∷ num 0 ∷ []) ∷ made 57 (num 2 ∷ num 0 ∷ [])
    ∷ call_of (pair 0 3) (from 0 0) ∷ call_of (pair 0 3) (from 0 2)
    ∷ call_of (pair 0 2) (from 0 1) ∷ call_of (pair 0 4) (from 0 1)
    ∷ call_of (pair 6 3) (from 0 1) ∷ call_of (pair 9 3) (from 0 1) ∷ call_of (pair 12 3) (from 0 1)
    ∷ []

-- For, ForRange, ForEach, Match, any other, and a 69 among statements
abbrev other_statements : List Rec
other_statements =
    made 72 (num 3 ∷ num 0 ∷ num 0 ∷ num 0 ∷ from 0 1 ∷ [])
    ∷ made 73 (num 3 ∷ num x ∷ num 0 ∷ from 0 1 ∷ [])
    ∷ made 74 (num 3 ∷ num x ∷ num 0 ∷ from 0 1 ∷ [])
    ∷ made 75 (num 3 ∷ num 0 ∷ from 1 1 ∷ [])
    ∷ never
    ∷ branch none (from 0 1)
    ∷ []

abbrev not_taken : List Row
not_taken =
    map (λ r. node_of (ok five ∷ []) (identifier x ∷ number 1 ∷ r ∷ []) (fault 1) 2) other_nodes
    ++ map (λ r. runs [] (bool 1 ∷ []) (return_alone ∷ made 76 (num 3 ∷ num none ∷ from 0 1 ∷ []) ∷ r ∷ []) 1 (fault 1) 1)
    other_statements

-- ---- "Unwrapping Ok(m) gives m, Err(m) stops the run with m."

abbrev unwrapping : List Row
unwrapping =
    node (number 5 ∷ ok_literal 0 ∷ result_unwrap 1 ∷ []) (returned (int 5)) 4
    ∷ node (null ∷ ok_literal 0 ∷ result_unwrap 1 ∷ []) returned_null 4
    ∷ node (string no ∷ err_literal 0 ∷ result_unwrap 1 ∷ []) (stopped (said "no")) 4
    ∷ node (null ∷ err_literal 0 ∷ result_unwrap 1 ∷ []) (stopped nothing) 4
    -- while true { unwrap(x) }, where x is an Err
    ∷ runs (err five ∷ []) (identifier x ∷ result_unwrap 0 ∷ bool 1 ∷ [])
    (bare 1 ∷ while 2 (from 0 1) ∷ never ∷ []) 2 (stopped five) 6
    ∷ []

-- ---- "Faults: 1 form not taken, or Break or Continue outside a loop;"

abbrev outside : Rec → List Row
outside s =
    runs [] [] (s ∷ []) 1 (fault 1) 1
    ∷ runs [] [] (s ∷ never ∷ []) 2 (fault 1) 1
    -- in a branch, and behind a loop
    ∷ runs [] [] (s ∷ branch none (from 0 1) ∷ conditional 1 none ∷ never ∷ []) 2 (fault 1) 2
    ∷ runs [] [] (break ∷ loop (from 0 1) ∷ s ∷ []) 2 (fault 1) 4
    ∷ []

-- ---- "2 wrong sort (branch or while condition not Bool, is_err or unwrap of a plain value, Ok or Err of an Ok or Err);"

-- if x {}; if false {} else x {}; if false {} else if x {}; while x {}
abbrev conditions : Value ℕ → List Row
conditions v =
    runs (v ∷ []) (identifier x ∷ []) (branch 0 (from 0 0) ∷ conditional 0 none ∷ []) 1 (fault 2) 2
    ∷ runs (v ∷ []) (bool 0 ∷ identifier x ∷ [])
    (branch 0 (from 0 0) ∷ branch 1 (from 0 0) ∷ conditional 0 1 ∷ []) 1 (fault 2) 3
    ∷ runs (v ∷ []) (bool 0 ∷ identifier x ∷ [])
    (branch 0 (from 0 0) ∷ branch 1 (from 0 0) ∷ conditional 1 none ∷ conditional 0 2 ∷ []) 1 (fault 2) 3
    ∷ runs (v ∷ []) (identifier x ∷ []) (while 0 (from 0 0) ∷ []) 1 (fault 2) 3
    ∷ []

abbrev wrong_sort : List Row
wrong_sort =
    conditions (int 1) ++ conditions half ++ conditions (str no) ++ conditions (plain nothing)
    ++ conditions (ok (folded (value.bool true))) ++ conditions (err (folded (value.bool true)))
    ++ map (λ v. node_of (v ∷ []) (identifier x ∷ is_err 0 ∷ []) (fault 2) 3) (int 5 ∷ plain nothing ∷ [])
    ++ map (λ v. node_of (v ∷ []) (identifier x ∷ result_unwrap 0 ∷ []) (fault 2) 3) (int 5 ∷ plain nothing ∷ [])
    ++ map (λ v. node_of (v ∷ []) (identifier x ∷ ok_literal 0 ∷ []) (fault 2) 3) (ok five ∷ err five ∷ [])
    ++ map (λ v. node_of (v ∷ []) (identifier x ∷ err_literal 0 ∷ []) (fault 2) 3) (ok five ∷ err five ∷ [])

-- ---- "3 unknown name; 4 no value;"

-- -x, !x, x + 1, 1 + x
abbrev no_value : Value ℕ → List Row
no_value v =
    node_of (v ∷ []) (identifier x ∷ unary minus 0 ∷ []) (fault 4) 3
    ∷ node_of (v ∷ []) (identifier x ∷ unary 5 0 ∷ []) (fault 4) 3
    ∷ node_of (v ∷ []) (identifier x ∷ number 1 ∷ binary 0 plus 1 ∷ []) (fault 4) 4
    ∷ node_of (v ∷ []) (identifier x ∷ number 1 ∷ binary 1 plus 0 ∷ []) (fault 4) 4
    ∷ []

abbrev faults : List Row
faults =
    node (identifier x ∷ []) (fault 3) 2
    -- x; let x = 1, and let x = x
    ∷ runs [] (identifier x ∷ number 1 ∷ []) (bare 0 ∷ declare x 1 ∷ []) 2 (fault 3) 2
    ∷ runs [] (identifier x ∷ []) (declare x 0 ∷ []) 1 (fault 3) 2
    -- 7 / 0; 1 + "no"; an operator of other tokens
    ∷ node (number 7 ∷ number 0 ∷ binary 0 slash 1 ∷ []) (fault 4) 4
    ∷ node (number 1 ∷ string no ∷ binary 0 plus 1 ∷ []) (fault 4) 4
    ∷ node (number 1 ∷ binary 0 12 0 ∷ []) (fault 4) 4
    ∷ no_value (plain nothing) ++ no_value (ok five) ++ no_value (err five)

-- ---- "5 more than 128 bindings."

-- the body by the numbers of its statements
abbrev long : List (Value ℕ) → List Rec → List ℕ → Outcome Text → ℕ → Row
long vs statements list o u = ends_late (listed (plainly vs) (number 1 ∷ []) statements list) vs o u

abbrev bindings : List Row
bindings =
    long [] (declare x 0 ∷ []) (replicate 128 0) returned_null 256
    ∷ long [] (declare x 0 ∷ []) (replicate 129 0) (fault 5) 258
    -- a parameter is one
    ∷ long (int 1 ∷ []) (declare x 0 ∷ []) (replicate 127 0) returned_null 254
    ∷ long (int 1 ∷ []) (declare x 0 ∷ []) (replicate 128 0) (fault 5) 256
    -- those of a scope that is left are none
    ∷ long []
    (declare x 0 ∷ branch none (from 0 1) ∷ conditional 1 none ∷ []) (replicate 127 0 ++ replicate 3 2 ++ 0 ∷ []) returned_null 265
    ∷ []

-- ---- "A last top-level bare expression gives the value; otherwise the end gives Null."

abbrev lasts : List Row
lasts =
    runs [] [] [] 0 returned_null 0
    ∷ node (number 5 ∷ []) (returned (int 5)) 2
    ∷ runs [] (number 1 ∷ number 5 ∷ []) (bare 0 ∷ bare 0 ∷ bare 1 ∷ []) 3 (returned (int 5)) 6
    -- 5; let x = 5
    ∷ runs [] (number 5 ∷ []) (bare 0 ∷ declare x 0 ∷ []) 2 returned_null 4
    -- if { 5 }; loop { 5; break }
    ∷ runs [] (number 5 ∷ []) (bare 0 ∷ branch none (from 0 1) ∷ conditional 1 none ∷ []) 1 returned_null 3
    ∷ runs [] (number 5 ∷ []) (bare 0 ∷ break ∷ loop (from 0 2) ∷ []) 1 returned_null 5
    ∷ []

-- ---- "Outcome: Returned, Stopped, Fault or Spent, with the steps used. Spent exactly when the next charge would pass the budget."

unfoldable pub rows : List Row
rows =
    first_rows ++ folding ++ taken ++ not_taken ++ unwrapping ++ outside break ++ outside continue ++ wrong_sort ++ faults ++ bindings
    ++ lasts

abbrev with_bytes : Image → Outcome ℕ × ℕ → Outcome Text × ℕ
with_bytes im e = (map_outcome (text_of im) e.0, e.1)

abbrev pub ran : Row → ℕ → Outcome Text × ℕ
ran r b = with_bytes r.image (used b (run_function (text_of r.image) (plain_function r.image r.function) r.values b))

-- THEOREM: each of them ends so
pub runs_end_so : map (λ r. map (ran r) r.budgets) rows ≡ map (λ r. map (expected r) r.budgets) rows
unfolding rows first_rows text_bytes text_records ascii up_from form_by call_form is_res_path descend_by descend expr_tree statement_by item_tree param_at function_at plain_function run_function turns top stmt body branch_or or_else eval find update same_text unary_value binary_value bang negate compare_values arith_values of_bits of_fields
runs_end_so = refl
