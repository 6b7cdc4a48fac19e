-- 01's "Contract reading", sentence by sentence, by computation: a row or more for each. Every row is tried with every budget up to
-- its steps, so that a charge of several is that many of 1.
-- Assumes nothing.
use Rattle.std.specs.Prelude.{◌≡◌, ℕ, Bool, true, false, not, List, [], ◌∷◌, ◌++◌, map, replicate, pos, nat_lt, refl}
use Rattle.std.specs.Float.Ieee.{of_bits, of_fields}
use Rattle.rl_spec.specs.Image.{num, pair, Rec, Image, text_of}
use Rattle.rl_spec.specs.Values as value
use Rattle.rl_spec.specs.Values.{same_text, compare_values, arith_values, bang, negate}
use Rattle.rl_spec.specs.Tree.{ascii, form_by, call_form, is_res_path, descend_by, descend, expr_tree}
use Rattle.rl_spec.specs.Ranges.{up_from}
use Rattle.rl_spec.specs.Records.{param_at, clause_at, function_at}
use Rattle.rl_spec.specs.FnContracts.{param_of, clause_of, contracts_of}
use Rattle.rl_spec.specs.Fold.{unary_value, binary_value}
use Rattle.rl_spec.specs.Statement.{statement_by, item_tree}
use Rattle.rl_spec.specs.Run.{nothing, folded, Value, plain, ok, err, Outcome, returned, stopped, fault, Result, got, ended, find, update, eval}
use Rattle.rl_spec.specs.Reading.{checks, turns, stmt, body, branch_or, or_else, top, entering, reading}
use Rattle.rl_spec.specs.Message.{decimal_by, decimal}
use Rattle.rl_spec.specs.Mapped.{Text, map_value, map_expr, map_stmt, map_body, map_branch, map_else}
use Rattle.rl_spec.specs.Functions.{refinement_checks, contract_function, reading_in}
use Rattle.rl_examples.specs.MarkedImages.{made, string, bool, identifier, binary, plus, compare, parameter, refined, clause, function, build, text_bytes, text_records}
use Rattle.rl_examples.specs.FunctionRows.{x, y, ret, no, temporary, from, null, number, assign, ok_literal, err_literal, none, declare, bare, return, return_alone, conditional, branch, while, loop, int, truth, str, returned_null, five, said, contract, of, listed, Row, expected, ends, ends_late, of_function}
use Rattle.rl_examples.specs.RunnerRows.{half, first_rows}
use Rattle.rl_examples.specs.RunnerTable as RunnerTable

-- ---- rows

-- checks at entry: 0 or 1 for a result function, parameters, requires, values, nodes. The body is empty
abbrev entry : ℕ → List Rec → List Rec → List (Value ℕ) → List Rec → Outcome Text → ℕ → Row
entry result params requires vs nodes o u = ends (of (contract result params requires []) nodes [] 0) vs o u

-- ensures, without parameters: the last n statements are the body
abbrev ensured : ℕ → List Rec → List Rec → List Rec → ℕ → Outcome Text → ℕ → Row
ensured result ensures nodes statements n o u = ends (of (contract result [] [] ensures) nodes statements n) [] o u

-- ---- "first each refinement (3 nodes: comparison, the parameter's name looked up like any other, operand), then each requires, is
-- *checked*: charge 2, condition;"

-- x > 0; x > y
abbrev positive : ℕ → Rec
positive t = refined t 1 (pos 0)

abbrev above : Rec
above = made 80 (num x ∷ num 0 ∷ num 1 ∷ num 4 ∷ num y ∷ [])

-- checks that hold
abbrev pub held : List Row
held =
    entry 0 [] [] [] [] returned_null 0
    ∷ entry 0 (parameter x ∷ []) [] (int 0 ∷ []) [] returned_null 0
    ∷ entry 0 (positive x ∷ []) [] (int 5 ∷ []) [] returned_null 5
    ∷ entry 0 (positive x ∷ positive y ∷ []) [] (int 5 ∷ int 5 ∷ []) [] returned_null 10
    ∷ entry 0 (above ∷ parameter y ∷ []) [] (int 2 ∷ int 1 ∷ []) [] returned_null 5
    -- the latest x
    ∷ entry 0 (positive x ∷ parameter x ∷ []) [] (int 0 ∷ int 5 ∷ []) [] returned_null 5
    -- requires true; the message is not evaluated. requires x; requires (x = true) and x
    ∷ entry 0 [] (clause 0 1 ∷ []) [] (bool 1 ∷ identifier y ∷ []) returned_null 3
    ∷ entry 0 (parameter x ∷ []) (clause 0 none ∷ []) (truth true ∷ []) (identifier x ∷ []) returned_null 3
    ∷ entry 0 (parameter x ∷ []) (clause 1 none ∷ clause 2 none ∷ []) (truth false ∷ []) (bool 1 ∷ assign x 0 ∷ identifier x ∷ [])
    returned_null 7
    ∷ entry 1 (positive x ∷ []) (clause 0 none ∷ clause 0 none ∷ []) (int 5 ∷ []) (bool 1 ∷ []) returned_null 11
    ∷ []

-- "not Bool is fault 4;" a condition without a value, and one that faults
abbrev not_bool : List Row
not_bool =
    map (λ v. entry 0 (parameter x ∷ []) (clause 0 none ∷ []) (v ∷ []) (identifier x ∷ []) (fault 4) 3)
    (int 1 ∷ half ∷ str no ∷ plain nothing ∷ ok (folded (value.bool true)) ∷ err (folded (value.bool true)) ∷ [])
    ++ entry 1 (parameter x ∷ []) (clause 0 none ∷ []) (int 1 ∷ []) (identifier x ∷ []) (fault 4) 3
    ∷ entry 0 (positive x ∷ []) [] (str no ∷ []) [] (fault 4) 5
    ∷ entry 0 (above ∷ []) [] (int 2 ∷ []) [] (fault 3) 5
    ∷ entry 0 [] (clause 0 none ∷ []) [] (identifier y ∷ []) (fault 3) 3
    ∷ []

-- ---- "false charges 3, evaluates the message and stops with it, or in a result function charges 2 and returns Err of it; in both
-- a message that is an Ok or Err is fault 2. A refinement's message, or a missing one, is the Rust's text, one node."

-- requires false, the node 0, with the node n for its message or none
abbrev refused : ℕ → List (Value ℕ) → List Rec → ℕ → Outcome Text → ℕ → Row
refused result vs nodes n o u = entry result (parameter x ∷ []) (clause 0 n ∷ []) vs (bool 0 ∷ nodes) o u

abbrev failed : List Row
failed =
    refused 0 (int 0 ∷ []) (string no ∷ []) 1 (stopped (said "no")) 7
    ∷ refused 1 (int 0 ∷ []) (string no ∷ []) 1 (returned (err (said "no"))) 6
    ∷ refused 0 (int 0 ∷ []) (null ∷ []) 1 (stopped nothing) 7
    ∷ refused 1 (int 0 ∷ []) (null ∷ []) 1 (returned (err nothing)) 6
    -- x + 5
    ∷ refused 0 (int 0 ∷ []) (identifier x ∷ number 5 ∷ binary 1 plus 2 ∷ []) 3 (stopped five) 9
    ∷ refused 1 (int 0 ∷ []) (identifier x ∷ number 5 ∷ binary 1 plus 2 ∷ []) 3 (returned (err five)) 8
    -- a message that faults; an Ok, an Err
    ∷ refused 0 (int 0 ∷ []) (identifier y ∷ []) 1 (fault 3) 7
    ∷ refused 1 (int 0 ∷ []) (identifier y ∷ []) 1 (fault 3) 6
    ∷ refused 0 (ok five ∷ []) (identifier x ∷ []) 1 (fault 2) 7
    ∷ refused 0 (err five ∷ []) (identifier x ∷ []) 1 (fault 2) 7
    ∷ refused 1 (ok five ∷ []) (identifier x ∷ []) 1 (fault 2) 6
    ∷ refused 1 (err five ∷ []) (identifier x ∷ []) 1 (fault 2) 6
    -- the Rust's texts
    ∷ refused 0 (int 0 ∷ []) [] none (stopped (said "requires violated")) 7
    ∷ refused 1 (int 0 ∷ []) [] none (returned (err (said "requires violated"))) 6
    ∷ entry 0 (positive x ∷ []) [] (int 0 ∷ []) [] (stopped (said "refinement failed: x > 0")) 9
    ∷ entry 1 (positive x ∷ []) [] (int 0 ∷ []) [] (returned (err (said "refinement failed: x > 0"))) 8
    ∷ entry 0 (above ∷ parameter y ∷ []) [] (int 1 ∷ int 2 ∷ []) [] (stopped (said "refinement failed: x > y")) 9
    -- in order: two refinements, a parameter without one, the latest x, a refinement before a requires, two requires
    ∷ entry 0 (positive x ∷ positive y ∷ []) [] (int 0 ∷ int 0 ∷ []) [] (stopped (said "refinement failed: x > 0")) 9
    ∷ entry 0 (positive x ∷ positive y ∷ []) [] (int 5 ∷ int 0 ∷ []) [] (stopped (said "refinement failed: y > 0")) 14
    ∷ entry 0 (parameter x ∷ positive y ∷ []) [] (int 0 ∷ int 0 ∷ []) [] (stopped (said "refinement failed: y > 0")) 9
    ∷ entry 0 (positive x ∷ parameter x ∷ []) [] (int 5 ∷ int 0 ∷ []) [] (stopped (said "refinement failed: x > 0")) 9
    ∷ entry 0 (positive x ∷ []) (clause 0 none ∷ []) (int 0 ∷ []) (bool 0 ∷ []) (stopped (said "refinement failed: x > 0")) 9
    ∷ entry 0 (positive x ∷ []) (clause 0 none ∷ []) (int 5 ∷ []) (bool 0 ∷ []) (stopped (said "requires violated")) 12
    ∷ entry 0 [] (clause 0 1 ∷ clause 0 none ∷ []) [] (bool 0 ∷ string no ∷ []) (stopped (said "no")) 7
    ∷ entry 0 [] (clause 0 none ∷ clause 1 2 ∷ []) [] (bool 1 ∷ bool 0 ∷ string no ∷ []) (stopped (said "no")) 10
    ∷ []

-- ---- "With ensures, a Return whose enclosers are only 69 in 68, 70 to 74 and 76 in 75, none of them a 68 that is an else branch,
-- and a bare only statement, do this:" under ensures false else "no" these stop with it, and no other does

-- behind the nodes false, "no" and 5
abbrev within : List Rec → List Rec → ℕ → Outcome Text → ℕ → Row
within nodes statements n o u = ensured 0 (clause 0 1 ∷ []) (bool 0 ∷ string no ∷ number 5 ∷ nodes) statements n o u

abbrev enclosers : List Row
enclosers =
    within [] (return 2 ∷ []) 1 (stopped (said "no")) 11
    ∷ within [] (return_alone ∷ []) 1 (stopped (said "no")) 11
    -- if { return 5 }; if false {} else { return 5 }; while true { return 5 }; loop { return 5 }
    ∷ within [] (return 2 ∷ branch none (from 0 1) ∷ conditional 1 none ∷ []) 1 (stopped (said "no")) 12
    ∷ within [] (return 2 ∷ branch 0 (from 0 0) ∷ branch none (from 0 1) ∷ conditional 1 2 ∷ []) 1 (stopped (said "no")) 13
    ∷ within (bool 1 ∷ []) (return 2 ∷ while 3 (from 0 1) ∷ []) 1 (stopped (said "no")) 14
    ∷ within [] (return 2 ∷ loop (from 0 1) ∷ []) 1 (stopped (said "no")) 13
    -- loop { if { return 5 } }; if false {} else { if { return 5 } }
    ∷ within [] (return 2 ∷ branch none (from 0 1) ∷ conditional 1 none ∷ loop (from 2 1) ∷ []) 1 (stopped (said "no")) 14
    ∷ within []
    (return 2 ∷ branch none (from 0 1) ∷ conditional 1 none ∷ branch 0 (from 0 0) ∷ branch none (from 2 1) ∷ conditional 3 4 ∷ [])
    1 (stopped (said "no")) 14
    -- an else branch that is a 68: if false {} else if { return 5 }, and what it holds: else if false {} else { return 5 },
    -- else if { loop { return 5 } }; and inside a branch
    ∷ within [] (return 2 ∷ branch 0 (from 0 0) ∷ branch none (from 0 1) ∷ conditional 2 none ∷ conditional 1 3 ∷ []) 1
    (returned (int 5)) 4
    ∷ within [] (return 2 ∷ branch 0 (from 0 0) ∷ branch none (from 0 1) ∷ conditional 1 2 ∷ conditional 1 3 ∷ []) 1
    (returned (int 5)) 5
    ∷ within []
    (return 2 ∷ branch 0 (from 0 0) ∷ loop (from 0 1) ∷ branch none (from 2 1) ∷ conditional 3 none ∷ conditional 1 4 ∷ [])
    1 (returned (int 5)) 6
    ∷ within []
    (return 2 ∷ branch 0 (from 0 0) ∷ branch none (from 0 1) ∷ conditional 2 none ∷ conditional 1 3 ∷ branch none (from 4 1)
    ∷ conditional 5 none ∷ []) 1 (returned (int 5)) 5
    -- behind it: if false {} else if false { return 5 }; return 5
    ∷ within [] (return 2 ∷ branch 0 (from 0 0) ∷ branch 0 (from 0 1) ∷ conditional 2 none ∷ conditional 1 3 ∷ return 2 ∷ []) 2
    (stopped (said "no")) 14
    -- a bare only statement: 5. Not: let x = 5; 5, nor 5; 5, nor if { 5 }, nor let x = 5, nor an empty body
    ∷ within [] (bare 2 ∷ []) 1 (stopped (said "no")) 11
    ∷ within [] (declare x 2 ∷ bare 2 ∷ []) 2 (returned (int 5)) 4
    ∷ within [] (bare 2 ∷ bare 2 ∷ []) 2 (returned (int 5)) 4
    ∷ within [] (bare 2 ∷ branch none (from 0 1) ∷ conditional 1 none ∷ []) 1 returned_null 3
    ∷ within [] (declare x 2 ∷ []) 1 returned_null 2
    ∷ within [] [] 0 returned_null 0
    -- 72 to 75 are forms not taken
    ∷ within [] (return 2 ∷ made 72 (num 3 ∷ num 0 ∷ num 0 ∷ num 0 ∷ from 0 1 ∷ []) ∷ []) 1 (fault 1) 1
    ∷ within [] (return 2 ∷ made 73 (num 3 ∷ num x ∷ num 0 ∷ from 0 1 ∷ []) ∷ []) 1 (fault 1) 1
    ∷ within [] (return 2 ∷ made 74 (num 3 ∷ num x ∷ num 0 ∷ from 0 1 ∷ []) ∷ []) 1 (fault 1) 1
    ∷ within [] (return 2 ∷ made 76 (num 3 ∷ num none ∷ from 0 1 ∷ []) ∷ made 75 (num 3 ∷ num 0 ∷ from 1 1 ∷ []) ∷ []) 1 (fault 1) 1
    -- without ensures: requires true; return 5, also in a result function
    ∷ ends (of (contract 0 [] (clause 0 none ∷ []) []) (bool 1 ∷ number 5 ∷ []) (return 1 ∷ []) 1) [] (returned (int 5)) 5
    ∷ ends (of (contract 1 [] (clause 0 none ∷ []) []) (bool 1 ∷ number 5 ∷ []) (return 1 ∷ []) 1) [] (returned (int 5)) 5
    ∷ []

-- ---- "charge 1, value (Null costs 1), take one hidden binding;"

-- n times let x = 5, then a return of the node k, in a function of the nodes 5, Ok(5), Err(5), true, ensures true
abbrev crowded : ℕ → ℕ → ℕ → Outcome Text → ℕ → Row
crowded result n k o u =
    ends_late
    (listed (contract result [] [] (clause 3 none ∷ []))
    (number 5 ∷ ok_literal 0 ∷ err_literal 0 ∷ bool 1 ∷ [])
    (declare x 0 ∷ return k ∷ [])
    (replicate n 0 ++ 1 ∷ [])) [] o u

abbrev first_value : List Row
first_value =
    ensured 0 (clause 0 none ∷ []) (bool 1 ∷ number 5 ∷ []) (return 1 ∷ []) 1 (returned (int 5)) 9
    ∷ ensured 0 (clause 0 none ∷ []) (bool 1 ∷ []) (return_alone ∷ []) 1 returned_null 9
    ∷ ensured 0 (clause 0 none ∷ []) (bool 1 ∷ identifier y ∷ []) (return 1 ∷ []) 1 (fault 3) 2
    -- no name finds it
    ∷ ensured 0 (clause 0 none ∷ []) (identifier temporary ∷ bool 1 ∷ []) (return 1 ∷ []) 1 (fault 3) 7
    -- it is the 129th; `ret` is; both have room
    ∷ crowded 0 128 0 (fault 5) 258
    ∷ crowded 0 127 0 (fault 5) 258
    ∷ crowded 0 126 0 (returned (int 5)) 261
    ∷ crowded 1 128 1 (fault 5) 259
    ∷ crowded 1 127 1 (fault 5) 263
    ∷ crowded 1 126 1 (returned (ok five)) 266
    -- an Err needs no `ret`
    ∷ crowded 1 127 2 (returned (err five)) 262
    ∷ []

-- ---- "result function: charge 3, plain value is fault 2, Err charges 2 and returns; charge 2 (result 3), bind `ret` to the value
-- (result: its Ok's content); check ensures in order; charge 2, return the first value."

abbrev results : List Row
results =
    ensured 1 (clause 0 none ∷ []) (bool 1 ∷ number 5 ∷ []) (return 1 ∷ []) 1 (fault 2) 5
    ∷ ensured 1 (clause 0 none ∷ []) (bool 1 ∷ []) (return_alone ∷ []) 1 (fault 2) 5
    ∷ ensured 1 (clause 0 none ∷ []) (bool 0 ∷ number 5 ∷ err_literal 1 ∷ []) (return 2 ∷ []) 1 (returned (err five)) 8
    ∷ ensured 1 (clause 0 none ∷ []) (bool 1 ∷ number 5 ∷ ok_literal 1 ∷ []) (return 2 ∷ []) 1 (returned (ok five)) 14
    ∷ ensured 1 (clause 0 none ∷ []) (bool 1 ∷ number 5 ∷ ok_literal 1 ∷ []) (bare 2 ∷ []) 1 (returned (ok five)) 14
    -- MARKED CASE 14: `return true` under ensures `ret`
    ∷ ensured 0 (clause 0 none ∷ []) (identifier ret ∷ bool 1 ∷ []) (return 1 ∷ []) 1 (returned (truth true)) 9
    -- `return 5`, `return Ok(5)` under ensures ret == 5
    ∷ ensured 0 (clause 2 none ∷ []) (identifier ret ∷ number 5 ∷ binary 0 compare 1 ∷ []) (return 1 ∷ []) 1 (returned (int 5)) 11
    ∷ ensured 1 (clause 2 none ∷ []) (identifier ret ∷ number 5 ∷ binary 0 compare 1 ∷ ok_literal 1 ∷ []) (return 3 ∷ []) 1
    (returned (ok five)) 16
    -- let ret = 1; return 5
    ∷ ensured 0 (clause 2 none ∷ []) (identifier ret ∷ number 5 ∷ binary 0 compare 1 ∷ number 1 ∷ [])
    (declare ret 3 ∷ return 1 ∷ []) 2
    (returned (int 5)) 13
    -- if { let y = 5; return y } under ensures y == 5
    ∷ ensured 0 (clause 2 none ∷ []) (identifier y ∷ number 5 ∷ binary 0 compare 1 ∷ [])
    (declare y 1 ∷ return 0 ∷ branch none (from 0 2) ∷ conditional 2 none ∷ []) 1 (returned (int 5)) 14
    -- `return false` under ensures (ret = true), and under ensures (ret = true) and ret
    ∷ ensured 0 (clause 1 none ∷ []) (bool 1 ∷ assign ret 0 ∷ bool 0 ∷ []) (return 2 ∷ []) 1 (returned (truth false)) 10
    ∷ ensured 0 (clause 1 none ∷ clause 3 none ∷ []) (bool 1 ∷ assign ret 0 ∷ bool 0 ∷ identifier ret ∷ []) (return 2 ∷ []) 1
    (returned (truth false)) 13
    -- let x = 5; return 5 under ensures (x = true) and x
    ∷ ensured 0 (clause 1 none ∷ clause 3 none ∷ []) (bool 1 ∷ assign x 0 ∷ number 5 ∷ identifier x ∷ [])
    (declare x 2 ∷ return 2 ∷ []) 2 (returned (int 5)) 15
    -- one that fails, and two; in a result function; not Bool; a message that is an Ok; the Rust's text
    ∷ ensured 0 (clause 0 2 ∷ clause 1 3 ∷ []) (bool 1 ∷ bool 0 ∷ number 5 ∷ string no ∷ []) (return 2 ∷ []) 1
    (stopped (said "no")) 14
    ∷ ensured 0 (clause 1 2 ∷ clause 1 3 ∷ []) (bool 1 ∷ bool 0 ∷ number 5 ∷ string no ∷ []) (return 2 ∷ []) 1 (stopped five) 11
    ∷ ensured 1 (clause 0 2 ∷ []) (bool 0 ∷ number 5 ∷ string no ∷ ok_literal 1 ∷ []) (return 3 ∷ []) 1
    (returned (err (said "no"))) 15
    ∷ ensured 0 (clause 0 none ∷ []) (number 5 ∷ []) (return 0 ∷ []) 1 (fault 4) 7
    ∷ ensured 0 (clause 0 none ∷ []) (identifier ret ∷ []) (return_alone ∷ []) 1 (fault 4) 7
    ∷ ensured 0 (clause 0 2 ∷ []) (bool 0 ∷ number 5 ∷ ok_literal 1 ∷ []) (return 1 ∷ []) 1 (fault 2) 12
    ∷ ensured 1 (clause 0 2 ∷ []) (bool 0 ∷ number 5 ∷ ok_literal 1 ∷ []) (return 2 ∷ []) 1 (fault 2) 16
    ∷ ensured 0 (clause 0 none ∷ []) (bool 0 ∷ number 5 ∷ []) (return 1 ∷ []) 1 (stopped (said "ensures violated")) 11
    -- requires true, ensures true, `return 5`
    ∷ ends (of (contract 0 [] (clause 0 none ∷ []) (clause 0 none ∷ [])) (bool 1 ∷ number 5 ∷ []) (return 1 ∷ []) 1) []
    (returned (int 5)) 12
    ∷ []

-- ---- each function has its own: two of one name, f() requires false else "no", f() ensures false else "no"; return 5

abbrev twins : Image
twins =
    build
    record {
      texts = "f" ∷ "no" ∷ [];
      lists = 0 ∷ [];
      expressions = bool 0 ∷ string 1 ∷ number 5 ∷ [];
      statements = return 2 ∷ [];
      parameters = [];
      clauses = clause 0 1 ∷ [];
      functions =
          function 0 1 (pair 0 0) (pair 0 1) (pair 0 1) (pair 0 0) ∷ function 0 1 (pair 0 0) (pair 0 1) (pair 0 0) (pair 0 1)
          ∷ [];
      calls = [];
    }

abbrev own : List Row
own = ends twins [] (stopped (said "no")) 7 ∷ of_function 1 (ends twins [] (stopped (said "no")) 11) ∷ []

-- ---- "The plain run, except:" functions without contracts are read as they run, so the rows of "Runner" come first

unfoldable pub rows : List Row
rows = RunnerTable.rows ++ held ++ not_bool ++ failed ++ enclosers ++ first_value ++ results ++ own

abbrev pub read : Row → ℕ → Outcome Text × ℕ
read r b = reading_in r.image r.function r.values b

-- what it opens
unfoldable pub readings : Unit {0}
unfolding RunnerTable.rows first_rows text_bytes text_records ascii up_from form_by call_form is_res_path descend_by descend expr_tree statement_by item_tree param_at clause_at function_at param_of clause_of contracts_of decimal_by decimal map_expr map_stmt map_body map_branch map_else refinement_checks contract_function reading_in reading checks turns top stmt body branch_or or_else eval find update same_text unary_value binary_value bang negate compare_values arith_values of_bits of_fields
readings = tt

-- THEOREM: each of them is read so
pub reads_end_so : map (λ r. map (read r) r.budgets) rows ≡ map (λ r. map (expected r) r.budgets) rows
unfolding rows readings
reads_end_so = refl

-- ---- "Entry is passed when all entry checks held."

abbrev goes_on : {T A : Type 0} → Result T A → Bool
goes_on (got a env n) = true
goes_on (ended o n) = false

abbrev pub enters : Row → ℕ → Bool
enters r b =
    goes_on
    (entering (λ t. t) (contract_function r.image r.function) (map (map_value (text_of r.image)) r.values) [] b)

-- the budget is the row's steps or more
abbrev pub from_steps_on : Row → ℕ → Bool
from_steps_on r b = not (nat_lt b r.steps)

abbrev pub not_held : List Row
not_held = not_bool ++ failed

pub enters_so : map (λ r. map (enters r) r.budgets) (held ++ not_held)
    ≡ map (λ r. map (from_steps_on r) r.budgets) held ++ map (λ r. map (λ b. false) r.budgets) not_held
unfolding readings
enters_so = refl
