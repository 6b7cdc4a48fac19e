-- The rows of 01's "Runner", sentence by sentence, from its values to what statements and nodes cost. RunnerTable has the others.
use Rattle.std.specs.Prelude.{ℕ, ◌-◌, true, false, List, [], ◌∷◌, ◌++◌, length, take, from_bits}
use Rattle.std.specs.Float.{binary64}
use Rattle.rl_spec.specs.Image.{pair, Rec, Image}
use Rattle.rl_spec.specs.Values as value
use Rattle.rl_spec.specs.Run.{nothing, folded, Value, plain, ok, err, Outcome, returned, fault}
use Rattle.rl_spec.specs.Mapped.{Text}
use Rattle.rl_examples.specs.MarkedImages.{character, string, bool, identifier, binary, unary, grouping, plus, minus, compare, parameter, function, build}
use Rattle.rl_examples.specs.FunctionRows.{x, y, no, other_x, other_no, from, null, number, assign, none, declare, bare, return, return_alone, conditional, branch_by, branch, while, loop, break, continue, never, int, truth, str, returned_null, five, said, Contract, contract, of, Row, ends, endless, of_function}

-- ---- functions without contracts: the parameters x, y and another x, as many as there are values

abbrev pub plainly : List (Value ℕ) → Contract
plainly vs = contract 0 (take (length vs) (parameter x ∷ parameter y ∷ parameter other_x ∷ [])) [] []

-- of these nodes and statements, of which the last n are the body
abbrev pub runs : List (Value ℕ) → List Rec → List Rec → ℕ → Outcome Text → ℕ → Row
runs vs nodes statements n o u = ends (of (plainly vs) nodes statements n) vs o u

abbrev runs_on : List (Value ℕ) → List Rec → List Rec → ℕ → Row
runs_on vs nodes statements n = endless (of (plainly vs) nodes statements n) vs

-- the body is the last of the nodes, a bare expression; with values, and without
abbrev pub node_of : List (Value ℕ) → List Rec → Outcome Text → ℕ → Row
node_of vs nodes o u = runs vs nodes (bare (length nodes - 1) ∷ []) 1 o u

abbrev pub node : List Rec → Outcome Text → ℕ → Row
node nodes o u = node_of [] nodes o u

-- ---- "Value: folded value, Null, or Ok or Err of one of these."

abbrev pub half : {T : Type 0} → Value T
half = plain (folded (value.float (from_bits binary64 0x3FF8000000000000)))

-- a value that is given and returned
abbrev keeps : Value ℕ → Value Text → Row
keeps v w = node_of (v ∷ []) (identifier x ∷ []) (returned w) 2

abbrev values : List Row
values =
    keeps (int 5) (int 5)
    ∷ keeps half half
    ∷ keeps (str no) (plain (said "no"))
    ∷ keeps (truth true) (truth true)
    ∷ keeps (plain nothing) (plain nothing)
    ∷ keeps (ok five) (ok five)
    ∷ keeps (ok nothing) (ok nothing)
    ∷ keeps (err (folded (value.str no))) (err (said "no"))
    ∷ keeps (err nothing) (err nothing)
    ∷ []

-- ---- "Parameters are bound in order; lookup is latest first;" the third parameter is another x

-- two functions of one name: f() is 1, f(x) is x
abbrev twins : Image
twins =
    build
    record {
      texts = "f" ∷ "x" ∷ [];
      lists = 0 ∷ 1 ∷ [];
      expressions = number 1 ∷ identifier 1 ∷ [];
      statements = bare 0 ∷ bare 1 ∷ [];
      parameters = parameter 1 ∷ [];
      clauses = [];
      functions =
          function 0 1 (pair 0 0) (pair 0 1) (pair 0 0) (pair 0 0) ∷ function 0 1 (pair 0 1) (pair 1 1) (pair 0 0) (pair 0 0)
          ∷ [];
      calls = [];
    }

abbrev names : List Row
names =
    node_of (int 1 ∷ int 2 ∷ []) (identifier x ∷ []) (returned (int 1)) 2
    ∷ node_of (int 1 ∷ int 2 ∷ []) (identifier y ∷ []) (returned (int 2)) 2
    ∷ node_of (int 1 ∷ int 2 ∷ int 3 ∷ []) (identifier x ∷ []) (returned (int 3)) 2
    ∷ ends twins [] (returned (int 1)) 2
    ∷ of_function 1 (ends twins (int 5 ∷ []) (returned (int 5)) 2)
    -- let x = 2; x
    ∷ runs (int 1 ∷ []) (number 2 ∷ identifier x ∷ []) (declare x 0 ∷ bare 1 ∷ []) 2 (returned (int 2)) 4
    -- if { let x = 2; x = 3; return x }
    ∷ runs (int 1 ∷ []) (number 2 ∷ number 3 ∷ assign x 1 ∷ identifier x ∷ [])
    (declare x 0 ∷ bare 2 ∷ return 3 ∷ branch none (from 0 3) ∷ conditional 3 none ∷ []) 1 (returned (int 3)) 8
    -- if { let x = 2; x = 3 }; x
    ∷ runs (int 1 ∷ []) (number 2 ∷ number 3 ∷ assign x 1 ∷ identifier x ∷ [])
    (declare x 0 ∷ bare 2 ∷ branch none (from 0 2) ∷ conditional 2 none ∷ bare 3 ∷ []) 2 (returned (int 1)) 8
    ∷ []

-- ---- "branch and loop bodies open a scope, needs_scope is not read;"

-- if { let x = 2 }; x
abbrev shadowing : ℕ → List (Value ℕ) → Outcome Text → Row
shadowing scope vs o =
    runs vs (number 2 ∷ identifier x ∷ []) (declare x 0 ∷ branch_by scope none (from 0 1) ∷ conditional 1 none ∷ bare 1 ∷ []) 2 o 5

abbrev scopes : List Row
scopes =
    shadowing 0 (int 1 ∷ []) (returned (int 1))
    ∷ shadowing 0 [] (fault 3)
    ∷ shadowing 1 (int 1 ∷ []) (returned (int 1))
    ∷ shadowing 1 [] (fault 3)
    -- what is assigned stays: if { x = 2 }; x
    ∷ runs (int 1 ∷ []) (number 2 ∷ assign x 0 ∷ identifier x ∷ [])
    (bare 1 ∷ branch none (from 0 1) ∷ conditional 1 none ∷ bare 2 ∷ []) 2 (returned (int 2)) 6
    -- if false {} else { let x = 2 }; x
    ∷ runs (int 1 ∷ []) (bool 0 ∷ number 2 ∷ identifier x ∷ [])
    (declare x 1 ∷ branch 0 (from 0 0) ∷ branch none (from 0 1) ∷ conditional 1 2 ∷ bare 2 ∷ []) 2 (returned (int 1)) 6
    -- if false {} else if { let x = 2 }; x
    ∷ runs (int 1 ∷ []) (bool 0 ∷ number 2 ∷ identifier x ∷ [])
    (declare x 1 ∷ branch 0 (from 0 0) ∷ branch none (from 0 1) ∷ conditional 2 none ∷ conditional 1 3 ∷ bare 2 ∷ []) 2
    (returned (int 1)) 6
    -- while y { let x = 2; y = false }; x
    ∷ runs (int 1 ∷ truth true ∷ []) (identifier y ∷ number 2 ∷ bool 0 ∷ assign y 2 ∷ identifier x ∷ [])
    (declare x 1 ∷ bare 3 ∷ while 0 (from 0 2) ∷ bare 4 ∷ []) 2 (returned (int 1)) 12
    -- loop { let x = 2; break }; x
    ∷ runs (int 1 ∷ []) (number 2 ∷ identifier x ∷ [])
    (declare x 0 ∷ break ∷ loop (from 0 2) ∷ bare 1 ∷ []) 2 (returned (int 1)) 7
    -- each turn opens its own: loop { if x { return y }; let y = 1; x = true }, and with a continue at the end
    ∷ runs (truth false ∷ []) (identifier x ∷ identifier y ∷ number 1 ∷ bool 1 ∷ assign x 3 ∷ [])
    (return 1 ∷ branch 0 (from 0 1) ∷ conditional 1 none ∷ declare y 2 ∷ bare 4 ∷ loop (from 2 3) ∷ []) 1 (fault 3) 14
    ∷ runs (truth false ∷ []) (identifier x ∷ identifier y ∷ number 1 ∷ bool 1 ∷ assign x 3 ∷ [])
    (return 1 ∷ branch 0 (from 0 1) ∷ conditional 1 none ∷ declare y 2 ∷ bare 4 ∷ continue ∷ loop (from 2 4) ∷ []) 1 (fault 3) 15
    -- a while's condition stands outside: while x { let x = false }
    ∷ runs_on (truth true ∷ []) (identifier x ∷ bool 0 ∷ []) (declare x 1 ∷ while 0 (from 0 1) ∷ []) 1
    ∷ []

-- ---- "a branch, else too, is taken when its condition is none or true."

abbrev branches : List Row
branches =
    -- if { return 1 }, with true, with false
    runs [] (number 1 ∷ []) (return 0 ∷ branch none (from 0 1) ∷ conditional 1 none ∷ []) 1 (returned (int 1)) 3
    ∷ runs [] (bool 1 ∷ number 1 ∷ []) (return 1 ∷ branch 0 (from 0 1) ∷ conditional 1 none ∷ []) 1 (returned (int 1)) 4
    ∷ runs [] (bool 0 ∷ number 1 ∷ []) (return 1 ∷ branch 0 (from 0 1) ∷ conditional 1 none ∷ []) 1 returned_null 2
    -- if { return 1 } else { return 2 }, with true, with false
    ∷ runs [] (number 1 ∷ number 2 ∷ [])
    (return 0 ∷ return 1 ∷ branch none (from 0 1) ∷ branch none (from 1 1) ∷ conditional 2 3 ∷ []) 1 (returned (int 1)) 3
    ∷ runs [] (bool 1 ∷ number 1 ∷ number 2 ∷ [])
    (return 1 ∷ return 2 ∷ branch 0 (from 0 1) ∷ branch none (from 1 1) ∷ conditional 2 3 ∷ []) 1 (returned (int 1)) 4
    ∷ runs [] (bool 0 ∷ number 1 ∷ number 2 ∷ [])
    (return 1 ∷ return 2 ∷ branch 0 (from 0 1) ∷ branch none (from 1 1) ∷ conditional 2 3 ∷ []) 1 (returned (int 2)) 4
    -- an else 69 whose condition is true, and false
    ∷ runs [] (bool 0 ∷ bool 1 ∷ number 1 ∷ number 2 ∷ [])
    (return 2 ∷ return 3 ∷ branch 0 (from 0 1) ∷ branch 1 (from 1 1) ∷ conditional 2 3 ∷ []) 1 (returned (int 2)) 5
    ∷ runs [] (bool 0 ∷ number 1 ∷ number 2 ∷ [])
    (return 1 ∷ return 2 ∷ branch 0 (from 0 1) ∷ branch 0 (from 1 1) ∷ conditional 2 3 ∷ []) 1 returned_null 3
    -- an else 68: if false { return 1 } else if true { return 2 }, and with false; and with false behind it else { return 3 }
    ∷ runs [] (bool 0 ∷ bool 1 ∷ number 1 ∷ number 2 ∷ [])
    (return 2 ∷ return 3 ∷ branch 0 (from 0 1) ∷ branch 1 (from 1 1) ∷ conditional 3 none ∷ conditional 2 4 ∷ []) 1
    (returned (int 2)) 5
    ∷ runs [] (bool 0 ∷ number 1 ∷ number 2 ∷ [])
    (return 1 ∷ return 2 ∷ branch 0 (from 0 1) ∷ branch 0 (from 1 1) ∷ conditional 3 none ∷ conditional 2 4 ∷ []) 1 returned_null 3
    ∷ runs [] (bool 0 ∷ number 1 ∷ number 2 ∷ number 3 ∷ [])
    (return 1 ∷ return 2 ∷ return 3 ∷ branch 0 (from 0 1) ∷ branch 0 (from 1 1) ∷ branch none (from 2 1)
    ∷ conditional 4 5 ∷ conditional 3 6 ∷ []) 1 (returned (int 3)) 5
    ∷ []

-- ---- "A text means its bytes."

abbrev bytes : List Row
bytes =
    node (string no ∷ string other_no ∷ binary 0 compare 1 ∷ []) (returned (truth true)) 4
    ∷ node (string no ∷ string other_x ∷ binary 0 compare 1 ∷ []) (returned (truth false)) 4
    ∷ node_of (str no ∷ []) (identifier x ∷ string other_no ∷ binary 0 compare 1 ∷ []) (returned (truth true)) 4
    ∷ node_of (int 1 ∷ []) (identifier other_x ∷ []) (returned (int 1)) 2
    -- x = 2 by the other x; x
    ∷ runs (int 1 ∷ []) (number 2 ∷ assign other_x 0 ∷ identifier x ∷ []) (bare 1 ∷ bare 2 ∷ []) 2 (returned (int 2)) 5
    ∷ []

-- ---- "Each statement begun costs 1 (a 68's branches 0), each loop turn 1 (before a while's condition),"

abbrev statements : List Row
statements =
    -- let x = 1
    runs [] (number 1 ∷ []) (declare x 0 ∷ []) 1 returned_null 2
    -- 1; 2
    ∷ runs [] (number 1 ∷ number 2 ∷ []) (bare 0 ∷ bare 1 ∷ []) 2 (returned (int 2)) 4
    -- return 5, return alone; what stands behind is not begun
    ∷ runs [] (number 5 ∷ []) (return 0 ∷ never ∷ []) 2 (returned (int 5)) 2
    ∷ runs [] [] (return_alone ∷ never ∷ []) 2 returned_null 1
    -- if {}; if false {} else {}; if false {} else if false {}
    ∷ runs [] [] (branch none (from 0 0) ∷ conditional 0 none ∷ []) 1 returned_null 1
    ∷ runs [] (bool 0 ∷ []) (branch 0 (from 0 0) ∷ branch none (from 0 0) ∷ conditional 0 1 ∷ []) 1 returned_null 2
    ∷ runs [] (bool 0 ∷ []) (branch 0 (from 0 0) ∷ conditional 0 none ∷ conditional 0 1 ∷ []) 1 returned_null 3
    -- while false {}; while y {}, where no y is
    ∷ runs [] (bool 0 ∷ []) (while 0 (from 0 0) ∷ []) 1 returned_null 3
    ∷ runs [] (identifier y ∷ []) (while 0 (from 0 0) ∷ []) 1 (fault 3) 3
    -- while x { x = false }, with a continue before what is not begun
    ∷ runs (truth true ∷ []) (identifier x ∷ bool 0 ∷ assign x 1 ∷ [])
    (bare 2 ∷ while 0 (from 0 1) ∷ []) 1 returned_null 8
    ∷ runs (truth true ∷ []) (identifier x ∷ bool 0 ∷ assign x 1 ∷ [])
    (bare 2 ∷ continue ∷ never ∷ while 0 (from 0 3) ∷ []) 1 returned_null 9
    -- while true { break }; loop { break }; loop { return 5 }
    ∷ runs [] (bool 1 ∷ []) (break ∷ never ∷ while 0 (from 0 2) ∷ []) 1 returned_null 4
    ∷ runs [] [] (break ∷ never ∷ loop (from 0 2) ∷ []) 1 returned_null 3
    ∷ runs [] (number 5 ∷ []) (return 0 ∷ loop (from 0 1) ∷ []) 1 (returned (int 5)) 4
    -- loop { if x { break }; x = true }
    ∷ runs (truth false ∷ []) (identifier x ∷ bool 1 ∷ assign x 1 ∷ [])
    (break ∷ branch 0 (from 0 1) ∷ conditional 1 none ∷ bare 2 ∷ loop (from 2 2) ∷ []) 1 returned_null 11
    -- loop { loop { break }; break }
    ∷ runs [] [] (break ∷ loop (from 0 1) ∷ break ∷ loop (from 1 2) ∷ []) 1 returned_null 6
    -- loop {}; loop { continue }
    ∷ runs_on [] [] (loop (from 0 0) ∷ []) 1
    ∷ runs_on [] [] (continue ∷ loop (from 0 1) ∷ []) 1
    ∷ []

-- ---- "each expression node 1, charged on entry, operands left to right."

abbrev nodes : List Row
nodes =
    node (number 1 ∷ number 2 ∷ binary 0 plus 1 ∷ []) (returned (int 3)) 4
    ∷ node (number 5 ∷ grouping 0 ∷ []) (returned (int 5)) 3
    -- a shared record stands for copies: (1 + 1) + (1 + 1)
    ∷ node (number 1 ∷ binary 0 plus 0 ∷ binary 1 plus 1 ∷ []) (returned (int 4)) 8
    -- -y, y + 'a', 'a' + y, Null + y, where no y is
    ∷ node (identifier y ∷ unary minus 0 ∷ []) (fault 3) 3
    ∷ node (identifier y ∷ character 97 ∷ binary 0 plus 1 ∷ []) (fault 3) 3
    ∷ node (identifier y ∷ character 97 ∷ binary 1 plus 0 ∷ []) (fault 1) 3
    ∷ node (null ∷ identifier y ∷ binary 0 plus 1 ∷ []) (fault 3) 4
    -- (x = 2) + x, x + (x = 2)
    ∷ node_of (int 1 ∷ []) (number 2 ∷ assign x 0 ∷ identifier x ∷ binary 1 plus 2 ∷ []) (returned (int 4)) 5
    ∷ node_of (int 1 ∷ []) (number 2 ∷ assign x 0 ∷ identifier x ∷ binary 2 plus 1 ∷ []) (returned (int 3)) 5
    ∷ []

unfoldable pub first_rows : List Row
first_rows = values ++ names ++ scopes ++ branches ++ bytes ++ statements ++ nodes
