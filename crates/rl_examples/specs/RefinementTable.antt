-- Refinements, by computation: each of the six with each sort of operand, as the texts of reports, as contracts that are read, and
-- lowered and run; and the texts of clauses.
-- Assumes nothing.
use Rattle.std.specs.Prelude.{◌≡◌, ℕ, ◌*◌, List, [], ◌∷◌, ◌++◌, map, length, pos, refl}
use Prim.Native.String.{String}
use Rattle.rl_spec.specs.Image.{Field, num, pair, Rec, Image}
use Rattle.rl_spec.specs.Values as value
use Rattle.rl_spec.specs.Tree.{ascii}
use Rattle.rl_spec.specs.Ranges.{up_from}
use Rattle.rl_spec.specs.Run.{Plain, nothing, folded, plain, err, Outcome, returned, stopped, fault}
use Rattle.rl_spec.specs.Mapped.{Text}
use Rattle.rl_examples.specs.MarkedImages.{made, byte, string, bool, identifier, grouping, parameter, clause, call, build}
use Rattle.rl_examples.specs.LowerExamples.{lowering, running}
use Rattle.rl_examples.specs.NodeRows.{number, folding, evaluating}
use Rattle.rl_examples.specs.ContractRows.{Given, whole, minus, float, text, yes, no, node_of, Ends, Call, Row, actual, expected, proving}

-- ---- refinements: f(x, p), x refined, p plain, with an empty body; and a call f(x, 7) for each x

-- the arguments of the calls: a node, and the node behind all of them, which is 7
unfoldable pub argument_lists : ℕ → List ℕ → List ℕ
argument_lists seven [] = []
argument_lists seven (k ∷ ks) = k ∷ seven ∷ argument_lists seven ks

-- by the name of p, the refinement, the operand's sort and the operand
abbrev refining : ℕ → ℕ → ℕ → ℕ → List Given → Image
refining p op sort operand xs =
    build
    record {
      texts = "f" ∷ "x" ∷ "p" ∷ "q" ∷ "a" ∷ "a\"b" ∷ "b" ∷ [];
      lists = argument_lists (length xs) (up_from 0 (length xs));
      expressions = map node_of xs ++ number 7 ∷ [];
      statements = [];
      parameters = made 80 (num 1 ∷ num 0 ∷ num op ∷ num sort ∷ num operand ∷ []) ∷ parameter p ∷ [];
      clauses = [];
      functions = made 82 (num 0 ∷ num 1 ∷ pair 0 2 ∷ num 0 ∷ pair 0 0 ∷ pair 0 0 ∷ pair 0 0 ∷ []) ∷ [];
      calls = map (λ k. call 0 10 (pair (2 * k) 2)) (up_from 0 (length xs));
    }

abbrev for : Given → List Text → Ends → Call
for x reports ends = record { given = x ∷ whole 7 ∷ []; reports = reports; ends = ends }

-- the refinement of the text t: it holds for x, it fails, the comparison has no value, the operand is an unknown name
abbrev holds : Text → Given → Call
holds t x = for x [] (returned (plain nothing), 5)

abbrev fails : Text → Given → Call
fails t x =
    for x ((ascii "contract violation (proven at compile time): refinement failed: " ++ t) ∷ [])
    (stopped (folded (value.str (ascii "refinement failed: " ++ t))), 9)

abbrev lacks : Text → Given → Call
lacks t x = for x [] (fault 4, 5)

abbrev unknown : Text → Given → Call
unknown t x = for x [] (fault 3, 5)

unfoldable pub each : Text → List Given → List (Text → Given → Call) → List Call
each t [] as' = []
each t (x ∷ xs) [] = []
each t (x ∷ xs) (a ∷ as') = a t x ∷ each t xs as'

-- its text, and what it does with each x
abbrev refined : ℕ → ℕ → ℕ → String → List Given → List (Text → Given → Call) → Row
refined op sort operand t xs as' = record { image = refining 2 op sort operand xs; calls = each (ascii t) xs as' }

-- below, at and above 7 and "a"; of another sort
abbrev sevens : List Given
sevens = whole 6 ∷ whole 7 ∷ whole 8 ∷ text 4 ∷ []

abbrev quotes : List Given
quotes = text 4 ∷ text 5 ∷ text 6 ∷ whole 7 ∷ []

-- -1e300, the least, 0; 0, the largest, 1e300
abbrev leasts : List Given
leasts = float 0xFE37E43C8800759C ∷ minus 9223372036854775808 ∷ whole 0 ∷ []

abbrev largests : List Given
largests = whole 0 ∷ whole 9223372036854775807 ∷ float 0x7E37E43C8800759C ∷ []

abbrev truths : List Given
truths = yes ∷ no ∷ whole 1 ∷ []

-- ---- clauses: f(x), a result function or not, and a call f(7)

-- nodes behind the node 7, the body's statements, clauses; of these its requires and its ensures
abbrev claused : ℕ → Rec → List Rec → List Rec → List Rec → Field → Field → Image
claused result x nodes statements clauses requires ensures =
    build
    record {
      texts = "f" ∷ "x" ∷ "own" ∷ [];
      lists = 0 ∷ 0 ∷ [];
      expressions = number 7 ∷ nodes;
      statements = statements;
      parameters = x ∷ [];
      clauses = clauses;
      functions = made 82 (num 0 ∷ num 1 ∷ pair 0 1 ∷ num result ∷ pair 1 (length statements) ∷ requires ∷ ensures ∷ []) ∷ [];
      calls = call 0 10 (pair 0 1) ∷ [];
    }

-- `false` as a requires, with a message or none (65,535); and as an ensures, of a body that returns the node n
abbrev requiring : ℕ → List Rec → ℕ → Image
requiring result nodes message =
    claused result (parameter 1) (bool 0 ∷ nodes) [] (clause 1 message ∷ []) (pair 0 1) (pair 0 0)

abbrev ensuring : ℕ → ℕ → List Rec → ℕ → Image
ensuring result n nodes message =
    claused result (parameter 1) (bool 0 ∷ nodes) (made 66 (num 5 ∷ num n ∷ []) ∷ []) (clause 1 message ∷ []) (pair 0 0) (pair 0 1)

abbrev over9 : Rec
over9 = made 80 (num 1 ∷ num 0 ∷ num 1 ∷ num 1 ∷ num 9 ∷ [])

abbrev said : String → Plain Text
said s = folded (value.str (ascii s))

-- the texts of the reports, and how it is read
abbrev on : Image → List String → Outcome Text → ℕ → Row
on im reports o n =
    record { image = im; calls = record { given = whole 7 ∷ []; reports = map ascii reports; ends = (o, n) } ∷ [] }

-- ---- THE TABLE

unfoldable pub rows : List Row
rows =
    -- 1 Gt, 2 Ge, 3 Lt, 4 Le, 5 Eq, 6 Ne. Operand 1, an Integer
    refined 1 1 7 "x > 7" sevens (fails ∷ fails ∷ holds ∷ lacks ∷ [])
    ∷ refined 2 1 7 "x >= 7" sevens (fails ∷ holds ∷ holds ∷ lacks ∷ [])
    ∷ refined 3 1 7 "x < 7" sevens (holds ∷ fails ∷ fails ∷ lacks ∷ [])
    ∷ refined 4 1 7 "x <= 7" sevens (holds ∷ holds ∷ fails ∷ lacks ∷ [])
    ∷ refined 5 1 7 "x == 7" sevens (fails ∷ holds ∷ fails ∷ lacks ∷ [])
    ∷ refined 6 1 7 "x != 7" sevens (holds ∷ fails ∷ holds ∷ lacks ∷ [])
    ∷ refined 6 1 0 "x != 0" (whole 0 ∷ whole 1 ∷ []) (fails ∷ holds ∷ [])
    -- the least
    ∷ refined 1 1 0x8000000000000000 "x > -9223372036854775808" leasts (fails ∷ fails ∷ holds ∷ [])
    ∷ refined 2 1 0x8000000000000000 "x >= -9223372036854775808" leasts (fails ∷ holds ∷ holds ∷ [])
    ∷ refined 3 1 0x8000000000000000 "x < -9223372036854775808" leasts (holds ∷ fails ∷ fails ∷ [])
    ∷ refined 4 1 0x8000000000000000 "x <= -9223372036854775808" leasts (holds ∷ holds ∷ fails ∷ [])
    ∷ refined 5 1 0x8000000000000000 "x == -9223372036854775808" leasts (fails ∷ holds ∷ fails ∷ [])
    ∷ refined 6 1 0x8000000000000000 "x != -9223372036854775808" leasts (holds ∷ fails ∷ holds ∷ [])
    -- the largest
    ∷ refined 1 1 0x7FFFFFFFFFFFFFFF "x > 9223372036854775807" largests (fails ∷ fails ∷ holds ∷ [])
    ∷ refined 2 1 0x7FFFFFFFFFFFFFFF "x >= 9223372036854775807" largests (fails ∷ holds ∷ holds ∷ [])
    ∷ refined 3 1 0x7FFFFFFFFFFFFFFF "x < 9223372036854775807" largests (holds ∷ fails ∷ fails ∷ [])
    ∷ refined 4 1 0x7FFFFFFFFFFFFFFF "x <= 9223372036854775807" largests (holds ∷ holds ∷ fails ∷ [])
    ∷ refined 5 1 0x7FFFFFFFFFFFFFFF "x == 9223372036854775807" largests (fails ∷ holds ∷ fails ∷ [])
    ∷ refined 6 1 0x7FFFFFFFFFFFFFFF "x != 9223372036854775807" largests (holds ∷ fails ∷ holds ∷ [])
    -- operand 2, a Str with a quote in it
    ∷ refined 1 2 5 "x > \"a\"b\"" quotes (fails ∷ fails ∷ holds ∷ lacks ∷ [])
    ∷ refined 2 2 5 "x >= \"a\"b\"" quotes (fails ∷ holds ∷ holds ∷ lacks ∷ [])
    ∷ refined 3 2 5 "x < \"a\"b\"" quotes (holds ∷ fails ∷ fails ∷ lacks ∷ [])
    ∷ refined 4 2 5 "x <= \"a\"b\"" quotes (holds ∷ holds ∷ fails ∷ lacks ∷ [])
    ∷ refined 5 2 5 "x == \"a\"b\"" quotes (fails ∷ holds ∷ fails ∷ lacks ∷ [])
    ∷ refined 6 2 5 "x != \"a\"b\"" quotes (holds ∷ fails ∷ holds ∷ lacks ∷ [])
    -- operand 3, a Bool: true and false are equal or not, and neither is less
    ∷ refined 1 3 1 "x > true" truths (lacks ∷ lacks ∷ lacks ∷ [])
    ∷ refined 2 3 1 "x >= true" truths (lacks ∷ lacks ∷ lacks ∷ [])
    ∷ refined 3 3 1 "x < true" truths (lacks ∷ lacks ∷ lacks ∷ [])
    ∷ refined 4 3 1 "x <= true" truths (lacks ∷ lacks ∷ lacks ∷ [])
    ∷ refined 5 3 1 "x == true" truths (holds ∷ fails ∷ lacks ∷ [])
    ∷ refined 6 3 1 "x != true" truths (fails ∷ holds ∷ lacks ∷ [])
    ∷ refined 1 3 0 "x > false" truths (lacks ∷ lacks ∷ lacks ∷ [])
    ∷ refined 2 3 0 "x >= false" truths (lacks ∷ lacks ∷ lacks ∷ [])
    ∷ refined 3 3 0 "x < false" truths (lacks ∷ lacks ∷ lacks ∷ [])
    ∷ refined 4 3 0 "x <= false" truths (lacks ∷ lacks ∷ lacks ∷ [])
    ∷ refined 5 3 0 "x == false" truths (fails ∷ holds ∷ lacks ∷ [])
    ∷ refined 6 3 0 "x != false" truths (holds ∷ fails ∷ lacks ∷ [])
    -- operand 4, a Param: p, which is 7; x itself; q, which is no parameter
    ∷ refined 1 4 2 "x > p" sevens (fails ∷ fails ∷ holds ∷ lacks ∷ [])
    ∷ refined 2 4 2 "x >= p" sevens (fails ∷ holds ∷ holds ∷ lacks ∷ [])
    ∷ refined 3 4 2 "x < p" sevens (holds ∷ fails ∷ fails ∷ lacks ∷ [])
    ∷ refined 4 4 2 "x <= p" sevens (holds ∷ holds ∷ fails ∷ lacks ∷ [])
    ∷ refined 5 4 2 "x == p" sevens (fails ∷ holds ∷ fails ∷ lacks ∷ [])
    ∷ refined 6 4 2 "x != p" sevens (holds ∷ fails ∷ holds ∷ lacks ∷ [])
    ∷ refined 1 4 1 "x > x" sevens (fails ∷ fails ∷ fails ∷ fails ∷ [])
    ∷ refined 1 4 3 "x > q" sevens (unknown ∷ unknown ∷ unknown ∷ unknown ∷ [])
    -- where p is called x as well: the argument is proved, but the name is looked up, and it is 7
    ∷ record { image = refining 1 1 1 7 (whole 8 ∷ []); calls = for (whole 8) [] (stopped (said "refinement failed: x > 7"), 9) ∷ [] }
    -- of a result function
    ∷ on (claused 1 over9 [] [] [] (pair 0 0) (pair 0 0)) ("contract violation (proven at compile time): refinement failed: x > 9" ∷ [])
    (returned (err (said "refinement failed: x > 9"))) 8
    -- a requires without a message, of a function and of a result function
    ∷ on (requiring 0 [] 65535) ("contract violation (proven at compile time): requires violated" ∷ []) (stopped (said "requires violated")) 7
    ∷ on (requiring 1 [] 65535) ("contract violation (proven at compile time): requires violated" ∷ []) (returned (err (said "requires violated"))) 6
    -- with a String, which is shown; with an Integer, a Byte, a name and a String in parentheses, which are not, but are evaluated
    ∷ on (requiring 0 (string 2 ∷ []) 2) ("contract violation (proven at compile time): own" ∷ []) (stopped (said "own")) 7
    ∷ on (requiring 0 (number 5 ∷ []) 2) ("contract violation (proven at compile time): requires violated" ∷ []) (stopped (folded (value.int (pos 5)))) 7
    ∷ on (requiring 0 (byte 5 ∷ []) 2) ("contract violation (proven at compile time): requires violated" ∷ []) (stopped (folded (value.int (pos 5)))) 7
    ∷ on (requiring 0 (identifier 1 ∷ []) 2) ("contract violation (proven at compile time): requires violated" ∷ []) (stopped (folded (value.int (pos 7)))) 7
    ∷ on (requiring 0 (string 2 ∷ grouping 2 ∷ []) 3) ("contract violation (proven at compile time): requires violated" ∷ []) (stopped (said "own")) 8
    -- an ensures, which is never reported: without a message, of a function and of a result function; with one
    ∷ on (ensuring 0 0 [] 65535) [] (stopped (said "ensures violated")) 11
    ∷ on (ensuring 1 2 (made 49 (num 2 ∷ num 0 ∷ []) ∷ []) 65535) [] (returned (err (said "ensures violated"))) 15
    ∷ on (ensuring 0 0 (string 2 ∷ []) 2) [] (stopped (said "own")) 11
    -- all that is violated is reported, in order; a reading stops at the first
    ∷ on (claused 0 over9 (bool 0 ∷ string 2 ∷ bool 1 ∷ []) [] (clause 1 65535 ∷ clause 3 65535 ∷ clause 1 2 ∷ []) (pair 0 3) (pair 0 0))
    ("contract violation (proven at compile time): refinement failed: x > 9" ∷ "contract violation (proven at compile time): requires violated"
    ∷ "contract violation (proven at compile time): own" ∷ [])
    (stopped (said "refinement failed: x > 9")) 9
    ∷ []

-- THEOREM: they are reported, read, and run where they are lowered, so
pub refinements_so : map actual rows ≡ map expected rows
unfolding lowering running folding evaluating proving argument_lists each rows
refinements_so = refl
