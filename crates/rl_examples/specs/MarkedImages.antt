-- Small images, built from texts and records: those of the marked cases, and the printer's example.
use Rattle.std.specs.Prelude.{ℕ, ◌+◌, ◌-◌, List, [], ◌∷◌, ◌++◌, map, length, drop, ℤ, pos}
use Prim.Native.String.{String}
use Rattle.rl_spec.specs.declared.Id.{Id}
use Rattle.rl_spec.specs.declared.Section.TheVariants.{Expressions}
use Rattle.rl_spec.specs.Image.{Field, num, pair, Rec, Image, size_of}
use Rattle.rl_spec.specs.Tree.{ascii}
use Rattle.rl_spec.specs.Words.{bits64}

-- ---- records

abbrev pub made : ℕ → List Field → Rec
made k fs = record { kind = k; fields = fs }

-- nodes, with the span 2; texts and other nodes by their indices, a float by its bits
abbrev pub integer : ℤ → Rec
integer z = made 17 (num 2 ∷ num (bits64 z) ∷ [])

abbrev pub uint : ℕ → Rec
uint n = made 19 (num 2 ∷ num n ∷ [])

abbrev pub byte : ℕ → Rec
byte n = made 21 (num 2 ∷ num n ∷ [])

abbrev pub character : ℕ → Rec
character scalar = made 29 (num 2 ∷ num scalar ∷ [])

abbrev pub string : ℕ → Rec
string t = made 25 (num 2 ∷ num t ∷ [])

-- 0 or 1
abbrev pub bool : ℕ → Rec
bool n = made 26 (num 2 ∷ num n ∷ [])

abbrev pub float : ℕ → Rec
float bits = made 27 (num 2 ∷ num bits ∷ [])

abbrev pub identifier : ℕ → Rec
identifier t = made 30 (num 2 ∷ num t ∷ [])

abbrev pub binary : ℕ → ℕ → ℕ → Rec
binary l op r = made 32 (num 2 ∷ num l ∷ num op ∷ num r ∷ [])

abbrev pub unary : ℕ → ℕ → Rec
unary op n = made 33 (num 2 ∷ num op ∷ num n ∷ [])

abbrev pub grouping : ℕ → Rec
grouping n = made 34 (num 2 ∷ num n ∷ [])

-- a node with another span
abbrev pub spanned : ℕ → Rec → Rec
spanned span r = record { kind = r.kind; fields = num span ∷ drop 1 r.fields }

-- operators
abbrev pub plus : ℕ
plus = 1

abbrev pub minus : ℕ
minus = 2

abbrev pub slash : ℕ
slash = 4

abbrev pub compare : ℕ
compare = 6

abbrev pub bang_equal : ℕ
bang_equal = 7

abbrev pub less : ℕ
less = 8

-- a parameter, plain or compared with an integer: 1 Gt, 2 Ge
abbrev pub parameter : ℕ → Rec
parameter t = made 80 (num t ∷ num 0 ∷ num 0 ∷ num 0 ∷ num 0 ∷ [])

abbrev pub refined : ℕ → ℕ → ℤ → Rec
refined t op z = made 80 (num t ∷ num 0 ∷ num op ∷ num 1 ∷ num (bits64 z) ∷ [])

-- a condition and a message
abbrev pub clause : ℕ → ℕ → Rec
clause condition message = made 81 (num condition ∷ num message ∷ [])

-- name, span, parameters, body, requires, ensures; no result flag
abbrev pub function : ℕ → ℕ → Field → Field → Field → Field → Rec
function t span params body requires ensures =
    made 82 (num t ∷ num span ∷ params ∷ num 0 ∷ body ∷ requires ∷ ensures ∷ [])

abbrev pub call : ℕ → ℕ → Field → Rec
call t span args = made 83 (num t ∷ num span ∷ args ∷ [])

-- ---- images

-- texts one after the other in the text bytes, and their records, the first from a place on
unfoldable pub text_bytes : List String → List ℕ
text_bytes [] = []
text_bytes (t ∷ ts) = ascii t ++ text_bytes ts

unfoldable pub text_records : ℕ → List String → List Rec
text_records at [] = []
text_records at (t ∷ ts) =
    made 2 (pair at (length (ascii t)) ∷ []) ∷ text_records (at + length (ascii t)) ts

-- what an image is built from
pub record Parts : Type 0 where
  pub texts : List String
  pub lists : List ℕ
  pub expressions : List Rec
  pub statements : List Rec
  pub parameters : List Rec
  pub clauses : List Rec
  pub functions : List Rec
  pub calls : List Rec

abbrev pub build : Parts → Image
build p =
    record {
      arena = 1;
      bytes = text_bytes p.texts;
      records =
          text_records 0 p.texts ∷ map (λ n. made 3 (num n ∷ [])) p.lists ∷ p.expressions ∷ p.statements
          ∷ p.parameters ∷ p.clauses ∷ p.functions ∷ p.calls ∷ [];
    }

-- texts and nodes alone
abbrev pub nodes : List String → List Rec → Image
nodes texts expressions =
    build
    record {
      texts = texts;
      lists = [];
      expressions = expressions;
      statements = [];
      parameters = [];
      clauses = [];
      functions = [];
      calls = [];
    }

-- the last node of an image
abbrev pub last_node : Image → Id
last_node im = record { arena = record { 0 = im.arena }; node = record { 0 = size_of im Expressions - 1 } }

-- f(1, a), parameters a and b; requires b != 1 else "b is 1", b == 1 else "b is another"
abbrev pub named_before : Image
named_before =
    build
    record {
      texts = "f" ∷ "a" ∷ "b" ∷ "b is 1" ∷ "b is another" ∷ [];
      lists = 0 ∷ 1 ∷ [];
      expressions =
          integer (pos 1) ∷ identifier 1 ∷ identifier 2 ∷ binary 2 bang_equal 0 ∷ string 3 ∷ binary 2 compare 0 ∷ string 4 ∷ [];
      statements = [];
      parameters = parameter 1 ∷ parameter 2 ∷ [];
      clauses = clause 3 4 ∷ clause 5 6 ∷ [];
      functions = function 0 1 (pair 0 2) (pair 0 0) (pair 0 2) (pair 0 0) ∷ [];
      calls = call 0 10 (pair 0 2) ∷ [];
    }

-- f(y, 5), parameters x > 9 and y
abbrev pub named_behind : Image
named_behind =
    build
    record {
      texts = "f" ∷ "x" ∷ "y" ∷ [];
      lists = 0 ∷ 1 ∷ [];
      expressions = identifier 2 ∷ integer (pos 5) ∷ [];
      statements = [];
      parameters = refined 1 1 (pos 9) ∷ parameter 2 ∷ [];
      clauses = [];
      functions = function 0 1 (pair 0 2) (pair 0 0) (pair 0 0) (pair 0 0) ∷ [];
      calls = call 0 10 (pair 0 2) ∷ [];
    }

-- f(), whose body is `return true`, ensures `ret` without a message
abbrev pub returns_true : Image
returns_true =
    build
    record {
      texts = "f" ∷ "ret" ∷ [];
      lists = 0 ∷ [];
      expressions = bool 1 ∷ identifier 1 ∷ [];
      statements = made 66 (num 5 ∷ num 0 ∷ []) ∷ [];
      parameters = [];
      clauses = clause 1 65535 ∷ [];
      functions = function 0 1 (pair 0 0) (pair 0 1) (pair 0 0) (pair 0 1) ∷ [];
      calls = [];
    }

-- open(flow), flow >= 1, requires flow < 4096 else "flow id range", calls open(0) and open(5000): the image of samples/flow.txt
abbrev pub flow : Image
flow =
    build
    record {
      texts = "open" ∷ "flow" ∷ "flow id range" ∷ [];
      lists = 4 ∷ 5 ∷ 0 ∷ [];
      expressions =
          spanned 3 (identifier 1) ∷ spanned 3 (integer (pos 4096)) ∷ spanned 3 (binary 0 less 1) ∷ spanned 4 (string 2)
          ∷ spanned 7 (integer (pos 0)) ∷ spanned 9 (integer (pos 5000)) ∷ spanned 5 (identifier 1) ∷ [];
      -- return flow
      statements = made 66 (num 5 ∷ num 6 ∷ []) ∷ [];
      parameters = refined 1 2 (pos 1) ∷ [];
      clauses = clause 2 3 ∷ [];
      functions = function 0 2 (pair 0 1) (pair 2 1) (pair 0 1) (pair 1 0) ∷ [];
      calls = call 0 7 (pair 0 1) ∷ call 0 9 (pair 1 1) ∷ [];
    }
