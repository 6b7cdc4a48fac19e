-- The schema of the image: its sections, the kinds of record in each, and the fields of each kind.
use Rattle.std.specs.Prelude.{ℕ, Bool, false, cond, List, [], ◌∷◌, ◌==◌, nat_le, nat_lt}
use Rattle.rl_spec.specs.declared.Counts.{Counts}
use Rattle.rl_spec.specs.declared.Section.{Section}
use Rattle.rl_spec.specs.declared.Section.TheVariants.{Texts, Lists, Expressions, Statements, Parameters, Clauses, Functions, Calls}
use Rattle.rl_spec.specs.declared.Target.TheVariants.{Text, Expression, Statement, Branch, ElseBranch, Arm}
use Rattle.rl_spec.specs.declared.Sort.{Sort}
use Rattle.rl_spec.specs.declared.Sort.TheVariants.{Raw, Byte, Scalar, Part, One, Maybe, Many, Range, OperandSort, Operand}

-- ---- the header: the limits of its counts, in order

unfoldable pub limits : List ℕ
limits = 16384 ∷ 2048 ∷ 4096 ∷ 4096 ∷ 2048 ∷ 256 ∷ 256 ∷ 64 ∷ 256 ∷ []

-- where the text bytes start: after the kind, the arena number and nine counts
abbrev pub text_bytes_at : ℕ
text_bytes_at = 23

-- ---- the sections of records, in order

unfoldable pub sections : List Section
sections = Texts ∷ Lists ∷ Expressions ∷ Statements ∷ Parameters ∷ Clauses ∷ Functions ∷ Calls ∷ []

abbrev pub count_of : Counts → Section → ℕ
count_of c Texts = c.texts
count_of c Lists = c.lists
count_of c Expressions = c.expressions
count_of c Statements = c.statements
count_of c Parameters = c.parameters
count_of c Clauses = c.clauses
count_of c Functions = c.functions
count_of c Calls = c.calls

-- the kinds of a section: from the lowest to the highest
abbrev pub lowest : Section → ℕ
lowest Texts = 2
lowest Lists = 3
lowest Expressions = 16
lowest Statements = 64
lowest Parameters = 80
lowest Clauses = 81
lowest Functions = 82
lowest Calls = 83

abbrev pub highest : Section → ℕ
highest Texts = 2
highest Lists = 3
highest Expressions = 57
highest Statements = 79
highest Parameters = 80
highest Clauses = 81
highest Functions = 82
highest Calls = 83

unfoldable pub in_section : Section → ℕ → Bool
in_section o k = cond (nat_lt k (lowest o)) false (nat_le k (highest o))

-- the greatest height; the records of the other sections have no children of their own section
abbrev pub tallest : Section → ℕ
tallest Texts = 1
tallest Lists = 1
tallest Expressions = 68
tallest Statements = 36
tallest Parameters = 1
tallest Clauses = 1
tallest Functions = 1
tallest Calls = 1

-- ---- the fields of each kind

-- the codes of the sorts of field, and what each stands for
abbrev pub raw1 : ℕ
raw1 = 1

abbrev pub raw2 : ℕ
raw2 = 2

abbrev pub raw4 : ℕ
raw4 = 3

abbrev pub raw8 : ℕ
raw8 = 4

-- a span
abbrev pub span : ℕ
span = 3

-- a number that nothing looks into
abbrev pub opaque : ℕ
opaque = 3

abbrev pub flag : ℕ
flag = 5

abbrev pub operator : ℕ
operator = 6

abbrev pub refinement : ℕ
refinement = 7

abbrev pub operand_sort : ℕ
operand_sort = 8

abbrev pub operand : ℕ
operand = 9

abbrev pub scalar : ℕ
scalar = 10

abbrev pub part : ℕ
part = 11

abbrev pub text : ℕ
text = 12

abbrev pub node : ℕ
node = 13

abbrev pub node_or_none : ℕ
node_or_none = 14

abbrev pub statement : ℕ
statement = 15

abbrev pub branch : ℕ
branch = 16

abbrev pub else_branch : ℕ
else_branch = 17

abbrev pub texts : ℕ
texts = 18

abbrev pub nodes : ℕ
nodes = 19

abbrev pub node_pairs : ℕ
node_pairs = 20

abbrev pub field_pairs : ℕ
field_pairs = 21

abbrev pub body : ℕ
body = 22

abbrev pub arms : ℕ
arms = 23

abbrev pub parameters : ℕ
parameters = 24

abbrev pub clauses : ℕ
clauses = 25

unfoldable pub sort_of : ℕ → Sort
sort_of c =
    cond (c == raw1) (Raw 1)
    (cond (c == raw2) (Raw 2)
    (cond (c == raw4) (Raw 4)
    (cond (c == raw8) (Raw 8)
    (cond (c == flag) (Byte 0 1)
    (cond (c == operator) (Byte 1 63)
    (cond (c == refinement) (Byte 0 6)
    (cond (c == operand_sort) OperandSort
    (cond (c == operand) Operand
    (cond (c == scalar) Scalar
    (cond (c == part) Part
    (cond (c == text) (One Text)
    (cond (c == node) (One Expression)
    (cond (c == node_or_none) (Maybe Expression)
    (cond (c == statement) (One Statement)
    (cond (c == branch) (One Branch)
    (cond (c == else_branch) (Maybe ElseBranch)
    (cond (c == texts) (Many Text Text 1)
    (cond (c == nodes) (Many Expression Expression 1)
    (cond (c == node_pairs) (Many Expression Expression 2)
    (cond (c == field_pairs) (Many Text Expression 2)
    (cond (c == body) (Many Statement Statement 1)
    (cond (c == arms) (Many Arm Arm 1) (cond (c == parameters) (Range Parameters) (Range Clauses))))))))))))))))))))))))

-- the bytes that a field takes
abbrev pub width_of : Sort → ℕ
width_of (Raw n) = n
width_of (Byte low high) = 1
width_of Scalar = 4
width_of Part = 4
width_of (One t) = 2
width_of (Maybe t) = 2
width_of (Many l r n) = 4
width_of (Range o) = 4
width_of OperandSort = 1
width_of Operand = 8

pub record Row : Type 0 where
  pub kind : ℕ
  pub fields : List ℕ

abbrev pub row : ℕ → List ℕ → Row
row k l = record { kind = k; fields = l }

unfoldable pub schema : List Row
schema =
    -- Text
    row 2 (part ∷ [])
    -- List entry
    ∷ row 3 (raw2 ∷ [])
    -- Null
    ∷ row 16 (span ∷ [])
    -- Integer
    ∷ row 17 (span ∷ raw8 ∷ [])
    -- SInt
    ∷ row 18 (span ∷ raw4 ∷ [])
    -- UInt
    ∷ row 19 (span ∷ raw8 ∷ [])
    -- SUInt
    ∷ row 20 (span ∷ raw4 ∷ [])
    -- Byte
    ∷ row 21 (span ∷ raw1 ∷ [])
    -- SByte
    ∷ row 22 (span ∷ raw1 ∷ [])
    -- BByte
    ∷ row 23 (span ∷ raw2 ∷ [])
    -- BSByte
    ∷ row 24 (span ∷ raw2 ∷ [])
    -- String
    ∷ row 25 (span ∷ text ∷ [])
    -- Bool
    ∷ row 26 (span ∷ flag ∷ [])
    -- Float
    ∷ row 27 (span ∷ raw8 ∷ [])
    -- SFloat
    ∷ row 28 (span ∷ raw4 ∷ [])
    -- Character
    ∷ row 29 (span ∷ scalar ∷ [])
    -- Identifier
    ∷ row 30 (span ∷ text ∷ [])
    -- ResolvedIdentifier
    ∷ row 31 (span ∷ text ∷ opaque ∷ opaque ∷ [])
    -- Binary
    ∷ row 32 (span ∷ node ∷ operator ∷ node ∷ [])
    -- Unary
    ∷ row 33 (span ∷ operator ∷ node ∷ [])
    -- Grouping
    ∷ row 34 (span ∷ node ∷ [])
    -- ArrayLiteral
    ∷ row 35 (span ∷ nodes ∷ [])
    -- MapLiteral
    ∷ row 36 (span ∷ node_pairs ∷ [])
    -- SetLiteral
    ∷ row 37 (span ∷ nodes ∷ [])
    -- TupleLiteral
    ∷ row 38 (span ∷ nodes ∷ [])
    -- Assign
    ∷ row 39 (span ∷ text ∷ node ∷ [])
    -- ResolvedAssign
    ∷ row 40 (span ∷ text ∷ opaque ∷ opaque ∷ node ∷ [])
    -- Call
    ∷ row 41 (span ∷ texts ∷ nodes ∷ [])
    -- CallExpr
    ∷ row 42 (span ∷ node ∷ nodes ∷ [])
    -- MethodCall
    ∷ row 43 (span ∷ node ∷ texts ∷ nodes ∷ [])
    -- Index
    ∷ row 44 (span ∷ node ∷ node ∷ [])
    -- IndexAssign
    ∷ row 45 (span ∷ node ∷ node ∷ node ∷ [])
    -- Cast
    ∷ row 46 (span ∷ node ∷ opaque ∷ [])
    -- Is
    ∷ row 47 (span ∷ node ∷ opaque ∷ [])
    -- ErrorLiteral
    ∷ row 48 (span ∷ node ∷ [])
    -- OkLiteral
    ∷ row 49 (span ∷ node ∷ [])
    -- ErrLiteral
    ∷ row 50 (span ∷ node ∷ [])
    -- Propagate
    ∷ row 51 (span ∷ node ∷ [])
    -- StructLiteral
    ∷ row 52 (span ∷ text ∷ field_pairs ∷ [])
    -- FieldAccess
    ∷ row 53 (span ∷ node ∷ text ∷ [])
    -- FieldAssign
    ∷ row 54 (span ∷ node ∷ text ∷ node ∷ [])
    -- EnumVariant
    ∷ row 55 (span ∷ text ∷ text ∷ [])
    -- Lambda
    ∷ row 56 (span ∷ opaque ∷ [])
    -- ResolvedLambda
    ∷ row 57 (span ∷ opaque ∷ [])
    -- VariableDeclaration: name, type, value, rest
    ∷ row 64 (span ∷ text ∷ opaque ∷ node ∷ opaque ∷ [])
    -- Expression
    ∷ row 65 (span ∷ node ∷ [])
    -- Return
    ∷ row 66 (span ∷ node ∷ [])
    -- Return alone
    ∷ row 67 (span ∷ [])
    -- Conditional
    ∷ row 68 (span ∷ branch ∷ else_branch ∷ [])
    -- ConditionalBranch
    ∷ row 69 (span ∷ node_or_none ∷ body ∷ flag ∷ [])
    -- While
    ∷ row 70 (span ∷ node ∷ body ∷ [])
    -- Loop
    ∷ row 71 (span ∷ body ∷ [])
    -- For
    ∷ row 72 (span ∷ statement ∷ node ∷ node ∷ body ∷ [])
    -- ForRange
    ∷ row 73 (span ∷ text ∷ statement ∷ body ∷ [])
    -- ForEach
    ∷ row 74 (span ∷ text ∷ node ∷ body ∷ [])
    -- Match
    ∷ row 75 (span ∷ node ∷ arms ∷ [])
    -- match arm
    ∷ row 76 (span ∷ node_or_none ∷ body ∷ [])
    -- Break
    ∷ row 77 (span ∷ [])
    -- Continue
    ∷ row 78 (span ∷ [])
    -- any other statement
    ∷ row 79 (span ∷ opaque ∷ [])
    -- Parameter: name, type, refinement, operand's sort, operand
    ∷ row 80 (text ∷ opaque ∷ refinement ∷ operand_sort ∷ operand ∷ [])
    -- Clause: condition, message
    ∷ row 81 (node ∷ node_or_none ∷ [])
    -- Function: name, span, parameters, result flag, body, requires, ensures
    ∷ row 82 (text ∷ span ∷ parameters ∷ flag ∷ body ∷ clauses ∷ clauses ∷ [])
    -- Call: callee, span, arguments
    ∷ row 83 (text ∷ span ∷ nodes ∷ [])
    ∷ []

unfoldable pub fields_in : ℕ → List Row → List ℕ
fields_in k [] = []
fields_in k (r ∷ rs) = cond (k == r.kind) r.fields (fields_in k rs)

unfoldable pub fields_of : ℕ → List ℕ
fields_of k = fields_in k schema
