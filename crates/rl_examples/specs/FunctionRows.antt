-- The rows of the tables on runs: an image of one function, built from records, the values of its parameters, and how it must end.
use Rattle.std.specs.Prelude.{ℕ, ◌+◌, ◌-◌, Bool, cond, List, [], ◌∷◌, ◌++◌, length, pos, nat_lt}
use Prim.Native.String.{String}
use Rattle.rl_spec.specs.Image.{Field, num, pair, Rec, Image}
use Rattle.rl_spec.specs.Values as value
use Rattle.rl_spec.specs.Tree.{ascii}
use Rattle.rl_spec.specs.Ranges.{up_from}
use Rattle.rl_spec.specs.Run.{Plain, nothing, folded, Value, plain, Outcome, returned, spent}
use Rattle.rl_spec.specs.Mapped.{Text}
use Rattle.rl_examples.specs.MarkedImages.{made, integer, build}

-- ---- the texts of each image, and their numbers; two of them stand there twice

abbrev texts : List String
texts = "f" ∷ "x" ∷ "y" ∷ "ret" ∷ "no" ∷ "x" ∷ "no" ∷ "std" ∷ "res" ∷ "is_err" ∷ "result_unwrap" ∷ "__ensure_ret_0" ∷ []

abbrev pub x : ℕ
x = 1

abbrev pub y : ℕ
y = 2

abbrev pub ret : ℕ
ret = 3

abbrev pub no : ℕ
no = 4

abbrev pub other_x : ℕ
other_x = 5

abbrev pub other_no : ℕ
other_no = 6

abbrev pub temporary : ℕ
temporary = 11

-- ---- the list entries of each image: the paths std::res::is_err, std::res::result_unwrap, x::res::is_err, std::x::result_unwrap and
-- std::res::x, and the numbers from 0 on

abbrev entries : List ℕ
entries = 7 ∷ 8 ∷ 9 ∷ 7 ∷ 8 ∷ 10 ∷ 1 ∷ 8 ∷ 9 ∷ 7 ∷ 1 ∷ 10 ∷ 7 ∷ 8 ∷ 1 ∷ up_from 0 8

-- n nodes or statements from the k-th on
abbrev pub from : ℕ → ℕ → Field
from k n = pair (15 + k) n

-- ---- nodes

abbrev pub null : Rec
null = made 16 (num 2 ∷ [])

abbrev pub number : ℕ → Rec
number n = integer (pos n)

abbrev pub assign : ℕ → ℕ → Rec
assign t n = made 39 (num 2 ∷ num t ∷ num n ∷ [])

abbrev pub ok_literal : ℕ → Rec
ok_literal n = made 49 (num 2 ∷ num n ∷ [])

abbrev pub err_literal : ℕ → Rec
err_literal n = made 50 (num 2 ∷ num n ∷ [])

-- a Call of a path on arguments
abbrev pub call_of : Field → Field → Rec
call_of path args = made 41 (num 2 ∷ path ∷ args ∷ [])

abbrev pub is_err : ℕ → Rec
is_err n = call_of (pair 0 3) (from n 1)

abbrev pub result_unwrap : ℕ → Rec
result_unwrap n = call_of (pair 3 3) (from n 1)

-- ---- statements

abbrev pub none : ℕ
none = 65535

abbrev pub declare : ℕ → ℕ → Rec
declare t n = made 64 (num 3 ∷ num t ∷ num 7 ∷ num n ∷ num 9 ∷ [])

abbrev pub bare : ℕ → Rec
bare n = made 65 (num 3 ∷ num n ∷ [])

abbrev pub return : ℕ → Rec
return n = made 66 (num 3 ∷ num n ∷ [])

abbrev pub return_alone : Rec
return_alone = made 67 (num 3 ∷ [])

-- a branch, and the else branch or none
abbrev pub conditional : ℕ → ℕ → Rec
conditional b e = made 68 (num 3 ∷ num b ∷ num e ∷ [])

-- a condition or none, and needs_scope
abbrev pub branch_by : ℕ → ℕ → Field → Rec
branch_by scope n list = made 69 (num 3 ∷ num n ∷ list ∷ num scope ∷ [])

abbrev pub branch : ℕ → Field → Rec
branch n list = branch_by 0 n list

abbrev pub while : ℕ → Field → Rec
while n list = made 70 (num 3 ∷ num n ∷ list ∷ [])

abbrev pub loop : Field → Rec
loop list = made 71 (num 3 ∷ list ∷ [])

abbrev pub break : Rec
break = made 77 (num 3 ∷ [])

abbrev pub continue : Rec
continue = made 78 (num 3 ∷ [])

-- a statement that no run may begin
abbrev pub never : Rec
never = made 79 (num 3 ∷ num 0 ∷ [])

-- ---- values

abbrev pub int : {T : Type 0} → ℕ → Value T
int n = plain (folded (value.int (pos n)))

abbrev pub truth : {T : Type 0} → Bool → Value T
truth b = plain (folded (value.bool b))

abbrev pub str : {T : Type 0} → T → Value T
str t = plain (folded (value.str t))

abbrev pub returned_null : {T : Type 0} → Outcome T
returned_null = returned (plain nothing)

abbrev pub five : {T : Type 0} → Plain T
five = folded (value.int (pos 5))

abbrev pub said : String → Plain Text
said s = folded (value.str (ascii s))

-- ---- images of one function

-- what stands around a body: 0 or 1 for a result function, parameters, requires, ensures
pub record Contract : Type 0 where
  pub result : ℕ
  pub params : List Rec
  pub requires : List Rec
  pub ensures : List Rec

abbrev pub contract : ℕ → List Rec → List Rec → List Rec → Contract
contract result params requires ensures =
    record { result = result; params = params; requires = requires; ensures = ensures }

-- with this body, of these nodes and statements; the list entries of each image and more
abbrev pub with_body : Contract → List Rec → List Rec → List ℕ → Field → Image
with_body c nodes statements more body =
    build
    record {
      texts = texts;
      lists = entries ++ more;
      expressions = nodes;
      statements = statements;
      parameters = c.params;
      clauses = c.requires ++ c.ensures;
      functions =
          made 82
          (num 0 ∷ num 1 ∷ pair 0 (length c.params) ∷ num c.result ∷ body ∷ pair 0 (length c.requires)
          ∷ pair (length c.requires) (length c.ensures) ∷ [])
          ∷ [];
      calls = [];
    }

-- the last n of the statements are its body
abbrev pub of : Contract → List Rec → List Rec → ℕ → Image
of c nodes statements n = with_body c nodes statements [] (from (length statements - n) n)

-- its body is a list of statements by their numbers
abbrev pub listed : Contract → List Rec → List Rec → List ℕ → Image
listed c nodes statements list = with_body c nodes statements list (pair (length entries) (length list))

-- ---- rows

-- a function, the values of its parameters, and its outcome, with texts by their bytes, in so many steps. It is tried with these
-- budgets, and is Spent, with b steps, exactly where the budget b is less than the steps
pub record Row : Type 0 where
  pub image : Image
  pub function : ℕ
  pub values : List (Value ℕ)
  pub outcome : Outcome Text
  pub steps : ℕ
  pub budgets : List ℕ

abbrev pub expected : Row → ℕ → Outcome Text × ℕ
expected r b = cond (nat_lt b r.steps) (spent, b) (r.outcome, r.steps)

-- tried with every budget up to its steps, and a large one
abbrev pub ends : Image → List (Value ℕ) → Outcome Text → ℕ → Row
ends im vs o u =
    record { image = im; function = 0; values = vs; outcome = o; steps = u; budgets = up_from 0 (u + 1) ++ 2000 ∷ [] }

-- of many steps: tried with the budgets next to them
abbrev pub ends_late : Image → List (Value ℕ) → Outcome Text → ℕ → Row
ends_late im vs o u =
    record { image = im; function = 0; values = vs; outcome = o; steps = u; budgets = (u - 1) ∷ u ∷ 2000 ∷ [] }

-- Spent with every budget, here those below 20
abbrev pub endless : Image → List (Value ℕ) → Row
endless im vs = record { image = im; function = 0; values = vs; outcome = spent; steps = 20; budgets = up_from 0 20 }

-- of the k-th function
abbrev pub of_function : ℕ → Row → Row
of_function k r =
    record {
      image = r.image;
      function = k;
      values = r.values;
      outcome = r.outcome;
      steps = r.steps;
      budgets = r.budgets;
    }
