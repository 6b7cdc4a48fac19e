-- Rows of the tables of operators, literals and floats: nodes, and what folding and running make of the last of them, a float by its
-- bits, a text by its index.
use Rattle.std.specs.Prelude.{ℕ, ◌-◌, ◌^◌, Bool, true, false, cond, List, [], ◌∷◌, ◌++◌, map, length, ℤ, pos, negsuc, None, Some, Ok, Err}
use Rattle.std.proofs.Math.Option.{Option, none, some}
use Rattle.std.specs.Float.Ieee as F
use Rattle.std.specs.Float.{binary64}
use Rattle.rl_spec.specs.declared.ConstVal.{ConstVal}
use Rattle.rl_spec.specs.declared.ConstVal.TheVariants.{Int, Float, Str, Bool as Truth}
use Rattle.rl_spec.specs.Answers.{Folded, RunAnswer}
use Rattle.rl_spec.specs.declared.Outcome.{Outcome}
use Rattle.rl_spec.specs.declared.Outcome.TheVariants.{Returned, Stopped, Fault, Spent}
use Rattle.rl_spec.specs.declared.Plain.{Plain}
use Rattle.rl_spec.specs.declared.Plain.TheVariants.{Null, Const}
use Rattle.rl_spec.specs.declared.Value.TheVariants.{Plain as Bare}
use Rattle.rl_spec.specs.declared.Value.TheVariants as val
use Rattle.rl_spec.specs.Image.{num, pair, Rec, Image, text_of}
use Rattle.rl_spec.specs.Values.{compare_values, compare_floats, compare_bools, less_text, same_text, arith_values, bang, negate}
use Rattle.rl_spec.specs.Folded.{as_folded}
use Rattle.rl_spec.specs.Tree.{ascii, form_by, descend_by, descend, expr_tree}
use Rattle.rl_spec.specs.Fold.{unary_value, unary_folded, binary_value, binary_folded, lookup, const_eval}
use Rattle.rl_spec.specs.Records.{param_at, function_at}
use Rattle.rl_spec.specs.Ranges.{up_from}
use Rattle.rl_spec.specs.Statement.{statement_by, item_tree}
use Rattle.rl_spec.specs.Run.{find, eval}
use Rattle.rl_spec.specs.Reading.{top, run_function}
use Rattle.rl_spec.specs.Functions.{plain_function}
use Rattle.rl_spec.specs.Runner.{ran_in}
use Rattle.rl_examples.specs.MarkedImages.{made, binary, unary, function, text_bytes, text_records, build}

-- the texts "", "a", "ab", "b", "ab", and, by their bytes, "é" and "è"; the nodes; and a function without parameters whose body is the last node alone, a bare expression
abbrev pub around : List Rec → Image
around nodes =
    build
    record {
      texts = "" ∷ "a" ∷ "ab" ∷ "b" ∷ "ab" ∷ "Ã©" ∷ "Ã¨" ∷ [];
      lists = 0 ∷ [];
      expressions = nodes;
      statements = made 65 (num 5 ∷ num (length nodes - 1) ∷ []) ∷ [];
      parameters = [];
      clauses = [];
      functions = function 1 9 (pair 0 0) (pair 0 1) (pair 0 0) (pair 0 0) ∷ [];
      calls = [];
    }

-- ---- what is seen

pub data Seen : Type 0 where
  whole : ℤ → Seen
  a_float : ℕ → Seen
  a_nan : Seen
  text : ℕ → Seen
  truth : Bool → Seen
  null : Seen

pub data Ended : Type 0 where
  gives : Seen → Ended
  faults : ℕ → Ended
  -- an Ok or an Err, Stopped, Spent, a refusal
  another : Ended

abbrev seen : ConstVal → Seen
seen (Int z) = whole z
seen (Float x) = cond (F.is_nan x) a_nan (a_float (F.to_bits binary64 x))
seen (Str t) = text t
seen (Truth b) = truth b

abbrev seen_folded : Folded → Option Seen
seen_folded (Some v) = some (seen v)
seen_folded None = none

-- the last node
abbrev pub folded_to : List Rec → Option Seen
folded_to nodes = seen_folded (as_folded (const_eval (text_of (around nodes)) [] (expr_tree (around nodes) (length nodes - 1))))

abbrev seen_plain : Plain → Seen
seen_plain Null = null
seen_plain (Const v) = seen v

abbrev ended : Outcome → Ended
ended (Returned (Bare p)) = gives (seen_plain p)
ended (Returned (val.Ok p)) = another
ended (Returned (val.Err p)) = another
ended (Stopped p) = another
ended (Fault k) = faults k
ended Spent = another

abbrev seen_run : RunAnswer → Ended × ℕ
seen_run (Ok h) = (ended h.outcome, h.steps)
seen_run (Err r) = (another, 0)

-- the function, with the steps
abbrev pub ran_to : List Rec → Ended × ℕ
ran_to nodes = seen_run (ran_in (around nodes) 0 [] 1000)

-- ---- a row

-- what something folds to, if it does
abbrev pub Folds : Type 0
Folds = Option Seen

pub data Row : Type 0 where
  -- two literals; what they fold to by +, -, *, /, bytes 1 to 4; and by ==, !=, <, <=, >, >=, bytes 6 to 11. By 5 and by 12 they do not
  binaries : Rec → Rec → List Folds → List Folds → Row
  -- one literal; what it folds to by `-`, byte 2, and by `!`, byte 5. By the others of 1 to 12 it does not
  unaries : Rec → Folds → Folds → Row
  -- nodes; what the last one folds to; what its run comes to, and its steps
  node : List Rec → Folds → Ended → ℕ → Row

abbrev seen_of : List Rec → Folds × (Ended × ℕ)
seen_of nodes = (folded_to nodes, ran_to nodes)

abbrev pub actual : Row → List (Folds × (Ended × ℕ))
actual (binaries l r arithmetic verdicts) = map (λ op. seen_of (l ∷ r ∷ binary 0 op 1 ∷ [])) (up_from 1 12)
actual (unaries e negation bang) = map (λ op. seen_of (e ∷ unary op 0 ∷ [])) (up_from 1 12)
actual (node nodes v o n) = seen_of nodes ∷ []

-- it is run to what it folds to, in n steps; fault 4 where that is nothing
abbrev also_run : ℕ → Folds → Folds × (Ended × ℕ)
also_run n none = (none, (faults 4, n))
also_run n (some v) = (some v, (gives v, n))

-- a step for the statement and one for each node
abbrev pub expected : Row → List (Folds × (Ended × ℕ))
expected (binaries l r arithmetic verdicts) = map (also_run 4) (arithmetic ++ none ∷ verdicts ++ none ∷ [])
expected (unaries e negation bang) =
    map (also_run 3) (none ∷ negation ∷ none ∷ none ∷ bang ∷ none ∷ none ∷ none ∷ none ∷ none ∷ none ∷ none ∷ [])
expected (node nodes v o n) = (v, (o, n)) ∷ []

-- ---- the literals of rows, and what is seen

abbrev pub literal : ℕ → ℕ → Rec
literal kind payload = made kind (num 2 ∷ num payload ∷ [])

abbrev pub number : ℕ → Rec
number n = literal 17 n

abbrev pub negative : ℕ → Rec
negative n = literal 17 (2 ^ 64 - n)

abbrev pub int : ℕ → Folds
int n = some (whole (pos n))

abbrev pub minus : ℕ → Folds
minus n = some (whole (negsuc (n - 1)))

abbrev pub bits : ℕ → Folds
bits n = some (a_float n)

-- `inf - inf` is a value
abbrev pub notANumber : Folds
notANumber = some a_nan

abbrev pub yes : Folds
yes = some (truth true)

abbrev pub no : Folds
no = some (truth false)

-- a literal alone: what it is; or that it does not fold, and its fault
abbrev pub folds : Rec → Seen → Row
folds r v = node (r ∷ []) (some v) (gives v) 2

abbrev pub lacks : Rec → ℕ → Row
lacks r n = node (r ∷ []) none (faults n) 2

-- ==, !=, <, <=, >, >= where the left is less, the same, greater
abbrev pub less : List Folds
less = no ∷ yes ∷ yes ∷ yes ∷ no ∷ no ∷ []

abbrev pub same : List Folds
same = yes ∷ no ∷ no ∷ yes ∷ no ∷ yes ∷ []

abbrev pub greater : List Folds
greater = no ∷ yes ∷ no ∷ no ∷ yes ∷ yes ∷ []

-- of truth values, and of what is not compared
abbrev pub alike : List Folds
alike = yes ∷ no ∷ none ∷ none ∷ none ∷ none ∷ []

abbrev pub unlike : List Folds
unlike = no ∷ yes ∷ none ∷ none ∷ none ∷ none ∷ []

abbrev pub incomparable : List Folds
incomparable = none ∷ none ∷ none ∷ none ∷ none ∷ none ∷ []

abbrev pub no_arithmetic : List Folds
no_arithmetic = none ∷ none ∷ none ∷ none ∷ []

-- ---- what computation opens of folding a node and of running it

unfoldable pub folding : Unit {0}
unfolding text_bytes text_records ascii up_from form_by descend_by descend expr_tree unary_value unary_folded binary_value binary_folded lookup const_eval compare_values compare_floats compare_bools less_text same_text arith_values bang negate F.of_int F.round F.of_bits F.of_fields F.to_bits F.odd F.units F.size F.climb F.span F.eq F.lt F.is_nan F.neg F.add F.sub F.mul F.div F.sum
folding = tt

unfoldable pub evaluating : Unit {0}
unfolding param_at function_at statement_by item_tree plain_function find eval top run_function ran_in
evaluating = tt
