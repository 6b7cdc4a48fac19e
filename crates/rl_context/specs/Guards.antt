-- What guards and wrapped returns promise.
use Rattle.std.specs.Prelude.{◌≡◌, ℕ, ◌+◌, ◌<◌, Bool, cond, List, [], ◌∷◌, map}
use Rattle.rl_spec.specs.declared.Clause.{Clause}
use Rattle.rl_spec.specs.declared.Interval.{Interval}
use Rattle.rl_spec.specs.declared.Refinement.{Refinement}
use Rattle.rl_spec.specs.Folded.{op_of}
use Rattle.rl_spec.specs.Schema.{fields_of}
use Rattle.rl_spec.specs.Image.{num, Image, text_of}
use Rattle.rl_spec.specs.Records.{clause_at, function_at}
use Rattle.rl_spec.specs.Words.{bits64}
use Rattle.rl_spec.specs.Ranges.{numbers_in}
use Rattle.rl_spec.specs.FnContracts.{RefineOperand, integer, str, bool, param, ParamRefinement, Param, param_of, operand_of}
use Rattle.rl_spec.specs.Make.{Make, ◌>>=◌, give, new_text}
use Rattle.rl_spec.specs.Lower.{expr, ident, str_lit, unwrap_call, violation, only_if, guard, token_of, refine_predicate, refinement_guard}
use Rattle.rl_schema.specs.Codes.{codes}
use Rattle.rl_context.specs.declared.refinements.Operand.{Operand}
use Rattle.rl_context.specs.declared.refinements.Predicate.{Predicate}
use Rattle.rl_context.specs.Does.{State, nothing, all, Does}

-- one statement or node; and statements that wait then
abbrev pub Makes : Image → Make ℕ → State → ℕ → State → Type 0
Makes im m s n t = Does im 0 0 nothing m s n t

abbrev pub Gathers : Image → ℕ → Make (List ℕ) → State → State → Type 0
Gathers im slack m s t = (ns : List ℕ) × Does im slack 0 all m s ns t

-- a guard, once its predicate is copied
abbrev pub guard_of : ℕ → ℕ → Make ℕ
guard_of copy msg = do
  neg ← expr 33 (num 5 ∷ num copy ∷ [])
  s ← violation msg
  only_if neg s

-- the value that `ret` names
abbrev pub inner_of : List ℕ → Bool → Make ℕ
inner_of temp is_result = do
  n ← ident temp
  cond is_result (unwrap_call n) (give n)

abbrev pub clauses_in : Image → Interval → List Clause
clauses_in im clauses = map (clause_at im) (numbers_in clauses)

-- so many expressions are enough for the clauses' conditions
abbrev pub ConditionsIn : Image → Interval → ℕ → Type 0
ConditionsIn im clauses n = (i : ℕ) → i < clauses.count → (clause_at im (clauses.first + i)).condition < n

-- ---- refinements

-- the kinds of operand of a refinement's predicate: records of a span and a number
pub data Leaf : ℕ → Type 0 where
  an_integer : Leaf 17
  a_string : Leaf 25
  a_bool : Leaf 26
  an_identifier : Leaf 30

-- an operand's kind and number, once its text is made
abbrev pub leaf_of : Image → RefineOperand ℕ → Make (ℕ × ℕ)
leaf_of im (integer v) = give (17, bits64 v)
leaf_of im (str s) = new_text (text_of im s) >>= λ t. give (25, t)
leaf_of im (bool b) = give (26, cond b 1 0)
leaf_of im (param p) = new_text (text_of im p) >>= λ t. give (30, t)

-- a refinement's predicate, with its right operand's kind and number and its left one's text
abbrev pub predicate_of : Image → ℕ → ParamRefinement ℕ → Make (ℕ × ((ℕ × ℕ) × ℕ))
predicate_of im name refinement = do
  leaf ← leaf_of im refinement.operand
  right ← expr leaf.0 (num leaf.1 ∷ [])
  t ← new_text (text_of im name)
  left ← expr 30 (num t ∷ [])
  pred ← expr 32 (num left ∷ num (token_of refinement.op) ∷ num right ∷ [])
  give (pred, (leaf, t))

-- the predicate's copy, which has the same texts
abbrev pub copy_of : ℕ × ℕ → ℕ → ℕ → Make ℕ
copy_of leaf t token = do
  left ← expr 30 (num t ∷ [])
  right ← expr leaf.0 (num leaf.1 ∷ [])
  expr 32 (num left ∷ num token ∷ num right ∷ [])

-- a refinement's guard, with its message
abbrev pub refined_by : Image → ℕ → ParamRefinement ℕ → List ℕ → Make (List ℕ)
refined_by im name refinement text = do
  pred ← refine_predicate im name refinement
  msg ← str_lit text
  s ← guard pred msg
  give (s ∷ [])

-- a refinement of the code
abbrev pub refined_as : Refinement → ParamRefinement ℕ
refined_as r = record { op = op_of r.op; operand = operand_of r.operand }

-- an operand of the code, once its text is made
pub record OperandMade (im : Image) (m : Make (ℕ × ℕ)) (s : State) (o : Operand) (t : State) : Type 0 where
  pub does : Does im 0 0 nothing m s (o.kind.number, o.word) t
  pub leaf : Leaf o.kind.number
  pub row : codes o.kind.row ≡ fields_of o.kind.number

-- a predicate of the code
pub record PredicateMade (im image : Image) (name : ℕ) (refinement : ParamRefinement ℕ) (s : State) (p : Predicate) (t : State) : Type 0 where
  pub does : Makes im (refine_predicate image name refinement) s p.index t
  pub parts : Does im 0 0 nothing (predicate_of image name refinement) s (p.index, ((p.right.kind.number, p.right.word), p.text)) t
  pub token : p.token ≡ token_of refinement.op
  pub leaf : Leaf p.right.kind.number
  pub row : codes p.right.kind.row ≡ fields_of p.right.kind.number

-- the guard of a function's parameter, by its number
abbrev pub guard_for : Image → Param ℕ → Make (List ℕ)
guard_for im p = refinement_guard im p.name p.refinement

abbrev pub guard_in : Image → ℕ → ℕ → Make (List ℕ)
guard_in im f n = guard_for im (param_of im ((function_at im f).params.first + n))
