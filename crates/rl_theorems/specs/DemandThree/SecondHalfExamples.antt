-- What stands at any depth in an expression; a call whose second value is free, which never passes its callee's entry checks; and for
-- each premise of the second half of demand 3 a call that lacks it, meets the others, is reported, and passes. By computation.
-- Assumes nothing.
use Rattle.std.specs.Prelude.{◌≡◌, ℕ, zero, suc, ◌<◌, true, List, [], ◌∷◌, pos, ◌≢◌, slice_index, slice_index_or, refl}
use Rattle.std.proofs.Common.{ap, arith, lit<}
use Rattle.rl_spec.specs.Image.{Image, num, pair, encode, image_of}
use Rattle.rl_spec.specs.Values as value
use Rattle.rl_spec.specs.Tree.{ascii}
use Rattle.rl_spec.specs.Records.{function_at, call_at}
use Rattle.rl_spec.specs.Prove.{prove_of}
use Rattle.rl_spec.specs.Mapped.{map_expr, Text}
use Rattle.rl_spec.specs.Functions.{refinement_checks, contract_function}
use Rattle.rl_spec.specs.Run.{nothing, Value, plain, named, folds, find, update, eval}
use Rattle.rl_spec.specs.Reading.{checks}
use Rattle.rl_images.specs.Images.SchemaSorts.{all, all_at}
use Rattle.rl_examples.specs.MarkedImages.{made, integer, identifier, binary, grouping, parameter, refined, clause, function, call, build, named_behind, flow}
use Rattle.rl_theorems.specs.DemandThree.Folds.{none≢some}
use Rattle.rl_theorems.specs.DemandThree.DepthTests.{all_named, throughout, is_not, FoldsTo, folds_to}
use Rattle.rl_theorems.specs.DemandThree.Marked.{decoding, folding, proving}
use Rattle.rl_theorems.specs.DemandThree.Demand.{one, entry, StandsIn, itself, deeper, NoneIn, argument, parameter_name, NoIdentifier, DistinctNames, NoAssignment, ValuesFor, PassesEntry, Reported, proved, second_half, none_in, no_identifier, distinct_names, no_assignment}

abbrev int : ℕ → Value Text
int n = folds (value.int (pos n))

-- what the bytes of an image stand for
abbrev of : Image → Image
of im = image_of (encode im)

-- ---- the premises by search, of calls with up to two arguments

arguments_by : (im : Image) (call : ℕ) → all (λ j. throughout im (is_not 30) (argument im call j)) 0 (call_at im call).args.count ≡ true →
    NoIdentifier im call
arguments_by im call h j l =
    none_in im 30 (argument im call j)
    (all_at (λ j. throughout im (is_not 30) (argument im call j)) (call_at im call).args.count 0 j h (omega arith) (omega (arith, l)))

-- two parameters
names_by : (im : Image) (f : ℕ) → (function_at im f).params.count ≡ 2 → (parameter_name im f 0 ≢ parameter_name im f 1) → DistinctNames im f
names_by im f n h i j l m e =
    let a : i ≡ 0 = omega (arith, n, m) in
    let b : j ≡ 1 = omega (arith, n, m) in
    h (rw (a, b) at e)

values_by : (im : Image) (call : ℕ) (v w : Value Text) → FoldsTo im (argument im call 0) v → FoldsTo im (argument im call 1) w →
    (j : ℕ) → j < 2 → FoldsTo im (argument im call j) (slice_index_or (v ∷ w ∷ []) j (plain nothing))
values_by im call v w p q zero l = p
values_by im call v w p q (suc zero) l = q
values_by im call v w p q (suc (suc j)) l = absurd (omega (arith, l))

-- ---- what stands at any depth: of a list of fields the values and not the names, of a method call not the method

abbrev nested : Image
nested =
    build
    record {
      texts = "S" ∷ "x" ∷ [];
      lists = 0 ∷ 1 ∷ 0 ∷ [];
      -- x, 1, S { S: 1 }, S { x: x }, (1).S(), and the fourth in a Grouping
      expressions =
          identifier 1 ∷ integer (pos 1) ∷ made 52 (num 2 ∷ num 0 ∷ pair 0 2 ∷ []) ∷ made 52 (num 2 ∷ num 0 ∷ pair 1 2 ∷ [])
          ∷ made 43 (num 2 ∷ num 1 ∷ pair 0 1 ∷ pair 3 0 ∷ []) ∷ grouping 3 ∷ [];
      statements = [];
      parameters = [];
      clauses = [];
      functions = [];
      calls = [];
    }

pub names_apart : NoneIn (of nested) 30 2 × NoneIn (of nested) 30 4
unfolding decoding folding all_named throughout
names_apart = (none_in (of nested) 30 2 refl, none_in (of nested) 30 4 refl)

pub value_inside : StandsIn (of nested) 0 5
unfolding decoding
value_inside = deeper (one 1 refl) (deeper (entry 2 1 refl refl (lit< tt)) itself)

-- ---- f(1), parameters a > 5 and b: the value of b is free

abbrev short : Image
short =
    build
    record {
      texts = "f" ∷ "a" ∷ "b" ∷ [];
      lists = 0 ∷ [];
      expressions = integer (pos 1) ∷ [];
      statements = [];
      parameters = refined 1 1 (pos 5) ∷ parameter 2 ∷ [];
      clauses = [];
      functions = function 0 1 (pair 0 2) (pair 0 0) (pair 0 0) (pair 0 0) ∷ [];
      calls = call 0 10 (pair 0 1) ∷ [];
    }

short_values : (v : Value Text) → ValuesFor (of short) 0 0 (int 1 ∷ v ∷ [])
unfolding decoding folding proving
short_values v =
    record { many = refl; folded = λ j l m. let z : j ≡ 0 = omega (arith, m) in rw z (folds_to (of short) 0 (value.int (pos 1)) refl) }

pub short_never : (v : Value Text) (budget : ℕ) → PassesEntry (of short) 0 (int 1 ∷ v ∷ []) budget → ⊥
unfolding decoding folding proving prove_of all_named throughout
short_never v =
    second_half (encode short) 0 0 (proved 8192 4 1 refl (λ e. omega arith)) refl (arguments_by (of short) 0 refl)
    (names_by (of short) 0 refl (λ e. omega (arith, ap (λ t. slice_index t 0) e))) (λ j l. absurd (omega (arith, l))) (int 1 ∷ v ∷ []) (short_values v)

-- ---- NEEDED

checking : Unit {0}
unfolding decoding folding proving prove_of map_expr refinement_checks contract_function find update eval checks all_named throughout
checking = tt

-- one report, with the shortest slices; and the entry checks are passed
abbrev ReportedAndPasses : Image → List (Value Text) → ℕ → Type 0
ReportedAndPasses im vs budget = Reported (encode im) 0 × PassesEntry (of im) 0 vs budget

-- the parameters' names differ: f(1, 10), parameters a > 5 and a. The check finds the second
abbrev twice : Image
twice =
    build
    record {
      texts = "f" ∷ "a" ∷ [];
      lists = 0 ∷ 1 ∷ [];
      expressions = integer (pos 1) ∷ integer (pos 10) ∷ [];
      statements = [];
      parameters = refined 1 1 (pos 5) ∷ parameter 1 ∷ [];
      clauses = [];
      functions = function 0 1 (pair 0 2) (pair 0 0) (pair 0 0) (pair 0 0) ∷ [];
      calls = call 0 10 (pair 0 2) ∷ [];
    }

pub distinct_needed : ReportedAndPasses twice (int 1 ∷ int 10 ∷ []) 5
unfolding checking
distinct_needed = (proved 8192 4 1 refl (λ e. omega arith), (named (ascii "a") (int 10) ∷ named (ascii "a") (int 1) ∷ [], 0, refl))

twice_rest : NoIdentifier (of twice) 0 × NoAssignment (of twice) 0 × ValuesFor (of twice) 0 0 (int 1 ∷ int 10 ∷ [])
unfolding checking
twice_rest = (
  arguments_by (of twice) 0 refl,
  λ j l. absurd (omega (arith, l)),
  record {
    many = refl;
    folded = λ j l m.
        values_by (of twice) 0 _ _ (folds_to (of twice) 0 (value.int (pos 1)) refl) (folds_to (of twice) 1 (value.int (pos 10)) refl) j l;
  },
)

-- no identifier in the arguments: marked case 13. The value of the first is free
pub closed_needed : ReportedAndPasses named_behind (int 10 ∷ int 5 ∷ []) 5
unfolding checking
closed_needed = (proved 8192 4 1 refl (λ e. omega arith), (named (ascii "y") (int 5) ∷ named (ascii "x") (int 10) ∷ [], 0, refl))

behind_rest : DistinctNames (of named_behind) 0 × NoAssignment (of named_behind) 0 × ValuesFor (of named_behind) 0 0 (int 10 ∷ int 5 ∷ [])
unfolding checking
behind_rest = (
  names_by (of named_behind) 0 refl (λ e. omega (arith, ap (λ t. slice_index t 0) e)),
  λ j l. absurd (omega (arith, l)),
  record {
    many = refl;
    folded = λ j l m.
        values_by (of named_behind) 0 _ _ (λ w e. absurd (none≢some e)) (folds_to (of named_behind) 1 (value.int (pos 5)) refl) j l;
  },
)

-- no assignment in the conditions: f(1), parameter p, requires (p = 10) > 5 and p > 5
abbrev assigning : Image
assigning =
    build
    record {
      texts = "f" ∷ "p" ∷ [];
      lists = 0 ∷ [];
      expressions =
          integer (pos 1) ∷ integer (pos 10) ∷ made 39 (num 2 ∷ num 1 ∷ num 1 ∷ []) ∷ integer (pos 5) ∷ binary 2 10 3 ∷ identifier 1
          ∷ binary 5 10 3 ∷ [];
      statements = [];
      parameters = parameter 1 ∷ [];
      clauses = clause 4 65535 ∷ clause 6 65535 ∷ [];
      functions = function 0 1 (pair 0 1) (pair 0 0) (pair 0 2) (pair 0 0) ∷ [];
      calls = call 0 10 (pair 0 1) ∷ [];
    }

pub clean_needed : ReportedAndPasses assigning (int 1 ∷ []) 11
unfolding checking
clean_needed = (proved 8192 4 1 refl (λ e. omega arith), (named (ascii "p") (int 10) ∷ [], 0, refl))

assigning_rest : NoIdentifier (of assigning) 0 × DistinctNames (of assigning) 0 × ValuesFor (of assigning) 0 0 (int 1 ∷ [])
unfolding checking
assigning_rest = (
  arguments_by (of assigning) 0 refl,
  λ i j l m. absurd (omega (arith, m)),
  record {
    many = refl;
    folded = λ j l m. let z : j ≡ 0 = omega (arith, l) in rw z (folds_to (of assigning) 0 (value.int (pos 1)) refl);
  },
)

-- the value that the argument folds to: open(0), with 7
pub values_needed : ReportedAndPasses flow (int 7 ∷ []) 10
unfolding checking
values_needed = (proved 8192 4 1 refl (λ e. omega arith), (named (ascii "flow") (int 7) ∷ [], 0, refl))

flow_rest : NoIdentifier (of flow) 0 × DistinctNames (of flow) 0 × NoAssignment (of flow) 0
unfolding checking
flow_rest = (no_identifier 0 refl refl, distinct_names, no_assignment)
