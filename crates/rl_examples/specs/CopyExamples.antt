-- Copies, and the texts of what is made, by computation.
-- Assumes nothing.
use Rattle.std.specs.Prelude.{◌≡◌, [], ◌∷◌, map, refl}
use Rattle.rl_spec.specs.Image.{num, pair, Image}
use Rattle.rl_spec.specs.Tree.{ascii}
use Rattle.rl_spec.specs.Make.{made}
use Rattle.rl_spec.specs.Lower.{lowered}
use Rattle.rl_examples.specs.MarkedImages.{identifier, clause, build}
use Rattle.rl_examples.specs.LowerExamples.{new, function, image, under_ensures, requires_map, texts_from, nodes_from, entries_from, lowering}

-- ---- the images; requires-map is in LowerExamples

-- a MethodCall on a Call, both on an Identifier and a ResolvedLambda
abbrev pub requires_method : Image
requires_method =
    image
    ("f" ∷ "a" ∷ "b" ∷ [])
    (1 ∷ 2 ∷ 0 ∷ 1 ∷ [])
    (identifier 1 ∷ made 57 (num 3 ∷ num 8 ∷ []) ∷ made 41 (num 4 ∷ pair 0 2 ∷ pair 2 2 ∷ [])
    ∷ made 43 (num 5 ∷ num 2 ∷ pair 0 2 ∷ pair 2 2 ∷ []) ∷ [])
    []
    (clause 3 0 ∷ [])
    (function 0 (pair 0 0) (pair 0 1) (pair 0 0))

-- three returns
abbrev pub three_returns : Image
three_returns = under_ensures (made 66 (num 5 ∷ num 0 ∷ []) ∷ []) (0 ∷ 0 ∷ 0 ∷ []) (pair 0 3)

-- f(x == "t", y != x)
abbrev pub refined_by_texts : Image
refined_by_texts =
    build
    record {
      texts = "f" ∷ "x" ∷ "t" ∷ "y" ∷ [];
      lists = [];
      expressions = [];
      statements = [];
      parameters =
          made 80 (num 1 ∷ num 0 ∷ num 5 ∷ num 2 ∷ num 2 ∷ []) ∷ made 80 (num 3 ∷ num 0 ∷ num 6 ∷ num 4 ∷ num 1 ∷ []) ∷ [];
      clauses = [];
      functions = made 82 (num 0 ∷ num 9 ∷ pair 0 2 ∷ num 0 ∷ pair 0 0 ∷ pair 0 0 ∷ pair 0 0 ∷ []) ∷ [];
      calls = [];
    }

-- ---- what is made of them

pub record Copies : Type 0 where
  -- requires-map: the Identifier twice, for it stands for copies; the Lambda's id and the fields' names in the new list; the spans of the
  -- originals
  pub copied_map : nodes_from 4 (lowered requires_map 0)
      ≡ identifier 1 ∷ identifier 1 ∷ made 52 (num 4 ∷ num 0 ∷ pair 6 4 ∷ []) ∷ made 36 (num 5 ∷ pair 10 2 ∷ [])
      ∷ new 33 (num 5 ∷ num 7 ∷ []) ∷ new 50 (num 0 ∷ []) ∷ new 41 (pair 12 3 ∷ pair 15 1 ∷ []) ∷ []
  pub copied_lists : entries_from 6 (lowered requires_map 0)
      ≡ 1 ∷ 5 ∷ 2 ∷ 1 ∷ 4 ∷ 6 ∷ 3 ∷ 4 ∷ 5 ∷ 9 ∷ 0 ∷ 2 ∷ []
  -- requires-method: the path, the method and the lambda's id are kept
  pub copied_method : nodes_from 4 (lowered requires_method 0)
      ≡ identifier 1 ∷ made 41 (num 4 ∷ pair 0 2 ∷ pair 4 2 ∷ []) ∷ identifier 1 ∷ made 43 (num 5 ∷ num 5 ∷ pair 0 2 ∷ pair 6 2 ∷ [])
      ∷ new 33 (num 5 ∷ num 7 ∷ []) ∷ new 50 (num 0 ∷ []) ∷ new 41 (pair 8 3 ∷ pair 11 1 ∷ []) ∷ []
  pub copied_arguments : entries_from 4 (lowered requires_method 0) ≡ 4 ∷ 1 ∷ 6 ∷ 1 ∷ 3 ∷ 4 ∷ 5 ∷ 9 ∷ 0 ∷ 2 ∷ []
  -- each return has a temporary of its own
  pub three_temporaries : texts_from 2 (lowered three_returns 0)
      ≡ map ascii ("__ensure_ret_0" ∷ "__ensure_ret_0" ∷ "ret" ∷ "std" ∷ "res" ∷ "result_unwrap" ∷ "__ensure_ret_0"
      ∷ "__ensure_ret_1" ∷ "__ensure_ret_1" ∷ "ret" ∷ "std" ∷ "res" ∷ "result_unwrap" ∷ "__ensure_ret_1"
      ∷ "__ensure_ret_2" ∷ "__ensure_ret_2" ∷ "ret" ∷ "std" ∷ "res" ∷ "result_unwrap" ∷ "__ensure_ret_2" ∷ [])
  -- each operand's text is new, even one that the image has
  pub operands_texts : texts_from 4 (lowered refined_by_texts 0)
      ≡ map ascii ("t" ∷ "x" ∷ "refinement failed: x == \"t\"" ∷ "std" ∷ "res" ∷ "result_unwrap"
      ∷ "x" ∷ "y" ∷ "refinement failed: y != x" ∷ "std" ∷ "res" ∷ "result_unwrap" ∷ [])

-- THEOREM
pub copies_so : Copies
unfolding lowering
copies_so = record { copied_map = refl; copied_lists = refl; copied_method = refl; copied_arguments = refl; three_temporaries = refl; operands_texts = refl }
