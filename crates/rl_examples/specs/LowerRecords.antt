-- Records that lowering makes or rebuilds, by computation: their spans, their order, the temporaries' numbers, and what is kept.
-- Assumes nothing.
use Rattle.std.specs.Prelude.{◌≡◌, ℕ, List, [], ◌∷◌, map, replicate, refl}
use Prim.Native.String.{String}
use Rattle.std.proofs.Math.Option.{Option, none, some}
use Rattle.rl_spec.specs.declared.Section.TheVariants.{Statements}
use Rattle.rl_spec.specs.Image.{Field, num, pair, Rec, Image, record_of}
use Rattle.rl_spec.specs.Tree.{ascii}
use Rattle.rl_spec.specs.Make.{made}
use Rattle.rl_spec.specs.Lower.{lowered}
use Rattle.rl_examples.specs.MarkedImages.{bool, identifier, clause, function, build}
use Rattle.rl_examples.specs.LowerExamples.{new, image, under_ensures, statements_from, texts_from, nodes_from, lowering, decoding, read_by}

-- ---- the images

-- two functions with the spans 9 and 4, of which the second has a requires, of an Identifier and without a message
abbrev pub two_spans : Image
two_spans =
    build
    record {
      texts = "f" ∷ "p" ∷ [];
      lists = [];
      expressions = identifier 1 ∷ [];
      statements = [];
      parameters = [];
      clauses = clause 0 65535 ∷ [];
      functions =
          function 0 9 (pair 0 0) (pair 0 0) (pair 0 0) (pair 0 0) ∷ function 0 4 (pair 0 0) (pair 0 0) (pair 0 1) (pair 0 0) ∷ [];
      calls = [];
    }

-- twelve returns
abbrev pub twelve_returns : Image
twelve_returns = under_ensures (made 66 (num 5 ∷ num 0 ∷ []) ∷ []) (replicate 12 0) (pair 0 12)

-- requires p, ensures ret, `return true`
abbrev pub both_clauses : Image
both_clauses =
    image
    ("f" ∷ "p" ∷ "ret" ∷ [])
    (0 ∷ [])
    (identifier 1 ∷ identifier 2 ∷ bool 1 ∷ [])
    (made 66 (num 5 ∷ num 2 ∷ []) ∷ [])
    (clause 0 65535 ∷ clause 1 65535 ∷ [])
    (function 0 9 (pair 0 0) (pair 0 1) (pair 0 1) (pair 1 1))

-- what is made for requires comes before what is made for ensures
abbrev pub both_lowered : Image
both_lowered =
    image
    ("f" ∷ "p" ∷ "ret" ∷ "requires violated" ∷ "std" ∷ "res" ∷ "result_unwrap" ∷ "__ensure_ret_0" ∷ "__ensure_ret_0" ∷ "ret"
    ∷ "ensures violated" ∷ "std" ∷ "res" ∷ "result_unwrap" ∷ "__ensure_ret_0" ∷ [])
    (0 ∷ 4 ∷ 5 ∷ 6 ∷ 6 ∷ 1 ∷ 11 ∷ 12 ∷ 13 ∷ 12 ∷ 6 ∷ 3 ∷ 4 ∷ 5 ∷ 8 ∷ 9 ∷ [])
    (identifier 1 ∷ identifier 2 ∷ bool 1
    -- the message, the copy, its negation, err(message), result_unwrap(err(message))
    ∷ new 25 (num 3 ∷ []) ∷ identifier 1 ∷ new 33 (num 5 ∷ num 4 ∷ []) ∷ new 50 (num 3 ∷ []) ∷ new 41 (pair 1 3 ∷ pair 4 1 ∷ [])
    -- the temp; the same of the ensures; the temp that is returned
    ∷ new 30 (num 8 ∷ []) ∷ new 25 (num 10 ∷ []) ∷ identifier 2 ∷ new 33 (num 5 ∷ num 10 ∷ []) ∷ new 50 (num 9 ∷ [])
    ∷ new 41 (pair 6 3 ∷ pair 9 1 ∷ []) ∷ new 30 (num 14 ∷ []) ∷ [])
    (made 66 (num 5 ∷ num 2 ∷ [])
    ∷ new 65 (num 7 ∷ []) ∷ new 69 (num 5 ∷ pair 5 1 ∷ num 0 ∷ []) ∷ new 68 (num 2 ∷ num 65535 ∷ [])
    ∷ new 64 (num 7 ∷ num 0 ∷ num 2 ∷ num 0 ∷ []) ∷ new 64 (num 9 ∷ num 0 ∷ num 8 ∷ num 0 ∷ []) ∷ new 65 (num 13 ∷ [])
    ∷ new 69 (num 11 ∷ pair 10 1 ∷ num 0 ∷ []) ∷ new 68 (num 7 ∷ num 65535 ∷ []) ∷ new 66 (num 14 ∷ []) ∷ [])
    (clause 0 65535 ∷ clause 1 65535 ∷ [])
    (function 0 9 (pair 0 0) (pair 11 5) (pair 0 1) (pair 1 1))

-- statements, list entries and a body, among four texts and five nodes, under `ensures ret` with the message node 0
abbrev pub among : List Rec → List ℕ → Field → Image
among statements lists body =
    image
    ("f" ∷ "ret" ∷ "i" ∷ "k" ∷ [])
    lists
    (bool 1 ∷ identifier 1 ∷ identifier 2 ∷ identifier 3 ∷ bool 0 ∷ [])
    statements
    (clause 1 0 ∷ [])
    (function 0 9 (pair 0 0) body (pair 0 0) (pair 0 1))

-- a match on node 3, with a return in an arm whose pattern is node 4
abbrev pub arm_of_pattern : Image
arm_of_pattern =
    among
    (made 66 (num 5 ∷ num 0 ∷ []) ∷ made 76 (num 6 ∷ num 4 ∷ pair 0 1 ∷ []) ∷ made 75 (num 7 ∷ num 3 ∷ pair 1 1 ∷ []) ∷ [])
    (0 ∷ 1 ∷ 2 ∷ []) (pair 2 1)

-- a return in a For, a ForRange and a ForEach, each with numbers of its own
abbrev pub three_loops : Image
three_loops =
    among
    (made 66 (num 5 ∷ num 0 ∷ []) ∷ made 77 (num 6 ∷ []) ∷ made 78 (num 7 ∷ [])
    ∷ made 72 (num 8 ∷ num 1 ∷ num 3 ∷ num 4 ∷ pair 0 1 ∷ []) ∷ made 73 (num 10 ∷ num 3 ∷ num 2 ∷ pair 0 1 ∷ [])
    ∷ made 74 (num 11 ∷ num 2 ∷ num 4 ∷ pair 0 1 ∷ []) ∷ [])
    (0 ∷ 3 ∷ 4 ∷ 5 ∷ []) (pair 1 3)

-- ---- what is made of them

-- the new texts of returns, by their temporaries
unfoldable pub return_texts : List String → List String
return_texts [] = []
return_texts (temp ∷ temps) = temp ∷ temp ∷ "ret" ∷ "std" ∷ "res" ∷ "result_unwrap" ∷ temp ∷ return_texts temps

abbrev statements_at : List ℕ → Option Image → List Rec
statements_at ns none = []
statements_at ns (some im) = map (record_of im Statements) ns

pub record NewRecords : Type 0 where
  -- the reader accepts them all
  pub accepted : map (λ im. read_by (some im)) (two_spans ∷ twelve_returns ∷ both_clauses ∷ arm_of_pattern ∷ three_loops ∷ [])
      ≡ 0 ∷ 0 ∷ 0 ∷ 0 ∷ 0 ∷ []
  -- new records take the span of the function that is lowered; the copy keeps its own
  pub second_nodes : nodes_from 1 (lowered two_spans 1)
      ≡ made 25 (num 4 ∷ num 2 ∷ []) ∷ identifier 1 ∷ made 33 (num 4 ∷ num 5 ∷ num 2 ∷ []) ∷ made 50 (num 4 ∷ num 1 ∷ [])
      ∷ made 41 (num 4 ∷ pair 0 3 ∷ pair 3 1 ∷ []) ∷ []
  pub second_statements : statements_from 0 (lowered two_spans 1)
      ≡ made 65 (num 4 ∷ num 5 ∷ []) ∷ made 69 (num 4 ∷ num 3 ∷ pair 4 1 ∷ num 0 ∷ []) ∷ made 68 (num 4 ∷ num 1 ∷ num 65535 ∷ []) ∷ []
  -- temporaries with two digits
  pub twelve_temporaries : texts_from 2 (lowered twelve_returns 0)
      ≡ map ascii (return_texts ("__ensure_ret_0" ∷ "__ensure_ret_1" ∷ "__ensure_ret_2" ∷ "__ensure_ret_3" ∷ "__ensure_ret_4"
      ∷ "__ensure_ret_5" ∷ "__ensure_ret_6" ∷ "__ensure_ret_7" ∷ "__ensure_ret_8" ∷ "__ensure_ret_9" ∷ "__ensure_ret_10"
      ∷ "__ensure_ret_11" ∷ []))
  pub both_whole : lowered both_clauses 0 ≡ some both_lowered
  -- the arm keeps its pattern, the match what it is on
  pub pattern_kept : statements_from 9 (lowered arm_of_pattern 0)
      ≡ made 76 (num 6 ∷ num 4 ∷ pair 8 4 ∷ []) ∷ made 75 (num 7 ∷ num 3 ∷ pair 12 1 ∷ []) ∷ []
  -- a loop keeps its inner statement, its text and its nodes
  pub loops_kept : statements_at (12 ∷ 19 ∷ 26 ∷ []) (lowered three_loops 0)
      ≡ made 72 (num 8 ∷ num 1 ∷ num 3 ∷ num 4 ∷ pair 9 4 ∷ []) ∷ made 73 (num 10 ∷ num 3 ∷ num 2 ∷ pair 18 4 ∷ [])
      ∷ made 74 (num 11 ∷ num 2 ∷ num 4 ∷ pair 27 4 ∷ []) ∷ []

-- THEOREM
pub new_records_so : NewRecords
unfolding lowering decoding return_texts
new_records_so = record { accepted = refl; second_nodes = refl; second_statements = refl; twelve_temporaries = refl; both_whole = refl; pattern_kept = refl; loops_kept = refl }
