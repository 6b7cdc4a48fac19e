-- Images for the first half of demand 3, and what lowering makes of them, by computation.
-- Assumes nothing.
use Prim.Native.String.{String}
use Rattle.std.specs.Prelude.{◌≡◌, [], ◌∷◌, refl, Ok}
use Rattle.std.proofs.Common.{ap, ◌∙◌, lit<, lit≤}
use Rattle.std.proofs.Math.Option.{some}
use Rattle.rl_spec.specs.Image.{Image, num, pair, encode}
use Rattle.rl_spec.specs.Functions.{plain_function, reading_in}
use Rattle.rl_spec.specs.Lower.{lowered}
use Rattle.rl_spec.specs.Lowerer.{or_limit, lower_of}
use Rattle.rl_spec.specs.Runner.{all_have, ran_in, run_of}
use Rattle.rl_theorems.specs.Reading.EncodedAnswers.{lowered_encoded, well_formed_by}
use Rattle.rl_examples.specs.MarkedImages.{made as a, bool, identifier, parameter, clause, function, build}
use Rattle.rl_examples.specs.LowerExamples.{loop_and_last, loop_and_last_lowered, loop_and_last_whole, lowering, running}
use Rattle.rl_theorems.specs.DemandThree.Marked.{decoding, measuring}

-- ---- f(p), requires true, which returns p; its texts are "f", "p" and "x"

abbrev pub echo : Image
echo =
    build
    record {
      texts = "f" ∷ "p" ∷ "x" ∷ [];
      lists = 0 ∷ [];
      expressions = bool 1 ∷ identifier 1 ∷ [];
      statements = a 66 (num 5 ∷ num 1 ∷ []) ∷ [];
      parameters = parameter 1 ∷ [];
      clauses = clause 0 65535 ∷ [];
      functions = function 0 1 (pair 0 1) (pair 0 1) (pair 0 1) (pair 0 0) ∷ [];
      calls = [];
    }

abbrev pub echo_lowered : Image
echo_lowered =
    build
    record {
      texts = "f" ∷ "p" ∷ "x" ∷ "requires violated" ∷ "std" ∷ "res" ∷ "result_unwrap" ∷ [];
      lists = 0 ∷ 4 ∷ 5 ∷ 6 ∷ 5 ∷ 1 ∷ 3 ∷ 0 ∷ [];
      expressions =
          bool 1 ∷ identifier 1 ∷ a 25 (num 1 ∷ num 3 ∷ []) ∷ bool 1 ∷ a 33 (num 1 ∷ num 5 ∷ num 3 ∷ []) ∷ a 50 (num 1 ∷ num 2 ∷ [])
          ∷ a 41 (num 1 ∷ pair 1 3 ∷ pair 4 1 ∷ []) ∷ [];
      statements =
          a 66 (num 5 ∷ num 1 ∷ []) ∷ a 65 (num 1 ∷ num 6 ∷ []) ∷ a 69 (num 1 ∷ num 4 ∷ pair 5 1 ∷ num 0 ∷ [])
          ∷ a 68 (num 1 ∷ num 2 ∷ num 65535 ∷ []) ∷ [];
      parameters = parameter 1 ∷ [];
      clauses = clause 0 65535 ∷ [];
      functions = function 0 1 (pair 0 1) (pair 6 2) (pair 0 1) (pair 0 0) ∷ [];
      calls = [];
    }

-- ---- f(), ensures the identifier of that name, which returns true

abbrev pub promising : String → Image
promising name =
    build
    record {
      texts = "f" ∷ name ∷ [];
      lists = 0 ∷ [];
      expressions = bool 1 ∷ identifier 1 ∷ [];
      statements = a 66 (num 5 ∷ num 0 ∷ []) ∷ [];
      parameters = [];
      clauses = clause 1 65535 ∷ [];
      functions = function 0 1 (pair 0 0) (pair 0 1) (pair 0 0) (pair 0 1) ∷ [];
      calls = [];
    }

abbrev pub promising_lowered : String → Image
promising_lowered name =
    build
    record {
      texts =
          "f" ∷ name ∷ "__ensure_ret_0" ∷ "__ensure_ret_0" ∷ "ret" ∷ "ensures violated" ∷ "std" ∷ "res" ∷ "result_unwrap"
          ∷ "__ensure_ret_0" ∷ [];
      lists = 0 ∷ 6 ∷ 7 ∷ 8 ∷ 6 ∷ 3 ∷ 1 ∷ 2 ∷ 5 ∷ 6 ∷ [];
      expressions =
          bool 1 ∷ identifier 1 ∷ a 30 (num 1 ∷ num 3 ∷ []) ∷ a 25 (num 1 ∷ num 5 ∷ []) ∷ identifier 1
          ∷ a 33 (num 1 ∷ num 5 ∷ num 4 ∷ []) ∷ a 50 (num 1 ∷ num 3 ∷ []) ∷ a 41 (num 1 ∷ pair 1 3 ∷ pair 4 1 ∷ [])
          ∷ a 30 (num 1 ∷ num 9 ∷ []) ∷ [];
      statements =
          a 66 (num 5 ∷ num 0 ∷ []) ∷ a 64 (num 1 ∷ num 2 ∷ num 0 ∷ num 0 ∷ num 0 ∷ [])
          ∷ a 64 (num 1 ∷ num 4 ∷ num 0 ∷ num 2 ∷ num 0 ∷ []) ∷ a 65 (num 1 ∷ num 7 ∷ [])
          ∷ a 69 (num 1 ∷ num 5 ∷ pair 5 1 ∷ num 0 ∷ []) ∷ a 68 (num 1 ∷ num 4 ∷ num 65535 ∷ []) ∷ a 66 (num 1 ∷ num 8 ∷ []) ∷ [];
      parameters = [];
      clauses = clause 1 65535 ∷ [];
      functions = function 0 1 (pair 0 0) (pair 6 4) (pair 0 0) (pair 0 1) ∷ [];
      calls = [];
    }

-- ---- what lowering makes of them

-- with the shortest slices
abbrev pub Makes : Image → Image → Type 0
Makes im im' = lower_of (encode im) 8192 0 65535 ≡ Ok im'

echo_whole : lowered echo 0 ≡ some echo_lowered
unfolding lowering
echo_whole = refl

ret_whole : lowered (promising "ret") 0 ≡ some (promising_lowered "ret")
unfolding lowering
ret_whole = refl

reserved_whole : lowered (promising "__ensure_ret_0") 0 ≡ some (promising_lowered "__ensure_ret_0")
unfolding lowering
reserved_whole = refl

pub echo_made : Makes echo echo_lowered
unfolding decoding measuring
echo_made =
    lowered_encoded echo (well_formed_by (encode echo) _ _ refl refl) 8192 (lit≤ tt) 0 65535 (lit< tt) refl (lit≤ tt) ∙ ap or_limit echo_whole

pub ret_made : Makes (promising "ret") (promising_lowered "ret")
unfolding decoding measuring
ret_made =
    lowered_encoded (promising "ret") (well_formed_by (encode (promising "ret")) _ _ refl refl) 8192 (lit≤ tt) 0 65535 (lit< tt) refl (lit≤ tt)
    ∙ ap or_limit ret_whole

pub reserved_made : Makes (promising "__ensure_ret_0") (promising_lowered "__ensure_ret_0")
unfolding decoding measuring
reserved_made =
    lowered_encoded (promising "__ensure_ret_0") (well_formed_by (encode (promising "__ensure_ret_0")) _ _ refl refl) 8192 (lit≤ tt) 0 65535
    (lit< tt) refl (lit≤ tt)
    ∙ ap or_limit reserved_whole

pub last_made : Makes loop_and_last loop_and_last_lowered
unfolding decoding measuring
last_made =
    lowered_encoded loop_and_last (well_formed_by (encode loop_and_last) _ _ refl refl) 8192 (lit≤ tt) 0 65535 (lit< tt) refl (lit≤ tt)
    ∙ ap or_limit loop_and_last_whole

-- ---- what the computation of runs and readings opens

unfoldable pub answering : Unit {0}
unfolding decoding lowering running run_of ran_in all_have reading_in plain_function
answering = tt
