-- Calls, by computation: the function that a call is proved against, and how many values a run takes.
-- Assumes nothing.
use Rattle.std.specs.Prelude.{◌≡◌, ℕ, List, [], ◌∷◌, ◌++◌, map, replicate, pos, refl}
use Prim.Native.String.{String}
use Rattle.rl_spec.specs.declared.Cause.TheVariants.{WrongValues}
use Rattle.rl_spec.specs.declared.ConstVal.TheVariants.{Int}
use Rattle.rl_spec.specs.declared.Outcome.TheVariants.{Returned}
use Rattle.rl_spec.specs.declared.Plain.TheVariants.{Null, Const}
use Rattle.rl_spec.specs.Answers.{RunAnswer, ran, refused}
use Rattle.rl_spec.specs.declared.Value.TheVariants.{Plain as Bare}
use Rattle.rl_spec.specs.Image.{num, pair, Image, encode, image_of, sections_in, records_in, record_in, next_at, end_at, fields_at, widths_of}
use Rattle.rl_spec.specs.Tree.{ascii}
use Rattle.rl_spec.specs.Ranges.{up_from}
use Rattle.rl_spec.specs.Prove.{report_entries, call_entries}
use Rattle.rl_spec.specs.Runner.{all_have, run_of, run_number}
use Rattle.rl_examples.specs.MarkedImages.{made, string, bool, identifier, binary, bang_equal, parameter, refined, clause, function, call, build}
use Rattle.rl_examples.specs.LowerExamples.{lowering, decoding, running}
use Rattle.rl_examples.specs.NodeRows.{number, folding, evaluating}
use Rattle.rl_examples.specs.ContractRows.{whole, argument, reported, proving}

-- ---- the callee: the last function of the name that has requires or a refinement; and its parameters and arguments

-- f(x > 9), f(x > 1), f(x); g(x) requires x != 5, g(x) ensures false; h(x > 9, y > 1); k(x); l(x, y > 1); n(x, x) and p(y, x) require
-- x != 5; each else "five". q() requires false; r() requires 5; t() requires false else Err("five"); u() requires both. The calls' names,
-- but for the last four, are texts of their own
abbrev pub named_alike : Image
named_alike =
    build
    record {
      texts =
          "f" ∷ "g" ∷ "h" ∷ "k" ∷ "l" ∷ "n" ∷ "p" ∷ "x" ∷ "y" ∷ "five" ∷ "f" ∷ "g" ∷ "h" ∷ "k" ∷ "l" ∷ "n" ∷ "p" ∷ "m" ∷ "q" ∷ "r" ∷ "t"
          ∷ "u" ∷ [];
      lists = 0 ∷ 1 ∷ 1 ∷ 1 ∷ 0 ∷ 2 ∷ 0 ∷ [];
      expressions = number 5 ∷ number 0 ∷ identifier 8 ∷ identifier 7 ∷ binary 3 bang_equal 0 ∷ string 9 ∷ bool 0 ∷ made 50 (num 2 ∷ num 5 ∷ []) ∷ [];
      statements = [];
      parameters =
          refined 7 1 (pos 9) ∷ refined 7 1 (pos 1) ∷ parameter 7 ∷ refined 7 1 (pos 9) ∷ refined 8 1 (pos 1) ∷ parameter 7
          ∷ refined 8 1 (pos 1) ∷ parameter 7 ∷ parameter 7 ∷ parameter 8 ∷ parameter 7 ∷ [];
      clauses = clause 6 65535 ∷ clause 4 5 ∷ clause 0 65535 ∷ clause 6 7 ∷ [];
      functions =
          function 0 1 (pair 0 1) (pair 0 0) (pair 0 0) (pair 0 0) ∷ function 0 1 (pair 1 1) (pair 0 0) (pair 0 0) (pair 0 0)
          ∷ function 0 1 (pair 2 1) (pair 0 0) (pair 0 0) (pair 0 0)
          ∷ function 1 1 (pair 2 1) (pair 0 0) (pair 1 1) (pair 0 0) ∷ function 1 1 (pair 2 1) (pair 0 0) (pair 0 0) (pair 0 1)
          ∷ function 2 1 (pair 3 2) (pair 0 0) (pair 0 0) (pair 0 0) ∷ function 3 1 (pair 2 1) (pair 0 0) (pair 0 0) (pair 0 0)
          ∷ function 4 1 (pair 5 2) (pair 0 0) (pair 0 0) (pair 0 0) ∷ function 5 1 (pair 7 2) (pair 0 0) (pair 1 1) (pair 0 0)
          ∷ function 6 1 (pair 9 2) (pair 0 0) (pair 1 1) (pair 0 0) ∷ function 18 1 (pair 0 0) (pair 0 0) (pair 0 1) (pair 0 0)
          ∷ function 19 1 (pair 0 0) (pair 0 0) (pair 2 1) (pair 0 0) ∷ function 20 1 (pair 0 0) (pair 0 0) (pair 3 1) (pair 0 0)
          ∷ function 21 1 (pair 0 0) (pair 0 0) (pair 2 2) (pair 0 0) ∷ [];
      -- f(5), f(0); g(5), g(0); h(0), h(0, 0), h(0, 0, 0), h(y, 5); k(0), m(0); l(0, 0); n(5, 0), n(0, 5), n(5, y); p(5, y); q(), r(), t(), u()
      calls =
          call 10 10 (pair 0 1) ∷ call 10 10 (pair 1 1) ∷ call 11 10 (pair 0 1) ∷ call 11 10 (pair 1 1) ∷ call 12 10 (pair 1 1)
          ∷ call 12 10 (pair 1 2) ∷ call 12 10 (pair 1 3) ∷ call 12 10 (pair 5 2) ∷ call 13 10 (pair 1 1) ∷ call 17 10 (pair 1 1)
          ∷ call 14 10 (pair 1 2) ∷ call 15 10 (pair 0 2) ∷ call 15 10 (pair 3 2) ∷ call 15 10 (pair 4 2) ∷ call 16 10 (pair 4 2)
          ∷ call 18 10 (pair 0 0) ∷ call 19 10 (pair 0 0) ∷ call 20 10 (pair 0 0) ∷ call 21 10 (pair 0 0) ∷ [];
    }

-- a row a call: the texts of its reports
unfoldable pub callees : List (List String)
callees =
    -- f: the second, since the third has no contracts
    []
    ∷ ("contract violation (proven at compile time): refinement failed: x > 1" ∷ [])
    -- g: the first, since what is ensured does not count
    ∷ ("contract violation (proven at compile time): five" ∷ [])
    ∷ []
    -- h: an argument too few, two, one too many; and x by the name of the parameter behind it
    ∷ ("contract violation (proven at compile time): refinement failed: x > 9" ∷ [])
    ∷ ("contract violation (proven at compile time): refinement failed: x > 9"
    ∷ "contract violation (proven at compile time): refinement failed: y > 1" ∷ [])
    ∷ ("contract violation (proven at compile time): refinement failed: x > 9"
    ∷ "contract violation (proven at compile time): refinement failed: y > 1" ∷ [])
    ∷ ("contract violation (proven at compile time): refinement failed: x > 9" ∷ [])
    -- k has no contracts, m is no function, and l has one refinement, of its second parameter
    ∷ []
    ∷ []
    ∷ ("contract violation (proven at compile time): refinement failed: y > 1" ∷ [])
    -- n: its x is the last one that folds
    ∷ []
    ∷ ("contract violation (proven at compile time): five" ∷ [])
    ∷ ("contract violation (proven at compile time): five" ∷ [])
    -- p: x by the name of the parameter before it
    ∷ ("contract violation (proven at compile time): five" ∷ [])
    -- q, without parameters; r, whose condition is no truth value; t, whose message is no String; u, by its second clause
    ∷ ("contract violation (proven at compile time): requires violated" ∷ [])
    ∷ []
    ∷ ("contract violation (proven at compile time): requires violated" ∷ [])
    ∷ ("contract violation (proven at compile time): requires violated" ∷ [])
    ∷ []

-- THEOREM: the calls are reported so
pub callees_so : map (reported named_alike) (up_from 0 19) ≡ map (map ascii) callees
unfolding lowering running folding proving callees
callees_so = refl

-- the entries of the last: call, span, 1 for requires, and the clause's number
pub entries_so : call_entries named_alike 18 ≡ 18 ∷ 10 ∷ 1 ∷ 1 ∷ []
unfolding lowering running folding proving report_entries call_entries
entries_so = refl

-- ---- values: as many as parameters, and sixteen at most

-- of sixteen parameters, which returns the last; of seventeen; of none
abbrev sixteen : Image
sixteen =
    build
    record {
      texts = "f" ∷ "a" ∷ "b" ∷ [];
      lists = 0 ∷ [];
      expressions = identifier 2 ∷ [];
      statements = made 66 (num 5 ∷ num 0 ∷ []) ∷ [];
      parameters = replicate 15 (parameter 1) ++ parameter 2 ∷ parameter 1 ∷ [];
      clauses = [];
      functions =
          function 0 1 (pair 0 16) (pair 0 1) (pair 0 0) (pair 0 0) ∷ function 0 1 (pair 0 17) (pair 0 1) (pair 0 0) (pair 0 0)
          ∷ function 0 1 (pair 0 0) (pair 0 0) (pair 0 0) (pair 0 0) ∷ [];
      calls = [];
    }

-- the function, the number of values, and the number and the answer of its run on that many of 1 to 16
pub record Values : Type 0 where
  pub function : ℕ
  pub count : ℕ
  pub number : ℕ
  pub answer : RunAnswer

abbrev of : ℕ → ℕ → ℕ → RunAnswer → Values
of f n number answer = record { function = f; count = n; number = number; answer = answer }

abbrev pub answered : RunAnswer → ℕ × RunAnswer
answered a = (run_number a, a)

abbrev pub run : Values → RunAnswer
run v =
    run_of (encode sixteen) 8192 v.function
    (record { values = map (λ n. argument (whole n)) (up_from 1 16); count = v.count }) 1000

unfoldable pub values : List Values
values =
    of 0 16 0 (ran (Returned (Bare (Const (Int (pos 16))))) 2)
    ∷ of 0 15 19 (refused WrongValues 0)
    ∷ of 0 17 19 (refused WrongValues 0)
    ∷ of 1 17 19 (refused WrongValues 0)
    ∷ of 1 16 19 (refused WrongValues 0)
    ∷ of 2 0 0 (ran (Returned (Bare Null)) 0)
    ∷ of 2 1 19 (refused WrongValues 0)
    ∷ []

-- THEOREM: they are run so, or refused
pub values_so : map (λ v. answered (run v)) values ≡ map (λ (v : Values). (v.number, v.answer)) values
unfolding lowering decoding running evaluating image_of sections_in records_in record_in next_at end_at fields_at widths_of all_have run_of values
values_so = refl
