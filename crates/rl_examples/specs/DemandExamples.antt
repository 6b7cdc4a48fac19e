-- Single closed instances, of one image each, which shut out 01's "Worthless versions". They are not the demands, which are stated of all
-- bytes in rl_theorems.
-- Assumes nothing.
use Rattle.std.specs.Prelude.{◌≡◌, ℕ, cond, List, [], ◌∷◌, map, replicate, pos, nat_lt, refl}
use Rattle.rl_spec.specs.declared.Arguments.{Arguments}
use Rattle.rl_spec.specs.Image.{num, pair, Image, encode, image_of, sections_in, records_in, record_in, next_at, end_at, fields_at, widths_of, heights, heights_from, tallest_child, tallest_entry}
use Rattle.rl_spec.specs.Values as value
use Rattle.rl_spec.specs.Tree.{ascii}
use Rattle.rl_spec.specs.Read.{answer_of, number_in}
use Rattle.rl_spec.specs.Ranges.{up_from}
use Rattle.rl_spec.specs.Fold.{fold_of, fold_number}
use Rattle.rl_spec.specs.Prove.{report_entries, call_entries, all_entries, prove_of, prove_all_of, prove_number}
use Rattle.rl_spec.specs.Run.{folded, folds, Outcome, returned, stopped, spent}
use Rattle.rl_spec.specs.Mapped.{Text}
use Rattle.rl_spec.specs.Lower.{lowered}
use Rattle.rl_spec.specs.Lowerer.{any_over, too_tall, lower_of, lower_number}
use Rattle.rl_spec.specs.Runner.{all_have, run_of, run_number}
use Rattle.rl_examples.specs.MarkedImages.{made, string, identifier, binary, plus, compare, less, parameter, clause, function, build, last_node, flow}
use Rattle.rl_examples.specs.LowerExamples.{lowering, decoding, running}
use Rattle.rl_examples.specs.NodeRows.{number, folding, evaluating}
use Rattle.rl_examples.specs.ContractRows.{whole, argument, Ends, reported, read_as, lowered_as, proving}

-- ---- "refuses each image or call": the printer's image is accepted, its last node folded, its calls proved, its function lowered and run,
-- each from its bytes

abbrev pub one : Arguments
one = record { values = replicate 16 (argument (whole 1)); count = 1 }

pub flow_not_refused : number_in (answer_of (encode flow) 8192) ∷ fold_number (fold_of (encode flow) 8192 (last_node flow))
    ∷ prove_number (prove_of (encode flow) 8192 0 4) ∷ prove_number (prove_all_of (encode flow) 8192 8)
    ∷ lower_number (lower_of (encode flow) 8192 0 65535) ∷ run_number (run_of (encode flow) 8192 0 one 1000) ∷ [] ≡ 0 ∷ 0 ∷ 0 ∷ 0 ∷ 0 ∷ 0 ∷ []
unfolding lowering decoding running folding evaluating proving image_of sections_in records_in record_in next_at end_at fields_at widths_of fold_of report_entries call_entries all_entries prove_of prove_all_of too_tall any_over heights heights_from tallest_child tallest_entry lower_of all_have run_of
flow_not_refused = refl

-- ---- "never reports": the reports of the printer's image, as entries and as texts

pub flow_reported : (all_entries flow 2 0 ≡ 0 ∷ 7 ∷ 0 ∷ 0 ∷ 1 ∷ 9 ∷ 1 ∷ 0 ∷ [])
    × (reported flow 0 ≡ ascii "contract violation (proven at compile time): refinement failed: flow >= 1" ∷ [])
    × (reported flow 1 ≡ ascii "contract violation (proven at compile time): flow id range" ∷ [])
unfolding lowering running folding proving report_entries call_entries all_entries
flow_reported = (refl, refl, refl)

-- ---- "hands the body back unlowered; wraps only the first return", "says Spent before any step; makes up the steps": on four values and
-- with every budget up to 30, the contracts of one function with two returns are read, and its lowered body runs, as written down

-- f(x), requires x > 0 else "positive", ensures ret < 10: if (x == 5) { return x } return x + x
abbrev pub twice : Image
twice =
    build
    record {
      texts = "f" ∷ "x" ∷ "positive" ∷ "ret" ∷ [];
      lists = 0 ∷ 2 ∷ 3 ∷ [];
      expressions =
          identifier 1 ∷ number 0 ∷ binary 0 10 1 ∷ string 2 ∷ identifier 3 ∷ number 10 ∷ binary 4 less 5 ∷ number 5
          ∷ binary 0 compare 7 ∷ binary 0 plus 0 ∷ [];
      statements =
          made 66 (num 5 ∷ num 0 ∷ []) ∷ made 69 (num 5 ∷ num 8 ∷ pair 0 1 ∷ num 1 ∷ []) ∷ made 68 (num 5 ∷ num 1 ∷ num 65535 ∷ [])
          ∷ made 66 (num 5 ∷ num 9 ∷ []) ∷ [];
      parameters = parameter 1 ∷ [];
      clauses = clause 2 3 ∷ clause 6 65535 ∷ [];
      functions = function 0 9 (pair 0 1) (pair 1 2) (pair 0 1) (pair 1 1) ∷ [];
      calls = [];
    }

-- x, and how the run and the reading end, and after how many steps
pub record Case : Type 0 where
  pub x : ℕ
  pub outcome : Outcome Text
  pub steps : ℕ

abbrev on : ℕ → Outcome Text → ℕ → Case
on x o n = record { x = x; outcome = o; steps = n }

unfoldable pub cases : List Case
cases =
    -- the requires fails
    on 0 (stopped (folded (value.str (ascii "positive")))) 9
    -- either return, and the second where the ensures fails
    ∷ on 5 (returned (folds (value.int (pos 5)))) 20
    ∷ on 3 (returned (folds (value.int (pos 6)))) 22
    ∷ on 20 (stopped (folded (value.str (ascii "ensures violated")))) 24
    ∷ []

-- the budgets 0 to 30; Spent with all of a budget that is too small
abbrev pub throughout : (ℕ → Ends) → List Ends
throughout f = map f (up_from 0 31)

abbrev pub expected : Case → List Ends
expected c = throughout (λ budget. cond (nat_lt budget c.steps) (spent, budget) (c.outcome, c.steps))

pub twice_ends_so : (map (λ (c : Case). throughout (read_as twice (argument (whole c.x) ∷ []))) cases ≡ map expected cases)
    × (map (λ (c : Case). throughout (lowered_as (lowered twice 0) (argument (whole c.x) ∷ []))) cases ≡ map expected cases)
unfolding lowering running folding evaluating proving cases
twice_ends_so = (refl, refl)
