-- What C and Rust get, closed: words taken for values, the words of a fold and of runs, texts and messages by number.
-- Assumes nothing.
use Rattle.std.specs.Prelude.{◌≡◌, ℕ, true, false, List, [], ◌∷◌, ◌++◌, map, replicate, negsuc, from_bits, refl, None, Some, Ok}
use Rattle.std.specs.Float.{binary64}
use Rattle.rl_spec.specs.declared.ConstVal.TheVariants.{Int, Float, Str, Bool}
use Rattle.rl_spec.specs.declared.Outcome.TheVariants.{Returned, Stopped, Fault, Spent}
use Rattle.rl_spec.specs.declared.Plain.TheVariants.{Const}
use Rattle.rl_spec.specs.declared.Value.{Value}
use Rattle.rl_spec.specs.declared.Value.TheVariants.{Plain}
use Rattle.rl_spec.specs.declared.Value.TheVariants as val
use Rattle.rl_spec.specs.Words.{words_value}
use Rattle.rl_spec.specs.Image.{encode, image_of, sections_in, records_in, record_in, next_at, end_at, fields_at, widths_of, heights, heights_from, tallest_child, tallest_entry}
use Rattle.rl_spec.specs.Tree.{ascii}
use Rattle.rl_spec.specs.Fold.{fold_of}
use Rattle.rl_spec.specs.Functions.{plain_function}
use Rattle.rl_spec.specs.Prove.{report_entries, call_entries, all_entries, prove_of, prove_all_of}
use Rattle.rl_spec.specs.Lowerer.{too_tall, any_over, lower_of, lower_answer}
use Rattle.rl_spec.specs.Printed.{line_at}
use Rattle.rl_spec.specs.Runner.{all_have, run_of, ran_in, value_of_words}
use Rattle.rl_spec.specs.Pages.{pages_answer}
use Rattle.rl_spec.specs.Texts.{text_part, text_for, message_at, message_answer, message_out}
use Rattle.rl_spec.specs.Boundary.{prove_packed, lower_packed, id_of, fold_packed, fold_words, is_plain, is_value, are_values, count_of_words, arguments_of, outcome_words, run_packed, run_words, text_packed, message_packed, pages_packed}
use Rattle.rl_examples.specs.MarkedImages.{flow}
use Rattle.rl_examples.specs.LowerExamples.{lowering, decoding, running}
use Rattle.rl_examples.specs.NodeRows.{folding, evaluating}
use Rattle.rl_examples.specs.ContractRows.{proving}
use Rattle.rl_examples.specs.PrinterExamples.{printing, both_fail}

unfoldable bounding : Unit {0}
unfolding is_plain is_value are_values count_of_words arguments_of value_of_words words_value all_have run_of ran_in fold_of text_part text_for message_at message_answer message_out pages_answer line_at plain_function
bounding = tt

unfoldable reporting : Unit {0}
unfolding report_entries call_entries all_entries prove_of prove_all_of too_tall any_over heights heights_from tallest_child tallest_entry lower_of
reporting = tt

unfoldable imaging : Unit {0}
unfolding image_of sections_in records_in record_in next_at end_at fields_at widths_of
imaging = tt

-- ---- how many values words are; 17 for words that are none

abbrev pub taken : List (List ℕ)
taken =
    [] ∷ (0 ∷ 0 ∷ []) ∷ (1 ∷ 5 ∷ []) ∷ (2 ∷ 13832806255468478464 ∷ []) ∷ (3 ∷ 5 ∷ []) ∷ (3 ∷ 65536 ∷ []) ∷ (4 ∷ 0 ∷ []) ∷ (4 ∷ 1 ∷ [])
    ∷ (8 ∷ 0 ∷ []) ∷ (11 ∷ 131072 ∷ []) ∷ (12 ∷ 1 ∷ []) ∷ (16 ∷ 0 ∷ []) ∷ (17 ∷ 18446744073709551615 ∷ []) ∷ (20 ∷ 0 ∷ [])
    ∷ (1 ∷ 5 ∷ 4 ∷ 1 ∷ 0 ∷ 0 ∷ []) ∷ replicate 32 1 ∷ []

pub taken_so : map count_of_words taken ≡ 0 ∷ 1 ∷ 1 ∷ 1 ∷ 1 ∷ 1 ∷ 1 ∷ 1 ∷ 1 ∷ 1 ∷ 1 ∷ 1 ∷ 1 ∷ 1 ∷ 3 ∷ 16 ∷ []
unfolding bounding
taken_so = refl

-- a Null with a payload, a Bool above 1, sorts that are not there, an odd number of words, more than sixteen values
abbrev pub no_values : List (List ℕ)
no_values =
    (0 ∷ 1 ∷ []) ∷ (4 ∷ 2 ∷ []) ∷ (5 ∷ 0 ∷ []) ∷ (7 ∷ 0 ∷ []) ∷ (8 ∷ 1 ∷ []) ∷ (12 ∷ 2 ∷ []) ∷ (13 ∷ 0 ∷ []) ∷ (15 ∷ 0 ∷ [])
    ∷ (16 ∷ 1 ∷ []) ∷ (20 ∷ 2 ∷ []) ∷ (21 ∷ 0 ∷ []) ∷ (24 ∷ 0 ∷ []) ∷ (4294967297 ∷ 5 ∷ []) ∷ (1 ∷ []) ∷ (1 ∷ 5 ∷ 1 ∷ [])
    ∷ (1 ∷ 5 ∷ 9 ∷ 5 ∷ 5 ∷ 5 ∷ []) ∷ replicate 33 1 ∷ replicate 34 1 ∷ replicate 36 1 ∷ []

pub no_values_so : map count_of_words no_values ≡ replicate 19 17
unfolding bounding
no_values_so = refl

-- a Str's index is its payload, and 65,535 where that is more
abbrev pub strs : List Value
strs = map (value_of_words 3) (0 ∷ 65534 ∷ 65535 ∷ 65536 ∷ 131072 ∷ []) ++ value_of_words 11 65537 ∷ value_of_words 19 18446744073709551615 ∷ []

pub strs_so : strs
    ≡ Plain (Const (Str 0)) ∷ Plain (Const (Str 65534)) ∷ Plain (Const (Str 65535)) ∷ Plain (Const (Str 65535)) ∷ Plain (Const (Str 65535))
    ∷ val.Ok (Const (Str 65535)) ∷ val.Err (Const (Str 65535)) ∷ []
unfolding bounding
strs_so = refl

-- ---- runs of open(flow), unlowered: the answer, and the outcome's four words

abbrev pub runs_of : ℕ → List ℕ → ℕ → List ℕ
runs_of f words budget =
    run_packed (run_of (encode flow) 8192 f (arguments_of words) budget) ∷ run_words (run_of (encode flow) 8192 f (arguments_of words) budget)

-- in the table's order: 11, 19, 20, 21. Returned 7 in 2 steps, a text, an Err, Spent
pub runs_so : runs_of 0 (1 ∷ 7 ∷ []) 9 ∷ runs_of 0 (3 ∷ 2 ∷ []) 9 ∷ runs_of 0 (17 ∷ 7 ∷ []) 9 ∷ runs_of 0 (1 ∷ 7 ∷ []) 1
    ∷ runs_of 1 (5 ∷ 0 ∷ []) 1000001 ∷ runs_of 0 (5 ∷ 0 ∷ []) 1000001 ∷ runs_of 0 [] 1000001 ∷ runs_of 0 (3 ∷ 65536 ∷ []) 1000001
    ∷ runs_of 0 (3 ∷ 3 ∷ []) 9 ∷ runs_of 0 (1 ∷ 7 ∷ []) 1000001 ∷ []
    ≡ (0 ∷ 1 ∷ 2 ∷ 1 ∷ 7 ∷ []) ∷ (0 ∷ 1 ∷ 2 ∷ 3 ∷ 2 ∷ []) ∷ (0 ∷ 1 ∷ 2 ∷ 17 ∷ 7 ∷ []) ∷ (0 ∷ 4 ∷ 1 ∷ 0 ∷ 0 ∷ [])
    ∷ (47244640256 ∷ 0 ∷ 0 ∷ 0 ∷ 0 ∷ []) ∷ (81604378624 ∷ 0 ∷ 0 ∷ 0 ∷ 0 ∷ []) ∷ (81604378624 ∷ 0 ∷ 0 ∷ 0 ∷ 0 ∷ []) ∷ (85899345920 ∷ 0 ∷ 0 ∷ 0 ∷ 0 ∷ [])
    ∷ (85899345920 ∷ 0 ∷ 0 ∷ 0 ∷ 0 ∷ []) ∷ (90194313216 ∷ 0 ∷ 0 ∷ 0 ∷ 0 ∷ []) ∷ []
unfolding lowering decoding running evaluating folding imaging bounding
runs_so = refl

-- ---- the four words of an outcome, and the words of a float and of truth values; -1.5 is 13832806255468478464 by its bits

pub outcomes_so : outcome_words (Returned (val.Ok (Const (Int (negsuc 0))))) 7 ∷ outcome_words (Stopped (Const (Str 2))) 14 ∷ outcome_words (Fault 4) 5 ∷ outcome_words Spent 9 ∷ []
    ≡ (1 ∷ 7 ∷ 9 ∷ 18446744073709551615 ∷ []) ∷ (2 ∷ 14 ∷ 3 ∷ 2 ∷ []) ∷ (3 ∷ 5 ∷ 4 ∷ 0 ∷ []) ∷ (4 ∷ 9 ∷ 0 ∷ 0 ∷ []) ∷ []
outcomes_so = refl

pub words_so : map fold_words (Ok (Some (Float (from_bits binary64 13832806255468478464))) ∷ Ok (Some (Bool true)) ∷ Ok (Some (Bool false)) ∷ Ok None ∷ [])
    ≡ (2 ∷ 13832806255468478464 ∷ []) ∷ (4 ∷ 1 ∷ []) ∷ (4 ∷ 0 ∷ []) ∷ (0 ∷ 0 ∷ []) ∷ []
unfolding folding
words_so = refl

-- ---- folds of its nodes: flow, 4096, the text of index 2; another arena, a node that is missing

abbrev pub folds_of : ℕ → ℕ → List ℕ
folds_of arena node = fold_packed (fold_of (encode flow) 8192 (id_of arena node)) ∷ fold_words (fold_of (encode flow) 8192 (id_of arena node))

pub folds_so : folds_of 1 0 ∷ folds_of 1 1 ∷ folds_of 1 3 ∷ folds_of 7 1 ∷ folds_of 1 7 ∷ []
    ≡ (0 ∷ 0 ∷ 0 ∷ []) ∷ (0 ∷ 1 ∷ 4096 ∷ []) ∷ (0 ∷ 3 ∷ 2 ∷ []) ∷ (64424509440 ∷ 0 ∷ 0 ∷ []) ∷ (68719476736 ∷ 0 ∷ 0 ∷ []) ∷ []
unfolding lowering decoding running folding imaging bounding
folds_so = refl

-- ---- a byte too many is 10 at 213 for each of them, and leaves zeros; without it, one report, two of all calls, 571 bytes

abbrev pub cut : List ℕ
cut = encode flow ++ 0 ∷ []

pub refused_so : fold_packed (fold_of cut 8192 (id_of 1 1)) ∷ run_packed (run_of cut 8192 0 (arguments_of (1 ∷ 7 ∷ [])) 9) ∷ prove_packed (prove_of cut 8192 0 4)
    ∷ prove_packed (prove_all_of cut 8192 8) ∷ lower_packed (lower_answer (lower_of cut 8192 0 65535)) ∷ text_packed (text_for cut 8192 0)
    ∷ message_packed (message_answer cut 8192 0 0) ∷ pages_packed (pages_answer cut 8192 0) ∷ fold_words (fold_of cut 8192 (id_of 1 1)) ++ run_words (run_of cut 8192 0 (arguments_of (1 ∷ 7 ∷ [])) 9)
    ≡ replicate 8 42949673173 ++ replicate 6 0
unfolding lowering decoding bounding reporting
refused_so = refl

pub answered_so : prove_packed (prove_of (encode flow) 8192 1 4) ∷ prove_packed (prove_all_of (encode flow) 8192 8) ∷ prove_packed (prove_all_of (encode flow) 8192 7)
    ∷ lower_packed (lower_answer (lower_of (encode flow) 8192 0 65535)) ∷ [] ≡ 1 ∷ 2 ∷ 77309411328 ∷ 571 ∷ []
unfolding lowering decoding running folding evaluating proving imaging bounding reporting
answered_so = refl

-- ---- its texts: "open" at 23, "flow" at 27, "flow id range" at 31, in 16 bits, and above them the lengths; then 20

pub texts_so : map (λ t. text_packed (text_for (encode flow) 8192 t)) (0 ∷ 1 ∷ 2 ∷ 3 ∷ 65536 ∷ [])
    ≡ 262167 ∷ 262171 ∷ 851999 ∷ 85899345920 ∷ 85899345920 ∷ []
unfolding lowering decoding imaging bounding
texts_so = refl

-- ---- messages by number, and their lengths; none behind the last, then 17

pub messages_so : message_at flow 0 0 ∷ message_at flow 0 1 ∷ message_at flow 1 0 ∷ message_at both_fail 0 1 ∷ []
    ≡ ascii "contract violation (proven at compile time): refinement failed: flow >= 1" ∷ []
    ∷ ascii "contract violation (proven at compile time): flow id range" ∷ ascii "contract violation (proven at compile time): requires violated" ∷ []
unfolding lowering running folding proving bounding
messages_so = refl

abbrev pub messages_of : ℕ → ℕ → ℕ
messages_of call n = message_packed (message_answer (encode flow) 8192 call n)

pub lengths_so : messages_of 0 0 ∷ messages_of 0 1 ∷ messages_of 1 0 ∷ messages_of 2 0 ∷ messages_of 65536 0 ∷ [] ≡ 73 ∷ 0 ∷ 58 ∷ 73014444032 ∷ 73014444032 ∷ []
unfolding lowering decoding running folding proving imaging bounding
lengths_so = refl

-- a line by its number
pub lines_so : line_at both_fail 0 0 ∷ line_at both_fail 0 1 ∷ line_at both_fail 0 2 ∷ line_at both_fail 1 0 ∷ []
    ≡ ascii "0 10 contract violation (proven at compile time): refinement failed: a > 5\n"
    ∷ ascii "0 10 contract violation (proven at compile time): requires violated\n" ∷ [] ∷ [] ∷ []
unfolding lowering running folding proving printing bounding
lines_so = refl
