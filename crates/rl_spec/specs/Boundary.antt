-- What C and Rust are answered: numbers, and words in lent arrays. The high 32 bits of an answer are the refusal's number, 0 without one.
use Rattle.std.specs.Prelude.{ℕ, ◌+◌, ◌-◌, ◌*◌, ◌/◌, ◌^◌, min, Bool, true, false, cond, ◌&&◌, List, [], ◌∷◌, map, length, ◌==◌, nat_lt, slice_index, Ok, Err}
use Rattle.rl_spec.specs.declared.Argument.{Argument}
use Rattle.rl_spec.specs.declared.Arguments.{Arguments}
use Rattle.rl_spec.specs.Answers.{FoldAnswer, LowerAnswer, MessageAnswer, PagesAnswer, ProveAnswer, RunAnswer, TextAnswer}
use Rattle.rl_spec.specs.declared.Id.{Id}
use Rattle.rl_spec.specs.declared.Outcome.{Outcome}
use Rattle.rl_spec.specs.declared.Outcome.TheVariants as outcome
use Rattle.rl_spec.specs.declared.Value.TheVariants.{Plain as Bare}
use Rattle.rl_spec.specs.Read.{number_of}
use Rattle.rl_spec.specs.Ranges.{up_from}
use Rattle.rl_spec.specs.Runner.{value_sort, value_payload, value_of_words}
use Rattle.rl_spec.specs.Words.{sort_word_of, payload_word_of}

-- ---- answers in one number (`packed` of Read: the reader's)

-- a number above the 32 low bits, and what stands in them: a refusal's place, and else what is said at each
abbrev pub above : ℕ → ℕ → ℕ
above number low = number * 2 ^ 32 + low

-- proving: how many reports there are
abbrev pub prove_packed : ProveAnswer → ℕ
prove_packed (Ok n) = n
prove_packed (Err r) = above (number_of r.cause) r.place

-- lowering: the length of the image written
abbrev pub lower_packed : LowerAnswer → ℕ
lower_packed (Ok n) = n
lower_packed (Err r) = above (number_of r.cause) r.place

abbrev pub fold_packed : FoldAnswer → ℕ
fold_packed (Ok v) = 0
fold_packed (Err r) = above (number_of r.cause) r.place

abbrev pub run_packed : RunAnswer → ℕ
run_packed (Ok h) = 0
run_packed (Err r) = above (number_of r.cause) r.place

-- a text: the place of its first byte in 16 bits, and above them how many bytes it has
abbrev pub text_packed : TextAnswer → ℕ
text_packed (Ok part) = part.start + part.length * 2 ^ 16
text_packed (Err r) = above (number_of r.cause) r.place

-- a message: its length
abbrev pub message_packed : MessageAnswer → ℕ
message_packed (Ok n) = n
message_packed (Err r) = above (number_of r.cause) r.place

-- pages: how many bytes are written
abbrev pub pages_packed : PagesAnswer → ℕ
pages_packed (Ok n) = n
pages_packed (Err r) = above (number_of r.cause) r.place

-- the places of refusals
abbrev pub proved_place : ProveAnswer → ℕ
proved_place (Ok n) = 0
proved_place (Err r) = r.place

abbrev pub lowered_place : LowerAnswer → ℕ
lowered_place (Ok n) = 0
lowered_place (Err r) = r.place

abbrev pub text_place : TextAnswer → ℕ
text_place (Ok part) = 0
text_place (Err r) = r.place

abbrev pub message_place : MessageAnswer → ℕ
message_place (Ok n) = 0
message_place (Err r) = r.place

abbrev pub pages_place : PagesAnswer → ℕ
pages_place (Ok n) = 0
pages_place (Err r) = r.place

-- ---- the two words of a folded value: its sort and its payload

abbrev pub id_of : ℕ → ℕ → Id
id_of arena node = record { arena = record { 0 = arena }; node = record { 0 = node } }

abbrev pub fold_words : FoldAnswer → List ℕ
fold_words (Ok v) = sort_word_of v ∷ payload_word_of v ∷ []
fold_words (Err r) = 0 ∷ 0 ∷ []

-- ---- the values of a run, two words each

-- a plain value's sort and payload: 0 Null with the payload 0; 1 Int, 2 Float and 3 Str with any; 4 Bool with 0 or 1
unfoldable pub is_plain : ℕ → ℕ → Bool
is_plain sort payload = cond (sort == 0) (payload == 0) (cond (sort == 4) (nat_lt payload 2) (nat_lt sort 4))

-- 8 is added to the sort in an Ok, 16 in an Err
unfoldable pub is_value : ℕ → ℕ → Bool
is_value sort payload =
    cond (nat_lt sort 8) (is_plain sort payload)
    (cond (nat_lt sort 16) (is_plain (sort - 8) payload) (is_plain (sort - 16) payload))

unfoldable pub are_values : List ℕ → Bool
are_values [] = true
are_values (sort ∷ []) = false
are_values (sort ∷ (payload ∷ words)) = is_value sort payload && are_values words

-- the i-th of the values
abbrev pub argument_at : List ℕ → ℕ → Argument
argument_at words i = record { value = value_of_words (slice_index words (i * 2)) (slice_index words (i * 2 + 1)) }

-- how many they are; 17 where they are more, or the words are no values, so that no function takes them (19)
unfoldable pub count_of_words : List ℕ → ℕ
count_of_words words = cond (are_values words) (min (length words / 2) 17) 17

-- the first sixteen
unfoldable pub arguments_of : List ℕ → Arguments
arguments_of words = record { values = map (argument_at words) (up_from 0 16); count = count_of_words words }

-- ---- the four words of an outcome: 1 Returned, 2 Stopped, 3 Fault, 4 Spent; the steps; the value's words, or the fault's number

abbrev pub outcome_words : Outcome → ℕ → List ℕ
outcome_words (outcome.Returned v) n = 1 ∷ n ∷ value_sort v ∷ value_payload v ∷ []
outcome_words (outcome.Stopped p) n = 2 ∷ n ∷ value_sort (Bare p) ∷ value_payload (Bare p) ∷ []
outcome_words (outcome.Fault k) n = 3 ∷ n ∷ k ∷ 0 ∷ []
outcome_words outcome.Spent n = 4 ∷ n ∷ 0 ∷ 0 ∷ []

abbrev pub run_words : RunAnswer → List ℕ
run_words (Ok h) = outcome_words h.outcome h.steps
run_words (Err r) = 0 ∷ 0 ∷ 0 ∷ 0 ∷ []
