-- What a caller gets of a text by its number, and of the message of a call's report.
use Rattle.std.specs.Prelude.{ℕ, ◌+◌, ◌-◌, cond, List, [], ◌++◌, map, length, replicate, nat_lt, slice_index_or, Ok, Err}
use Rattle.rl_spec.specs.Answers.{Answer, refused, MessageAnswer, TextAnswer}
use Rattle.rl_spec.specs.declared.Cause.TheVariants.{NoSuchCall, NoSuchText}
use Rattle.rl_spec.specs.declared.Section.TheVariants.{Texts}
use Rattle.rl_spec.specs.declared.TextPart.{TextPart}
use Rattle.rl_spec.specs.Schema.{text_bytes_at}
use Rattle.rl_spec.specs.Read.{number_of, answer_of}
use Rattle.rl_spec.specs.Image.{Image, first, second, record_of, field_of, image_of}
use Rattle.rl_spec.specs.Prove.{violations_of}
use Rattle.rl_spec.specs.Message.{message_of}

-- ---- a text, as a part of the image's bytes: reading first, then 20

-- where its bytes are: the text bytes stand behind the header
unfoldable pub text_part : Image → ℕ → TextPart
text_part im t =
    record {
      start = text_bytes_at + first (field_of (record_of im Texts t) 0);
      length = second (field_of (record_of im Texts t) 0);
    }

abbrev pub text_by : List ℕ → ℕ → Answer → TextAnswer
text_by s t (Ok h) = cond (nat_lt t h.counts.texts) (Ok (text_part (image_of s) t)) (refused NoSuchText 0)
text_by s t (Err r) = Err r

unfoldable pub text_for : List ℕ → ℕ → ℕ → TextAnswer
text_for s k t = text_by s t (answer_of s k)

abbrev pub text_number : TextAnswer → ℕ
text_number (Ok part) = 0
text_number (Err r) = number_of r.cause

-- ---- the message of a call's report of a number: reading first, then 17

-- none where the call has no such report
unfoldable pub message_at : Image → ℕ → ℕ → List ℕ
message_at im call n = slice_index_or (map (message_of im call) (violations_of im call)) n []

abbrev pub message_from : List ℕ → ℕ → ℕ → Answer → MessageAnswer
message_from s call n (Ok h) =
    cond (nat_lt call h.counts.calls) (Ok (length (message_at (image_of s) call n))) (refused NoSuchCall 0)
message_from s call n (Err r) = Err r

unfoldable pub message_answer : List ℕ → ℕ → ℕ → ℕ → MessageAnswer
message_answer s k call n = message_from s call n (answer_of s k)

-- the lent array of 65,535 bytes: the message, then zeros; all zero where something is refused
abbrev pub message_bytes : List ℕ → ℕ → ℕ → MessageAnswer → List ℕ
message_bytes s call n (Ok l) = message_at (image_of s) call n ++ replicate (65535 - l) 0
message_bytes s call n (Err r) = replicate 65535 0

unfoldable pub message_out : List ℕ → ℕ → ℕ → ℕ → List ℕ
message_out s k call n = message_bytes s call n (message_answer s k call n)

abbrev pub message_number : MessageAnswer → ℕ
message_number (Ok l) = 0
message_number (Err r) = number_of r.cause
