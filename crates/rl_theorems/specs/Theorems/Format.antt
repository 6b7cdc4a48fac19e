-- DEMAND 1, the format: closed tables of literal bytes, written down from 01 and proved by computation. ByteRows says what a row is: bytes, and
-- the number and place that reading them answers, 0 and 0 where they are accepted.
-- Assumes nothing.
use Rattle.std.specs.Prelude.{◌≡◌, [], ◌∷◌, ◌++◌, map, replicate}
use Rattle.rl_spec.specs.Answers.{accepted}
use Rattle.rl_spec.specs.declared.Section.TheVariants.{Expressions, Statements}
use Rattle.rl_spec.specs.Read.{answer_of, work_of}
use Rattle.rl_spec.specs.Image.{encode, image_of, heights}
use Rattle.rl_examples.specs.ByteRows.{actual, expected, said}
use Rattle.rl_examples.specs.KindBytes as KindBytes
use Rattle.rl_examples.specs.FieldBytes as FieldBytes
use Rattle.rl_examples.specs.LimitBytes as LimitBytes
use Rattle.rl_examples.specs.RefusalBytes as RefusalBytes

-- ---- one image with a record of each kind: it is accepted, stands for these records, is their encoding, and has these heights (KindBytes)

pub kinds_accepted : answer_of KindBytes.bytes 8192 ≡ accepted (record { 0 = 0x04030201 }) (record { bytes = 5; texts = 3; lists = 11; expressions = 42; statements = 16; parameters = 5; clauses = 3; functions = 2; calls = 1 })
kinds_accepted = KindBytes.answer_so

pub kinds_image : image_of KindBytes.bytes ≡ KindBytes.image
kinds_image = KindBytes.image_so

pub kinds_encoded : encode KindBytes.image ≡ KindBytes.bytes
kinds_encoded = KindBytes.encode_so

pub kinds_heights : (heights KindBytes.image Expressions ≡ KindBytes.of_expressions) × (heights KindBytes.image Statements ≡ KindBytes.of_statements)
kinds_heights = KindBytes.heights_so

pub kinds_work : work_of KindBytes.bytes 8192 ≡ KindBytes.of_expressions ++ KindBytes.of_statements ++ replicate 8134 0
kinds_work = KindBytes.work_so

-- ---- each field of each kind with values that are allowed and values that are not, and cut short (FieldBytes)

pub expressions_so : map (map actual) FieldBytes.expressions ≡ map (map expected) FieldBytes.expressions
expressions_so = FieldBytes.expressions_so

pub statements_so : map (map actual) FieldBytes.statements ≡ map (map expected) FieldBytes.statements
statements_so = FieldBytes.statements_so

pub others_so : map (map actual) FieldBytes.others ≡ map (map expected) FieldBytes.others
others_so = FieldBytes.others_so

-- ---- the header's counts and the heights, at their limits and past them (LimitBytes)

pub counts_so : map actual LimitBytes.counts ≡ map expected LimitBytes.counts
counts_so = LimitBytes.counts_so

pub heights_so : map actual LimitBytes.heights ≡ map expected LimitBytes.heights
heights_so = LimitBytes.heights_so

-- ---- each cause of reading with its place, their order, short work slices, and what a refusal leaves (RefusalBytes)

pub refusals_so : map actual RefusalBytes.rows ≡ map expected RefusalBytes.rows
refusals_so = RefusalBytes.refusals_so

pub short_so : said (answer_of RefusalBytes.empty 8191) ∷ said (answer_of RefusalBytes.empty 8192) ∷ said (answer_of RefusalBytes.empty 0) ∷ said (answer_of [] 8191)
    ∷ said (answer_of (replicate 65536 0) 8191) ∷ [] ≡ (2, 0) ∷ (0, 0) ∷ (2, 0) ∷ (2, 0) ∷ (1, 0) ∷ []
short_so = RefusalBytes.short_so

pub work_zero : work_of RefusalBytes.later 8192 ∷ work_of RefusalBytes.empty 3 ∷ [] ≡ replicate 8192 0 ∷ replicate 3 0 ∷ []
work_zero = RefusalBytes.work_zero
