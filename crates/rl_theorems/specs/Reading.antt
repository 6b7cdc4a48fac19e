-- What stands at a place of accepted bytes (Access), what each number of the reader says (Numbers), what folding, proving and lowering
-- answer for the bytes of a well-formed image (EncodedAnswers), which are bytes (EncodedBytes), and one small image that is well formed
-- (EncodedExample).
pub mod Access
pub mod Numbers
pub mod EncodedBytes
pub mod EncodedExample
pub mod EncodedAnswers
