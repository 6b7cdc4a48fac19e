-- WHAT IS PROVED of the definitions in rl_spec: a file for each of the three demands, and one for change requests. The proofs stand in the
-- files that are named at each part; closed tables and examples in rl_examples.
-- ---- demand 1: any bytes are read, or refused with the number and place of 01's table and for those causes only; all ends; a refusal
-- leaves every lent output zero
pub mod AnyBytes
pub mod Format
-- ---- demand 2: IEEE 754-2019 for floats and RFC 3629 for text, save 01's listed differences; then the Rust decides
pub mod Standards
-- ---- demand 3: the run of the lowered body and 01's contract reading of the original are alike; a call that has a report never passes its
-- callee's entry checks
pub mod AlikeRuns
-- ---- proved on the way
pub mod OnTheWay
-- ---- what change requests keep of what was there before them, and what they bring
pub mod Changes
