-- What is proved of the definitions alone. Theorems states it; each part has a head that says what it holds.
-- ---- reading, and what is answered for the bytes of a well-formed image
pub mod Reading
-- ---- the image that lowering makes is well formed
pub mod Images
-- ---- records and the trees that they stand for
pub mod Trees
-- ---- a whole number beside a float
pub mod Values
-- ---- budgets, and texts by their bytes
pub mod Runs
-- ---- lowering, on trees and from records to trees
pub mod Lowering
-- ---- the order of the checks
pub mod Answers
-- ---- both halves of demand 3, from bytes, and the marked cases
pub mod DemandThree
-- ---- what change requests keep of what was there before them
pub mod Changes
-- ---- THE STATEMENTS
pub mod Theorems
