-- ---- answers
pub mod AnswerLaws
-- ---- tests, ranges, an index or none
pub mod Tests
pub mod Within
pub mod Optionals
-- ---- texts by words
pub mod Words
-- ---- records that are found, the trees of an image and their heights
pub mod Found
pub mod Descend
pub mod Heights
-- ---- the steps of a run
pub mod Steps
