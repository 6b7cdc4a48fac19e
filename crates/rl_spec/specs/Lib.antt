-- The definitions, in the order in which they use one another.
-- ---- bytes, text, the format, and what the reader answers
pub mod Answers
pub mod Utf8
pub mod Bytes
pub mod Schema
pub mod Fields
pub mod Read
-- ---- the image that bytes stand for
pub mod Image
pub mod Found
pub mod Ranges
-- ---- values, trees, folding
pub mod Values
pub mod Folded
pub mod Tree
pub mod Fold
pub mod Words
-- ---- contracts and reports
pub mod Records
pub mod FnContracts
pub mod Prove
-- ---- statements, runs, readings
pub mod Statement
pub mod Run
pub mod Reading
-- ---- texts as bytes: messages, what the printer writes, printed pages, and the functions of an image
pub mod Mapped
pub mod Message
pub mod Printed
pub mod Texts
pub mod Pages
pub mod Functions
pub mod Runner
-- ---- lowering
pub mod Make
pub mod Lower
pub mod Lowerer
-- ---- what C and Rust get
pub mod Boundary
