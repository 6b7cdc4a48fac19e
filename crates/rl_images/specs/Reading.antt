-- What reading comes to, on any bytes: the syntax of texts (Utf8) and their scalars (Scalars); tables of causes (Table) and the reader's (Rows); that a record (Tall, Causes)
-- and the whole (ReadOutcome) are refused exactly by it, what stands whole where it is not (Whole) and where a refusal stands (Places);
-- that accepted bytes encode the image that they stand for (Decode), where its records stand (Starts), and that bytes, starts and counts
-- give that image (Found); what a refusal leaves (Refusals, Filled).
pub mod Utf8
pub mod Scalars
pub mod Table
pub mod Rows
pub mod Tall
pub mod Causes
pub mod Whole
pub mod ReadOutcome
pub mod Places
pub mod Filled
pub mod Decode
pub mod Starts
pub mod Refusals
pub mod Found
