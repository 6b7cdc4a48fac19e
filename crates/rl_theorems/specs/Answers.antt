-- Checks run in the table's order. The tables of lowering, folding, proving, texts, messages, pages and running (Tables), which stand
-- behind the reader's (AfterReading); that each refuses exactly for the first cause of its table that holds, and gives its answer exactly
-- where none does (OfLowering and OfLimits, OfFolding, OfProving, OfTexts, OfPages, OfRunning), and that a text that is found stands in
-- the image's bytes (OfTexts); what the runner answers for values in words (OfWords) and at two budgets (AtBudgets); what is left in the
-- slices that are lent (Outputs); and that the printer's lines by their numbers are all that it writes (InOrder). The reader's own table
-- is in rl_images (Reading: Rows, ReadOutcome).
pub mod Tables
pub mod AfterReading
pub mod OfLowering
pub mod OfLimits
pub mod OfFolding
pub mod OfProving
pub mod OfTexts
pub mod OfPages
pub mod OfRunning
pub mod OfWords
pub mod AtBudgets
pub mod Outputs
pub mod InOrder
