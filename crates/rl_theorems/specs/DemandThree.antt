-- Demand 3. THE TWO THEOREMS, with what their premises say and closed instances, stand in Demand; OneAfterAnother has the first half for
-- functions lowered one after another. That each premise is needed: FirstHalfExamples, SecondHalfExamples.
-- First half: what is known where lowering makes an image (LowerAnswers), the bytes that it writes (LoweredBytes), runs in an image that keeps texts and
-- parameters (KeptRuns), and that the run of the lowered bytes is the contract reading of the original (FirstHalf). Second half: what folds
-- is what a run gives (Folds), checks that fold to false are not passed (FoldsChecks), a report is such a check (FoldsEntry) under names
-- that the run binds (FoldsNames), so a call with a violation never passes its callee's entry checks (FoldsCalls); what is reported of a
-- call (Reports) and what a line of the printer says of one (PrintedLines). From premises of records to those of trees (OverRecords); tests
-- for examples (DepthTests). The marked cases as one list (Marked).
pub mod LowerAnswers
pub mod LowerAnswersExamples
pub mod LoweredBytes
pub mod KeptRuns
pub mod FirstHalf
pub mod Folds
pub mod FoldsChecks
pub mod FoldsEntry
pub mod FoldsNames
pub mod FoldsCalls
pub mod Reports
pub mod PrintedLines
pub mod OverRecords
pub mod Marked
pub mod DepthTests
pub mod FirstHalfImages
pub mod Demand
pub mod FirstHalfExamples
pub mod SecondHalfExamples
pub mod OneAfterAnother
pub mod OneAfterAnotherExample
