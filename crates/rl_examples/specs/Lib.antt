-- Closed examples of the definitions, by computation. They stand on rl_spec alone, so that a wrong definition is refused here first.
-- ---- text and values
pub mod Utf8Examples
pub mod ValueExamples
-- ---- the functions of an image
pub mod FunctionExamples
-- ---- small images, and what lowering makes of them
pub mod MarkedImages
pub mod LowerExamples
pub mod LowerRecords
pub mod CopyExamples
pub mod LowerLimitExamples
-- ---- tables: the numbers of causes, and words
pub mod NumberTable
-- ---- tables: images in bytes
pub mod ByteRows
pub mod KindBytes
pub mod FieldRows
pub mod FieldBytes
pub mod LimitBytes
pub mod RefusalBytes
-- ---- tables: operators and literals; floats; refinements and the texts of clauses; callees and values
pub mod NodeRows
pub mod OperatorTable
pub mod FloatTable
pub mod ContractRows
pub mod RefinementTable
pub mod CallTable
-- ---- tables: runs, and readings of contracts
pub mod FunctionRows
pub mod RunnerRows
pub mod RunnerTable
pub mod ReadingTable
-- ---- single instances, which shut out 01's "Worthless versions"
pub mod DemandExamples
-- ---- what the printer writes, and printed pages
pub mod PrinterExamples
pub mod ColumnExamples
pub mod PagesExamples
-- ---- what C and Rust get
pub mod BoundaryTable
