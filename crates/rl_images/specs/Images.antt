-- What a well-formed image keeps to: which sorts of field its sections have (SchemaSorts), what a field says (FieldFacts), those of
-- clauses, parameters and functions (FunctionFields), its limits (Limits), how tall its trees are (Heights), and what is reported of its
-- calls (Reports). And a page's line (PageLines), and lines on pages (Paged).
pub mod SchemaSorts
pub mod FieldFacts
pub mod FunctionFields
pub mod Limits
pub mod Heights
pub mod Reports
pub mod PageLines
pub mod Paged
