pub mod FoldLaws
pub mod ProveLaws
pub mod AnswerLaws
