pub mod OpenLaws
pub mod CallLaws
pub mod LineLaws
pub mod AnswerLaws
