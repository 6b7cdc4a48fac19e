pub mod AddedLaws
pub mod ReportLaws
pub mod AnswerLaws
pub mod LinesLaws
