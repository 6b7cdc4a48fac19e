pub mod Results
pub mod EnterLaws
pub mod ResumeLaws
pub mod BeginLaws
