pub mod RecordLaws
pub mod Turns
