pub mod Opened
pub mod Lines
