pub mod Lowering
pub mod Running
