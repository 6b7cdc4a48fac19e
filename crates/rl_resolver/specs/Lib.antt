pub mod Begun
pub mod Lowered
