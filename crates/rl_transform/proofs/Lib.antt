pub mod Loops
pub mod Rebuilding
pub mod Steps
