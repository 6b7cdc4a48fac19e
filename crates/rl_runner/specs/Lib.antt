pub mod Bound
pub mod Ends
