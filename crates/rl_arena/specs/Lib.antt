pub mod Find
pub mod Access
