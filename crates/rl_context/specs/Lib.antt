pub mod Additions
pub mod Does
pub mod Paths
pub mod Copies
pub mod Guards
