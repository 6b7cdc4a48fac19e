pub mod Classes
pub mod Links
