pub mod Checked
pub mod Scopes
