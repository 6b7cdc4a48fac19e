pub mod Callees
pub mod Passes
pub mod Reports
pub mod Violations
pub mod Calls
