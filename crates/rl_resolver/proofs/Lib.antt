pub mod Contracts
pub mod Beginning
pub mod Finishing
pub mod Answers
