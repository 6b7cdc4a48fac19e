pub mod Puts
pub mod Laid
pub mod Parts
pub mod Rest
pub mod Final
pub mod Laws
pub mod Accepted
