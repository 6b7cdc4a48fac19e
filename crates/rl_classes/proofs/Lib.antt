pub mod Same
pub mod Links
pub mod Laws
