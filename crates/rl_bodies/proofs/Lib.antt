pub mod Lasts
pub mod Ensured
pub mod Pushing
pub mod Nothing
pub mod NewBody
