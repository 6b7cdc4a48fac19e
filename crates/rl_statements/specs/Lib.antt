pub mod Latest
pub mod Bindings
pub mod Slots
pub mod Frames
pub mod Lists
pub mod Steps
pub mod Views
