pub mod BoundLaws
pub mod EndLaws
pub mod RunLaws
