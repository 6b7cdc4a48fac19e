pub mod LatestLaws
pub mod SlotLaws
pub mod Rests
pub mod StepLaws
pub mod ListLaws
pub mod TurnLaws
pub mod ViewLaws
