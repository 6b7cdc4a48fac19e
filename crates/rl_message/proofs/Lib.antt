pub mod OwnLaws
pub mod DefaultLaws
