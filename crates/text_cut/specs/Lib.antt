pub mod Halves
pub mod Coming
pub mod Pulled
