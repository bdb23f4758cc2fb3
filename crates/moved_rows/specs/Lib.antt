pub mod Moves
pub mod Iterated
pub mod Moving
pub mod Removing
