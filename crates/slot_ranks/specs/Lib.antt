pub mod Iterated
pub mod Ranks
pub mod Slots
