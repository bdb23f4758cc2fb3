pub mod Arrived
pub mod Sound
pub mod Cuts
pub mod Exchanged
pub mod Done
pub mod Told
pub mod Counted
pub mod Tables
pub mod Passing
pub mod MovingNone
mod Emptied
mod Within
