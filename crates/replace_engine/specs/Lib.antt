pub mod Seen
pub mod Rows
pub mod Arrivals
pub mod EditVerdicts
pub mod Moved
pub mod Work
pub mod Exchange
pub mod Places
