pub mod Rounds
pub mod Seats
