pub mod Notes
pub mod Shifts
pub mod Landed
pub mod Stands
mod Inserted
mod Removed
pub mod Places
