pub mod Statuses
pub mod Runs
pub mod Requests
pub mod Steps
pub mod SetUps
