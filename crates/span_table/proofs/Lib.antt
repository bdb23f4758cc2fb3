mod Changes
mod Ends
mod Found
pub mod Lists
mod Places
mod Runs
