pub mod Lists
pub mod Spans
pub mod MovedLaws
mod Kept
mod Ends
mod Dropped
mod Found
