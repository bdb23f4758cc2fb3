pub mod Judgements
pub mod Beside
pub mod Runs
pub mod Follows
pub mod Shelves
pub mod Outcomes
