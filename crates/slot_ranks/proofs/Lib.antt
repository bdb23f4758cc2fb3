pub mod Below
mod Counted
pub mod Laws
mod Tables
