pub mod Appending
mod Commands
mod ItemRuns
mod Machine
mod Swaps
mod Turns
