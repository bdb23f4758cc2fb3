pub mod Laws
mod Parts
mod Rises
