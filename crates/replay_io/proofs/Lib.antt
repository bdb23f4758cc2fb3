mod Places
mod Turns
