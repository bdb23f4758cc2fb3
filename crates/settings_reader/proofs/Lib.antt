mod Documents
mod Each
mod Fits
mod Loads
mod Pairs
mod Places
mod TableKeys
mod Values
