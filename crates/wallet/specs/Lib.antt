-- What the contracts of the crate speak of.
pub mod Each
pub mod Levels
pub mod Matched
pub mod Parts
pub mod Places
pub mod Standing
pub mod Wallets
pub mod Worked
