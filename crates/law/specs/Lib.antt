-- What the contracts of the crate speak of.
pub mod Alone
pub mod Runs
pub mod Services
pub mod StoreCalls
pub mod Withheld
