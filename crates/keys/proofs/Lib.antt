-- The lemmas of the crate, by topic.
pub mod Chains
pub mod Entries
pub mod Keeping
pub mod Remainders
pub mod Standing
pub mod Sums
pub mod Tables
