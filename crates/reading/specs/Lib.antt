-- What lookup, list and read answer, on plain values.
pub mod Found
pub mod Listings
pub mod Lookups
pub mod Lowest
pub mod Questions
pub mod Reads
