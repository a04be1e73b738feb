-- What the contracts of the crate speak of.
pub mod Algebra
pub mod Bits
pub mod Calls
pub mod Field
pub mod Keys
pub mod Tables
pub mod Vectors
pub mod Worked
