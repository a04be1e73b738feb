-- The lemmas of the crate, by topic.
pub mod Changing
pub mod Covering
pub mod Gathering
pub mod Hiding
pub mod Leading
pub mod Marking
pub mod MatchedCovers
pub mod Matching
pub mod PlaceLaws
pub mod Putting
pub mod Scattering
pub mod Summing
pub mod WorkedCases
pub mod Xors
