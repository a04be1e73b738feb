-- The lemmas of the crate, by topic.
pub mod Aloneness
pub mod Keeping
pub mod Running
pub mod Serving
pub mod Showing
pub mod Simulating
pub mod StoreCallLaws
pub mod Withholding
