pub mod FileFacts
pub mod Finding
pub mod Listing
pub mod Lowests
