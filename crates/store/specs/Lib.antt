pub mod Condemned
pub mod Images
pub mod Lives
pub mod Padding
pub mod Plain
pub mod Pockets
pub mod Stores
pub mod Stripes
