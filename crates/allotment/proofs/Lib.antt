pub mod Clearing
pub mod Formatting
pub mod FreeLaws
pub mod Laying
pub mod Leading
pub mod Written
