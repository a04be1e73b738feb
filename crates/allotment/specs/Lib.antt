-- Volumes formatted, and the steps that calls on files are made of.
pub mod Calls
pub mod Formats
pub mod FreeSteps
pub mod Records
pub mod Volumes
