-- The layout of a volume, as the manual has it.
pub mod Entries
pub mod Inodes
pub mod Names
pub mod Superblocks
pub mod Words
pub mod Worked
