-- What the calls that change a volume answer and leave, on lists of blocks.
pub mod Changes
pub mod Creates
pub mod FreeInodes
pub mod Removes
pub mod Worked
pub mod Writes
