pub mod Asking
pub mod Condemning
pub mod Cuts
pub mod StripeCalls
pub mod Turns
pub mod Zeros
