pub mod Causes
pub mod Cuts
pub mod First
pub mod Flats
pub mod Lines
pub mod Running
pub mod Slims
pub mod Told
