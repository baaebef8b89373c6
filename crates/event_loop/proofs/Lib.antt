pub mod Awaiting
pub mod Blocks
pub mod Commands
pub mod Due
pub mod Ending
pub mod Lacking
