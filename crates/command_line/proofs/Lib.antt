pub mod Commands
pub mod LastWord
pub mod TakenApart
