pub mod Calls
pub mod Cut
pub mod Device
pub mod Memory
