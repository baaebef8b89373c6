pub mod Demo
pub mod DemoOut
pub mod Telling
pub mod Words
