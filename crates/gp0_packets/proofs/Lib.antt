pub mod Opened
mod DrawnBy
