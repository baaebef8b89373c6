pub mod Dump
pub mod Picture
