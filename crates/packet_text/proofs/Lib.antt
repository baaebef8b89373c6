pub mod TapLemmas
mod Fits
