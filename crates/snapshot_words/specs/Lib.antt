pub mod Sections
pub mod Values
pub mod Shapes
pub mod Outline
pub mod Reading
pub mod Taking
pub mod Laws
