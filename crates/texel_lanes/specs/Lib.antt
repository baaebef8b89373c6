pub mod Nibbles
pub mod Table
pub mod Texels
pub mod Texture
