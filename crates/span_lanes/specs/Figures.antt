-- Figures: the rows of triangles and rectangles.
pub mod Boxes
pub mod Rows
pub mod Triangles
pub mod ClippedTriangle
pub mod SolidColor
pub mod Rectangles
