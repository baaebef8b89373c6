-- The attributes of triangles: colours and texture coordinates.
pub mod AttributeRamps
pub mod RowColors
pub mod TexCoords
pub mod TriangleSetup
