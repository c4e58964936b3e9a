-- The definitions of each solid's soup, after src/tessellate.rs.
pub mod Grid
pub mod ParamBox
pub mod Coords
pub mod Sphere
pub mod Cylinder
pub mod Boxes
pub mod Wire
pub mod Outline
pub mod Polygons
pub mod Solid
pub mod Sizes
pub mod Fits
pub mod BalancedParts
