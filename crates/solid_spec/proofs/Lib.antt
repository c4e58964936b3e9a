-- The laws of the soups, and the theorems that they are balanced.
pub mod Points
pub mod Every
pub mod Closes
pub mod Unequal
pub mod Coord
pub mod ParamBoxBalanced
pub mod Maps
pub mod SphereBalanced
pub mod CylinderBalanced
pub mod BoxBalanced
pub mod PartsBalanced
pub mod Sides
pub mod OutlineBalanced
pub mod PolygonsBalanced
pub mod SolidLaws
pub mod Examples
