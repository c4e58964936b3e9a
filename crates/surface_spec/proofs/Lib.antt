-- The grids of `solid_spec` as grids over surfaces.
pub mod SurfaceGrids
