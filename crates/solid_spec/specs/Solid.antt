-- The match of `tessellate` in src/tessellate.rs: the parts of a shape, each of which is welded by itself, and the mesh that they make. Definitions only.
use Rattle.std.specs.Prelude.{Bool, cond, List, [], ◌∷◌, Float}
use Rattle.std.specs.Float.{binary64}
use Rattle.std.specs.Float.Ieee.{lt, of_bits}
use Rattle.shape.specs.declared.Shape.{Shape}
use Rattle.shape.specs.declared.Shape.TheVariants.{Box, MultiBox, Sphere, SphericalShell, Cylinder, CylindricalShell, Polygon, LinPoly, RotPoly, Wire}
use Rattle.shape.specs.declared.TessellationOptions.{TessellationOptions}
use Rattle.shape.specs.Rotated.{is_rot_poly}
use Rattle.mesh_spec.specs.Mesh.{Mesh, flip, from_parts}
use Rattle.mesh_spec.specs.Parts.{Soup}
use Rattle.mesh_spec.specs.Measures.{signed_volume}
use Rattle.solid_spec.specs.Boxes.{box_soup, multi_box_parts}
use Rattle.solid_spec.specs.Sphere.{sphere_soup, spherical_shell_soup}
use Rattle.solid_spec.specs.Cylinder.{cylinder_soup, cylindrical_shell_soup}
use Rattle.solid_spec.specs.Polygons.{polygon_soup, lin_poly_soup, rot_poly_soup}
use Rattle.solid_spec.specs.Wire.{wire_parts}

-- the soups of a shape in its system, with its lent list v: a part for each box of a multi-box, each tube and joint of a wire, and one part for any other shape
unfoldable pub parts_of : Bool → Shape → List Float → TessellationOptions → List Soup
parts_of cylindrical (Box start stop) v o = box_soup cylindrical start stop o.segments ∷ []
parts_of cylindrical MultiBox v o = multi_box_parts cylindrical v o.segments
parts_of cylindrical (Sphere center radius) v o = sphere_soup cylindrical center radius o.segments o.sphere_rings ∷ []
parts_of cylindrical (SphericalShell center radius width) v o = spherical_shell_soup cylindrical center radius width o.segments o.sphere_rings ∷ []
parts_of cylindrical (Cylinder start stop radius) v o = cylinder_soup cylindrical start stop radius o.segments ∷ []
parts_of cylindrical (CylindricalShell start stop radius width) v o = cylindrical_shell_soup cylindrical start stop radius width o.segments ∷ []
parts_of cylindrical (Polygon normal elevation) v o = polygon_soup normal v elevation ∷ []
parts_of cylindrical (LinPoly normal elevation length) v o = lin_poly_soup normal v elevation length ∷ []
parts_of cylindrical (RotPoly normal elevation axis start stop) v o = rot_poly_soup normal axis v start stop o.segments ∷ []
parts_of cylindrical (Wire radius) v o = wire_parts cylindrical v radius o.segments o.sphere_rings

-- the end of the case RotPoly: `if m.signed_volume() < 0.0 { m.flip(); }`; a NaN does not flip
unfoldable pub outward : Mesh → Mesh
outward m = cond (lt (signed_volume m) (of_bits binary64 0)) (flip m) m

-- the same where the shape is a rotated outline; other meshes stay
abbrev pub outward_if : Bool → Mesh → Mesh
outward_if rotated m = cond rotated (outward m) m

-- the mesh of a shape from its parts, before the transform
unfoldable pub solid_mesh : Shape → List Soup → Mesh
unfolding is_rot_poly
solid_mesh shape parts = outward_if (is_rot_poly shape) (from_parts parts)
