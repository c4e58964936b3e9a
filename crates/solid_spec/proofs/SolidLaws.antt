-- The parts of a shape, counted, and the mesh of a shape of one part. Assumes nothing.
use mathlib.Core.Path.{◌≡◌, ap, ◌∙◌}
use mathlib.Core.Bool.{Bool, true, false}
use mathlib.Core.List.{List, [], ◌∷◌}
use Prim.Native.Nat.{◌+◌, ◌-◌, ◌/◌}
use lib.ListN.{length}
use lib.Ieee.{Float, lt}
use Rattle.ieee.specs.Number.{plus_zero}
use Rattle.shape.specs.declared.Shape.{Shape}
use Rattle.shape.specs.declared.Shape.TheVariants.{MultiBox, Wire}
use Rattle.shape.specs.declared.TessellationOptions.{TessellationOptions}
use Rattle.shape.specs.Rotated.{is_rot_poly}
use Rattle.mesh_spec.specs.Mesh.{from_soup, from_parts}
use Rattle.mesh_spec.specs.Parts.{Soup}
use Rattle.mesh_spec.proofs.PartsLaws.{from_parts_one}
use Rattle.solid_spec.specs.Solid.{parts_of, outward_if, solid_mesh}
use Rattle.solid_spec.proofs.PartsBalanced.{multi_box_parts_count, wire_parts_count}

-- a part for each box
pub boxes_counted : (cylindrical : Bool) (v : List Float) (o : TessellationOptions) → length (parts_of cylindrical MultiBox v o) ≡ length v / 6
unfolding parts_of
boxes_counted cylindrical v o = multi_box_parts_count cylindrical v o.segments

-- a tube less than the points, and two spheres less
pub wire_counted : (cylindrical : Bool) (radius : Float) (v : List Float) (o : TessellationOptions) → lt plus_zero radius ≡ true
    → length (parts_of cylindrical (Wire radius) v o) ≡ (length v / 3 - 1) + (length v / 3 - 2)
unfolding parts_of
wire_counted cylindrical radius v o e = wire_parts_count cylindrical v radius o.segments o.sphere_rings e

-- one part of a shape that is not rotated: `s.finish()`
pub one_mesh : (shape : Shape) (s : Soup) → is_rot_poly shape ≡ false → solid_mesh shape (s ∷ []) ≡ from_soup s
unfolding solid_mesh
one_mesh shape s e = ap (λ (b : Bool). outward_if b (from_parts (s ∷ []))) e ∙ from_parts_one s
