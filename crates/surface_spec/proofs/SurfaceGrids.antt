-- Each grid of each solid is the grid of one surface.
use mathlib.Core.Path.{◌≡◌, refl}
use mathlib.Core.List.{List}
use mathlib.Core.Bool.{Bool, true, false, cond, not}
use Prim.Native.Nat.{ℕ, ◌+◌, ◌/◌, ◌%◌, max}
use lib.ListN.{length}
use lib.Ieee.{Float}
use Rattle.math.specs.declared.Vec3.{Vec3}
use Rattle.ieee.specs.Number.{plus_zero, maximum, tau}
use Rattle.math.specs.Vec.{axis}
use Rattle.surface_spec.specs.declared.Chart.{Chart}
use Rattle.surface_spec.specs.declared.Chart.TheVariants.{Cartesian, Cylindrical, Around}
use Rattle.surface_spec.specs.declared.Surface.TheVariants.{Face, Sphere, Extruded, Rotated}
use Rattle.solid_spec.specs.Grid.{grid}
use Rattle.solid_spec.specs.ParamBox.{along, param_box}
use Rattle.solid_spec.specs.Coords.{cylindrical_to_cartesian}
use Rattle.solid_spec.specs.Sphere.{sphere_point}
use Rattle.solid_spec.specs.Cylinder.{frame1, frame2, tube}
use Rattle.solid_spec.specs.Boxes.{as_is}
use Rattle.solid_spec.specs.Outline.{extruded_sides, turned_sides}
use Rattle.surface_spec.specs.Faces.{numbered_face}
use Rattle.surface_spec.specs.Surface.{mapped, line_of, surface_at}
use Rattle.solid_spec.proofs.OutlineBalanced.{extruded_sides_grid, turned_sides_grid}

module _ (p : List Float) where
  -- a face of a parameter box
  pub face_surface : (lo hi : Vec3) (divs : ℕ → ℕ) (periodic : ℕ → Bool) (chart : Chart) (k : ℕ) (side : Bool) →
      numbered_face lo hi divs periodic (mapped chart) k side
      ≡ grid (divs ((k + 1) % 3)) (divs ((k + 2) % 3)) (not side)
      (surface_at p (Face chart k (cond side (axis hi k) (axis lo k)) (line_of lo hi divs periodic ((k + 1) % 3)) (line_of lo hi divs periodic ((k + 2) % 3))))
  unfolding numbered_face surface_at
  face_surface lo hi divs periodic chart k side = refl

  -- a sphere
  pub sphere_surface : (c : Vec3) (r : Float) (nt np : ℕ) (flip : Bool) →
      grid nt np flip (sphere_point c r nt np) ≡ grid nt np flip (surface_at p (Sphere c r nt np))
  unfolding surface_at
  sphere_surface c r nt np flip = refl

  -- the sides of an extruded outline
  pub extruded_surface : (n : ℕ) (lo hi : Float) →
      extruded_sides n p lo hi ≡ grid (length p / 2) 1 false (surface_at p (Extruded n (length p / 2) lo hi))
  unfolding surface_at
  extruded_surface n lo hi = extruded_sides_grid n p lo hi

  -- the sides of a rotated outline
  pub rotated_surface : (a q : ℕ) (start span : Float) (full : Bool) (n : ℕ) →
      turned_sides a q p start span full n ≡ grid (length p / 2) n true (surface_at p (Rotated a q (length p / 2) full start span n))
  unfolding surface_at
  rotated_surface a q start span full n = turned_sides_grid a q p start span full n

-- the maps of the cylinder and of the boxes are charts
pub tube_chart : (a d : Vec3) (len r0 r1 : Float) (segments : ℕ) →
    tube a d len r0 r1 segments
    ≡ param_box (along (maximum r0 plus_zero) r1 1 false) (along plus_zero tau (max segments 3) true) (along plus_zero len 1 false) (mapped (Around a d (frame1 d) (frame2 d)))
unfolding tube mapped
tube_chart a d len r0 r1 segments = refl

pub cartesian_chart : mapped Cartesian ≡ as_is
unfolding mapped
cartesian_chart = refl

pub cylindrical_chart : mapped Cylindrical ≡ cylindrical_to_cartesian
unfolding mapped
cylindrical_chart = refl
