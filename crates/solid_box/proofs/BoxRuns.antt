-- Boxes in both systems, from the parameter box that was welded. Assumes nothing.
use mathlib.Core.Path.{◌≡◌, sym, ap, ◌∙◌}
use mathlib.Core.Bool.{Bool, true, false}
use Prim.Native.Nat.{ℕ}
use lib.Ieee.{binary64, sub}
use Rattle.weld.specs.declared.Welding.{Welding}
use Rattle.weld.specs.Welding.{Welds, welds_as}
use Rattle.math.specs.declared.Vec3.{Vec3}
use Rattle.math.specs.Vec.{v_min, v_max}
use Rattle.surface_spec.specs.declared.Chart.TheVariants.{Cartesian, Cylindrical}
use Rattle.shape_arc.specs.Arc.{arc_segments, is_full}
use Rattle.solid_spec.specs.Coords.{cylindrical_to_cartesian}
use Rattle.solid_spec.specs.Boxes.{as_is, turned_to, cylindrical_box, box_shape}
use Rattle.surface_spec.specs.Surface.{mapped}
use Rattle.solid_box.specs.Box.{middle_parted}
use Rattle.surface_spec.proofs.SurfaceGrids.{cartesian_chart, cylindrical_chart}

pub cylindrical_runs : (full : Bool) (lo hi high : Vec3) (segments n : ℕ) (h r : Welding) → high ≡ turned_to full lo hi → n ≡ arc_segments segments (sub binary64 high.y lo.y)
    → Welds (middle_parted lo high n full (mapped Cylindrical)) h r → Welds (cylindrical_box full lo hi segments) h r
unfolding cylindrical_box
cylindrical_runs full lo hi high segments n h r e d R =
    welds_as
    (ap (λ (f : Vec3 → Vec3). middle_parted lo high n full f) cylindrical_chart
    ∙ ap (λ (k : ℕ). middle_parted lo high k full cylindrical_to_cartesian) d
    ∙ ap (λ (v : Vec3). middle_parted lo v (arc_segments segments (sub binary64 v.y lo.y)) full cylindrical_to_cartesian) e) R

module _ (a b lo hi : Vec3) (cylindrical : Bool) (segments : ℕ) (h r : Welding) where
  pub shape_turned : (full : Bool) → lo ≡ v_min a b → hi ≡ v_max a b → cylindrical ≡ true → full ≡ is_full (sub binary64 hi.y lo.y)
      → Welds (cylindrical_box full lo hi segments) h r → Welds (box_shape a b cylindrical segments) h r
  unfolding box_shape
  shape_turned full p q e f R =
      welds_as
      (ap (λ (t : Bool). cylindrical_box t lo hi segments) f
      ∙ ap (λ (v : Vec3). cylindrical_box (is_full (sub binary64 hi.y v.y)) v hi segments) p
      ∙ ap (λ (v : Vec3). cylindrical_box (is_full (sub binary64 v.y (v_min a b).y)) (v_min a b) v segments) q
      ∙ ap (λ (t : Bool). box_shape a b t segments) (sym e)) R

  pub shape_straight : lo ≡ v_min a b → hi ≡ v_max a b → cylindrical ≡ false → Welds (middle_parted lo hi 1 false (mapped Cartesian)) h r
      → Welds (box_shape a b cylindrical segments) h r
  unfolding box_shape
  shape_straight p q e R =
      welds_as
      (ap (λ (f : Vec3 → Vec3). middle_parted lo hi 1 false f) cartesian_chart
      ∙ ap (λ (v : Vec3). middle_parted v hi 1 false as_is) p
      ∙ ap (λ (v : Vec3). middle_parted (v_min a b) v 1 false as_is) q
      ∙ ap (λ (t : Bool). box_shape a b t segments) (sym e)) R
