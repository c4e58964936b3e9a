-- A face of one part on each axis is one quad. Assumes nothing.
use mathlib.Core.Path.{◌≡◌, refl, sym, ap, ◌∙◌}
use mathlib.Core.Bool.{Bool, true, false, cond, not}
use Prim.Native.Nat.{ℕ, zero, suc, ◌+◌, ◌%◌, ◌<◌}
use native.Mathlib.Omega.{arith}
use lib.Ieee.{Float}
use Rattle.math.specs.declared.Vec3.{Vec3}
use Rattle.math.specs.Vec.{axis}
use Rattle.mesh_balance_spec.specs.Grid.{quad_turned}
use Rattle.surface_spec.specs.declared.Chart.TheVariants.{Cartesian}
use Rattle.solid_spec.specs.Grid.{Soup, grid}
use Rattle.solid_spec.specs.ParamBox.{coord}
use Rattle.surface_spec.specs.Faces.{three, face_point, numbered_face}
use Rattle.surface_spec.specs.Surface.{mapped}
use Rattle.weld.specs.declared.Four.{Four}
use Rattle.surface_quad.specs.Flat.{quad_of}

-- the quad in either order
pub order_high : (side : Bool) (a b c d : Vec3) → side ≡ true → quad_of (record { a = a; b = b; c = c; d = d }) ≡ quad_turned (not side) a b c d
order_high side a b c d e = ap (λ (t : Bool). quad_turned (not t) a b c d) (sym e)

pub order_low : (side : Bool) (a b c d : Vec3) → side ≡ false → quad_of (record { a = a; b = d; c = c; d = b }) ≡ quad_turned (not side) a b c d
order_low side a b c d e = ap (λ (t : Bool). quad_turned (not t) a b c d) (sym e)

-- the quad at val on the axis k, between the lines a and c of the next axis and b and d of the one after that
abbrev between : ℕ → Bool → Float → Float → Float → Float → Float → Soup
between k side val a b c d = quad_turned (not side) (face_point k val a b) (face_point k val c b) (face_point k val c d) (face_point k val a d)

module _ (lo hi : Vec3) where
  abbrev first : ℕ → Float
  first k = coord (axis lo k) (axis hi k) 1 false 0

  face_between : (k : ℕ) (side : Bool) → k < 3 →
      between k side (cond side (axis hi k) (axis lo k)) (first ((k + 1) % 3)) (first ((k + 2) % 3)) (axis hi ((k + 1) % 3)) (axis hi ((k + 2) % 3))
      ≡ numbered_face lo hi (three 1 1 1) (three false false false) (mapped Cartesian) k side
  unfolding numbered_face grid coord mapped
  face_between zero true h = refl
  face_between zero false h = refl
  face_between (suc zero) true h = refl
  face_between (suc zero) false h = refl
  face_between (suc (suc zero)) true h = refl
  face_between (suc (suc zero)) false h = refl
  face_between (suc (suc (suc k))) side h = absurd (none h)
    where
      none : suc (suc (suc k)) < 3 → ⊥
      none h = omega arith

  pub face_is : (k : ℕ) (side : Bool) (r : Four) (p q s t : Vec3) (val a b c d : Float) → k < 3 → quad_of r ≡ quad_turned (not side) p q s t
      → p ≡ face_point k val a b → q ≡ face_point k val c b → s ≡ face_point k val c d → t ≡ face_point k val a d
      → val ≡ cond side (axis hi k) (axis lo k) → a ≡ first ((k + 1) % 3) → b ≡ first ((k + 2) % 3) → c ≡ axis hi ((k + 1) % 3) → d ≡ axis hi ((k + 2) % 3)
      → quad_of r ≡ numbered_face lo hi (three 1 1 1) (three false false false) (mapped Cartesian) k side
  face_is k side r p q s t val a b c d h e ep eq es et ev ea eb ec ed =
      e ∙ (λ i. quad_turned (not side) (ep i) (eq i) (es i) (et i)) ∙ (λ i. between k side (ev i) (ea i) (eb i) (ec i) (ed i)) ∙ face_between k side h
