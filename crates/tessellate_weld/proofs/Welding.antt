-- What `weld_shape` asks, of a drawing that is welded. Assumes nothing.
use mathlib.Core.Path.{◌≡◌, sym, subst}
use mathlib.Core.Bool.{false}
use mathlib.Core.List.{List}
use Prim.Native.Nat.{ℕ, ◌≤◌}
use native.Mathlib.Omega.{arith}
use lib.ListN.{length}
use lib.Ieee.{Float}
use Rattle.shape.specs.declared.Shape.{Shape}
use Rattle.shape.specs.declared.Shape.TheVariants.{Box, MultiBox, Sphere, SphericalShell, Cylinder, CylindricalShell, Polygon, LinPoly, RotPoly, Wire}
use Rattle.shape.specs.declared.TessellationOptions.{TessellationOptions}
use Rattle.shape.specs.declared.Items.TheVariants.{Corners}
use Rattle.shape.specs.Drawing.{bad_list, items_of}
use Rattle.shape.specs.DrawingLaws.{corners_whole}
use Rattle.solid.specs.Limits.{FewSegments, Listed}
use Rattle.std.specs.Prelude.{Result}
use Rattle.refusal.specs.declared.Refusal.{Refusal}
use Rattle.refusal.specs.Answer.{Answer}
use Rattle.mesh_spec.specs.Mesh.{Mesh}
use Rattle.mesh_check.specs.declared.TriMesh.{TriMesh}
use Rattle.weld.specs.declared.Welder.{Welder}
use Rattle.mesh_made.specs.Steps.{Makes, judged}
use Rattle.mesh_made.proofs.Ending.{makes_is}
use Rattle.tessellate_weld.specs.Steps.{Drawable}

pub bounded : (shape : Shape) (list : List Float) (o : TessellationOptions) → Drawable shape list o → FewSegments o
bounded shape list o D = record { segments = D.segments; rings = D.rings }

corners : (n : ℕ) → bad_list Corners n ≡ false → n ≤ 1024
corners n e = omega (arith, (corners_whole n e).0, (corners_whole n e).1)

pub listed : (shape : Shape) (list : List Float) (o : TessellationOptions) → Drawable shape list o → Listed shape list
unfolding items_of
listed (Polygon normal elevation) list o D = corners (length list) D.items
listed (LinPoly normal elevation height) list o D = corners (length list) D.items
listed (RotPoly normal elevation axis start stop) list o D = corners (length list) D.items
listed (Box start stop) list o D = tt
listed MultiBox list o D = tt
listed (Sphere center radius) list o D = tt
listed (SphericalShell center radius width) list o D = tt
listed (Cylinder start stop radius) list o D = tt
listed (CylindricalShell start stop radius width) list o D = tt
listed (Wire radius) list o D = tt

-- what the welder was lent is what it leaves
pub welded_in : {q : Answer} {m : Mesh} (w : Welder) {r : Result TriMesh Refusal} {vs us : List Float} {ts ss : List ℕ} → us ≡ vs → ss ≡ ts → r ≡ judged w us
    → Makes q m (judged w vs) vs ts → Makes q m r us ss
welded_in {q} {m} w {r} {vs} {us} {ts} {ss} e f j M =
    makes_is j
    (subst (λ (x : List Float). Makes q m (judged w x) x ss) (sym e)
    (subst (λ (y : List ℕ). Makes q m (judged w vs) vs y) (sym f) M))
