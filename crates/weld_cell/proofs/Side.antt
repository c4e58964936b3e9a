-- A cell of which a and d are known. Assumes nothing.
use mathlib.Core.Path.{◌≡◌, refl}
use mathlib.Core.Bool.{Bool, true, false}
use Prim.Native.Nat.{ℕ, ◌<◌, ◌^◌}
use Rattle.math.specs.declared.Vec3.{Vec3}
use Rattle.math.specs.Vec.{v_finite}
use Rattle.mesh_spec.specs.Mesh.{plus_zero_v}
use Rattle.weld.specs.declared.Welding.{Welding}
use Rattle.weld.specs.declared.Four.{Four}
use Rattle.weld.specs.declared.FourNumbers.{FourNumbers}
use Rattle.weld.specs.Rep.{Held, Ready}
use Rattle.weld.specs.Welding.{held_by}
use Rattle.weld_search.specs.Search.{WeldsPoint}
use Rattle.weld_triangle.specs.Steps.{WeldsNumbers}
use Rattle.weld_triangle.proofs.Triangle.{linked_after}
use Rattle.weld_quad.specs.Quads.{Known, Numbered}
use Rattle.weld_quad.proofs.Quads.{quad_numbered, both_runs, point_again, given_on, given_over}
use Rattle.mesh_balance_spec.specs.Grid.{quad_turned}
use Rattle.weld_cell.specs.Cell.{turned, exchanged, SideRuns, TurnedSideRuns}
use Rattle.weld_cell.proofs.Turned.{cell_flipped, cell_straight}

pub side_runs : (b c : Vec3) (na nd : ℕ) {w wb wc u r : Welding} {nb nc : ℕ} → Ready (held_by w) → WeldsPoint b w wb nb → WeldsPoint c wb wc nc
    → WeldsNumbers na nb nc wc u → WeldsNumbers na nc nd u r → na < 2 ^ 32 → nd < 2 ^ 32
    → SideRuns b c na nd (held_by w) (held_by r) (record { a = na; b = nb; c = nc; d = nd })
side_runs b c na nd {nb} {nc} R B C T₁ T₂ sa sd a d A D =
    both_runs (record { a = a; b = b; c = c; d = d }) (record { a = na; b = nb; c = nc; d = nd }) (point_again a na R.linked sa A) B C T₁
    (point_again d nd (linked_after T₁ C.runs.linked) sd (given_over T₁ (given_on C (given_on B D)))) T₂

pub turned_side_runs : (b c : Vec3) (na nd : ℕ) {w wc u wb r : Welding} {nb nc : ℕ} → Ready (held_by w) → WeldsPoint c w wc nc → WeldsNumbers na nd nc wc u
    → WeldsPoint b u wb nb → WeldsNumbers na nc nb wb r → na < 2 ^ 32 → nd < 2 ^ 32
    → TurnedSideRuns b c na nd (held_by w) (held_by r) (record { a = na; b = nb; c = nc; d = nd })
turned_side_runs b c na nd {nb} {nc} R C T₁ B T₂ sa sd a d A D =
    both_runs (record { a = a; b = d; c = c; d = b }) (record { a = na; b = nd; c = nc; d = nb }) (point_again a na R.linked sa A) (point_again d nd R.linked sd D) C T₁ B T₂

-- all points are finite: b and c after `+ 0.0` are b' and c'
module _ (p : Four) (b' c' : Vec3) (na nd : ℕ) (h k : Held) (n : FourNumbers) (f : h.st.finite ≡ true) (e : h.st.room ≡ true)
    (A : Known h.st h.vertices p.a na) (D : Known h.st h.vertices p.d nd) (fb : v_finite p.b ≡ true) (fc : v_finite p.c ≡ true)
    (eb : b' ≡ plus_zero_v p.b) (ec : c' ≡ plus_zero_v p.c) (flip : Bool) where
  pub side_straight : flip ≡ false → SideRuns b' c' na nd h k n → Numbered (quad_turned flip p.a p.b p.c p.d) p h k n
  side_straight s P =
      cell_straight p h k n flip s
      (quad_numbered p (record { a = plus_zero_v p.a; b = b'; c = c'; d = plus_zero_v p.d }) h k n
      (record { a = A.finite f e; b = fb; c = fc; d = D.finite f e })
      (record { a = refl; b = eb; c = ec; d = refl })
      (P (plus_zero_v p.a) (plus_zero_v p.d) (A.first f) (D.first f)))

  pub side_turned : flip ≡ true → TurnedSideRuns b' c' na nd h k n → Numbered (quad_turned flip p.a p.b p.c p.d) p h k n
  side_turned s P =
      cell_flipped p h k (exchanged n) flip s
      (quad_numbered (turned p) (record { a = plus_zero_v p.a; b = plus_zero_v p.d; c = c'; d = b' }) h k (exchanged n)
      (record { a = A.finite f e; b = D.finite f e; c = fc; d = fb })
      (record { a = refl; b = refl; c = ec; d = eb })
      (P (plus_zero_v p.a) (plus_zero_v p.d) (A.first f) (D.first f)))
