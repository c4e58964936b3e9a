-- A cell by its two windings: what is known of a quad's points is known of the cell's. Assumes nothing.
use mathlib.Core.Path.{◌≡◌, refl, sym, subst}
use mathlib.Core.Bool.{Bool, true, false, ◌&&◌, cond}
use mathlib.Core.List.{List}
use Prim.Native.Nat.{ℕ, ◌<◌, ◌^◌}
use lib.Ieee.{Float}
use Rattle.math.specs.declared.Vec3.{Vec3}
use Rattle.mesh_balance_spec.specs.Soup.{Tri}
use Rattle.mesh_balance_spec.specs.Grid.{quad, quad_turned}
use Rattle.slice_law.specs.Bools.{not_both}
use Rattle.weld.specs.declared.Welder.{Welder}
use Rattle.weld.specs.declared.Four.{Four}
use Rattle.weld.specs.declared.FourNumbers.{FourNumbers}
use Rattle.weld.specs.Rep.{Held, Linked}
use Rattle.weld_quad.specs.Quads.{Known, Numbered, LastRuns}
use Rattle.weld_quad.proofs.Quads.{known_small}
use Rattle.weld_cell.specs.Cell.{turned, exchanged}

module _ (p : Four) (h k : Held) (n : FourNumbers) where
  exchange : (soup : List (Tri Vec3)) → Numbered soup (turned p) h k n → Numbered soup p h k (exchanged n)
  exchange soup N = record { runs = N.runs; known_a = N.known_a; known_b = N.known_d; known_c = N.known_c; known_d = N.known_b }

  pub cell_flipped : (flip : Bool) → flip ≡ true → Numbered (quad p.a p.d p.c p.b) (turned p) h k n → Numbered (quad_turned flip p.a p.b p.c p.d) p h k (exchanged n)
  cell_flipped flip e N = subst (λ (t : Bool). Numbered (quad_turned t p.a p.b p.c p.d) p h k (exchanged n)) (sym e) (exchange (quad p.a p.d p.c p.b) N)

  pub cell_straight : (flip : Bool) → flip ≡ false → Numbered (quad p.a p.b p.c p.d) p h k n → Numbered (quad_turned flip p.a p.b p.c p.d) p h k n
  cell_straight flip e N = subst (λ (t : Bool). Numbered (quad_turned t p.a p.b p.c p.d) p h k n) (sym e) N

-- the numbers of the two triangles are 32-bit numbers
pick_small : (flip : Bool) (x y z n : ℕ) → z ≡ cond flip x y → x < n → y < n → z < n
pick_small true x y z n e l k = subst (λ (m : ℕ). m < n) (sym e) l
pick_small false x y z n e l k = subst (λ (m : ℕ). m < n) (sym e) k

pub row_small : (flip : Bool) (w : Welder) (vs : List Float) (ws : List ℕ) (a b d : Vec3) (na nb nd second fourth : ℕ) → Linked w vs ws → w.finite ≡ true → w.room ≡ true
    → Known w vs a na → Known w vs b nb → Known w vs d nd → second ≡ cond flip nd nb → fourth ≡ cond flip nb nd → (na < 2 ^ 32) × (second < 2 ^ 32) × (fourth < 2 ^ 32)
row_small flip w vs ws a b d na nb nd second fourth L f r A B D p q =
    let lb = known_small w vs ws b nb L f r B in
    let ld = known_small w vs ws d nd L f r D in
    (known_small w vs ws a na L f r A, pick_small flip nd nb second (2 ^ 32) p ld lb, pick_small flip nb nd fourth (2 ^ 32) q lb ld)

-- a cell of which only c was looked up
pub cell_last : (flip : Bool) (p : Four) (n : FourNumbers) (second fourth nc : ℕ) (h k : Held)
    → second ≡ cond flip n.d n.b → fourth ≡ cond flip n.b n.d → LastRuns p.c n.a second fourth h k nc
    → Known h.st h.vertices p.a n.a → Known h.st h.vertices p.b n.b → Known h.st h.vertices p.d n.d
    → Numbered (quad_turned flip p.a p.b p.c p.d) p h k (record { a = n.a; b = n.b; c = nc; d = n.d })
cell_last flip p n second fourth nc h k e f L A B D =
    go flip (subst (λ (m : ℕ). LastRuns p.c n.a (cond flip n.d n.b) m h k nc) f (subst (λ (m : ℕ). LastRuns p.c n.a m fourth h k nc) e L))
  where
    go : (t : Bool) → LastRuns p.c n.a (cond t n.d n.b) (cond t n.b n.d) h k nc → Numbered (quad_turned t p.a p.b p.c p.d) p h k (record { a = n.a; b = n.b; c = nc; d = n.d })
    go true M = exchange p h k (record { a = n.a; b = n.d; c = nc; d = n.b }) (quad p.a p.d p.c p.b) (M p.a p.d p.b A D B)
    go false M = M p.a p.b p.d A B D
