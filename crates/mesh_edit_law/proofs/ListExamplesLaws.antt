-- Lists of calls by hand: a tetrahedron is appended to an empty mesh, the mesh is flipped, and a sheet finds no room; boxes that are claimed. All vertices
-- are (0, 0, 0), so the right box is the box of zeros. Assumes nothing.
use Rattle.std.specs.Prelude.{◌≡◌, ◌∷◌, ℕ}
use Rattle.std.proofs.Common.{sym, ◌∙◌, arith}
use Rattle.mesh_spec.specs.Closed.{Closed}
use Rattle.mesh_check.specs.State.{mesh_of}
use Rattle.mesh_edit_law.specs.Lists.{Append, Brings, AllBring}
use Rattle.mesh_edit_law.specs.ListExamples.{calls, refused, sheet, sheet_accepted, sheet_refused, start, whole_closed}

-- so the list brings closed meshes, though the sheet is open: its call is refused
pub calls_bring : AllBring Closed calls start
calls_bring = (λ e. whole_closed, (tt, (λ e. absurd (refused (sym sheet_refused ∙ e)), tt)))

-- at the start the sheet would be accepted, and is not brought as a closed mesh
pub sheet_not_brought : Brings Closed (Append sheet) start → ⊥
unfolding mesh_of
sheet_not_brought h = let e : ◌≡◌ {A = ℕ} 1 0 = (h sheet_accepted).edges_balance 0 1 in omega arith
