-- Several parts welded one after the other, as the cases MultiBox and Wire of `tessellate` in src/tessellate.rs do. Definitions only.
use Rattle.std.specs.Prelude.{◌≡◌, true, false, ◌&&◌, List, ◌≤◌, length}
use Rattle.mesh_spec.specs.Mesh.{Mesh, no_mesh, append_parts, from_parts}
use Rattle.mesh_spec.specs.Parts.{Soup, parts_finite}
use Rattle.slice.specs.Every.{places_of}
use Rattle.weld.specs.Rep.{Held, Ready, Holds, Over, Rep}

-- from h to k each part was welded by itself and appended: `out.append(&t.finish())`. `finite` tells whether all points were finite; only then does k
-- tell of the mesh.
pub record PartsRun (parts : List Soup) (h k : Held) : Type 0 where
  pub ready : Ready k
  pub vlong : length k.vertices ≡ length h.vertices
  pub tlong : length k.triangles ≡ length h.triangles
  pub wlong : length k.work ≡ length h.work
  pub finite : k.st.finite ≡ (h.st.finite && parts_finite parts)
  pub rep : k.st.finite ≡ true → (D : Mesh) → Rep D no_mesh h → Rep (append_parts D parts) no_mesh k

-- the mesh fits the slices: docs/SCOPE.md, refusal 7 does not apply
abbrev pub Fits : Mesh → Held → Type 0
Fits M h = (length M.vertices ≤ places_of h.vertices) × (length M.triangles ≤ places_of h.triangles)

-- all parts were welded, from an empty mesh. `finite` tells whether every point is finite: refusal 5 does not apply. Where it is, `room` tells whether the
-- mesh fits the slices: refusal 7 does not apply, and the slices hold the mesh.
pub record AllWelded (parts : List Soup) (k : Held) : Type 0 where
  pub finite : k.st.finite ≡ parts_finite parts
  pub over : k.st.finite ≡ true → k.st.room ≡ false → Over (from_parts parts) k
  pub fits : k.st.finite ≡ true → k.st.room ≡ true → Fits (from_parts parts) k
  pub holds : k.st.finite ≡ true → k.st.room ≡ true → Holds (from_parts parts) k
