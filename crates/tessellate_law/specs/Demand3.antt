-- Demand 3 (docs/SCOPE.md, "Words of demand 3"), whole and as one theorem, on the definitions that the contracts of `tessellate`, `append`, `flip` and
-- `transform` cite. Assumes nothing.
-- The words are in specs/Words.antt: `Solid` has the conditions, a line for each shape.
use Rattle.std.proofs.Common.{sym, subst}
use Rattle.std.specs.Prelude.{Bool, cond, take, eqb}
use Rattle.std.proofs.Math.Bool.{true, false}
use mathlib.Core.List.{List, [], ◌∷◌}
use Rattle.std.specs.Float.Ieee.{binary64, lt, of_bits}
use Rattle.math_matrix.specs.declared.Mat4.{Mat4}
use Rattle.transform.specs.Ops.{folded}
use Rattle.mesh_spec.specs.Mesh.{Mesh, no_mesh, append, flip, from_soup, append_parts, from_parts}
use Rattle.mesh_spec.specs.Edits.{transform}
use Rattle.mesh_spec.specs.Measures.{signed_volume}
use Rattle.mesh_spec.specs.Closed.{all_of, Closed, Proper, NoneTwice, AllThere}
use Rattle.mesh_spec.specs.ClosedLaws.{no_mesh_closed}
use Rattle.mesh_spec.proofs.ClosedLawsHeld.{append_closed, flip_closed, transform_closed}
use Rattle.mesh_spec.proofs.ProperLawsHeld.{append_none_twice, flip_none_twice, transform_none_twice, append_all_there, flip_all_there, transform_all_there}
use Rattle.mesh_spec.proofs.WeldedLaws.{from_soup_proper}
use Rattle.solid_spec.specs.Grid.{Soup}
use Rattle.shape.specs.declared.Shape.{Shape}
use Rattle.shape.specs.Drawing.{cylindrical, shape_cs}
use Rattle.mesh_check.specs.State.{mesh_of}
use Rattle.mesh_edit_law.specs.Lists.{Call, after, AllBring, KeptByLists}
use Rattle.mesh_edit_law.proofs.ListsMore.{kept_by_lists}
use Rattle.mesh_made.specs.Made.{Lent}
use Rattle.shape.specs.Rotated.{is_rot_poly}
use Rattle.solid_spec.specs.Solid.{outward, outward_if, solid_mesh}
use Rattle.tessellate_spec.specs.Outcome.{Job, job_parts, welded_mesh, placed, final_mesh}
use Rattle.tessellate_law.specs.Words.{Accepts, left, given, FitsSolid, Solid}
use Rattle.tessellate_law.specs.AcceptedLaws.{accepted_says, given_final}
use Rattle.tessellate_law.specs.PartsClosed.{parts_balanced, parts_closed}
use Rattle.solid_spec.specs.BalancedParts.{EachPart}

-- ---- the statement

pub record Demand3 : Type 0 where
  -- an accepted solid of the list is closed: its edges balance, and each triangle names three different vertices, all of them there
  pub closed : (j : Job) (n : Lent) → Accepts j n → FitsSolid j.shape j.list → Solid j.shape j.list → Closed (given j n)
  -- of every accepted shape, a triangle names three different vertices
  pub none_twice : (j : Job) (n : Lent) → Accepts j n → NoneTwice (given j n)
  -- and each of them is there
  pub all_there : (j : Job) (n : Lent) → Accepts j n → AllThere (given j n)
  -- any list of appends, flips and transforms keeps a mesh closed, and keeps each of the three properties by itself, for any start
  pub lists : KeptByLists
  -- so an accepted solid of the list is closed after any list of calls in which each mesh appended is closed
  pub closed_after : (j : Job) (n : Lent) → Accepts j n → FitsSolid j.shape j.list → Solid j.shape j.list
      → (calls : List Call) → AllBring Closed calls (left j n) → Closed (mesh_of (after (left j n) calls))
  -- and every accepted shape is proper after any list of calls in which each mesh appended is proper
  pub proper_after : (j : Job) (n : Lent) → Accepts j n
      → (calls : List Call) → AllBring Proper calls (left j n) → Proper (mesh_of (after (left j n) calls))

-- ---- what the mesh of a job keeps

-- a property that the empty mesh has and that the three edits keep
pub record KeptByDrawing (P : Mesh → Type 0) : Type 0 where
  pub empty : P no_mesh
  pub appended : (m o : Mesh) → P m → P o → P (append m o)
  pub flipped : (m : Mesh) → P m → P (flip m)
  pub transformed : (a : Mat4) (m : Mesh) → P m → P (transform a m)

module _ (P : Mesh → Type 0) (k : KeptByDrawing P) where
  appended_parts : (m : Mesh) (ps : List Soup) → P m → EachPart (λ s. P (from_soup s)) ps → P (append_parts m ps)
  unfolding append_parts
  appended_parts m [] h e = h
  appended_parts m (p ∷ ps) h e = appended_parts (append m (from_soup p)) ps (k.appended m (from_soup p) h e.0) e.1

  parts : (ps : List Soup) → EachPart (λ s. P (from_soup s)) ps → P (from_parts ps)
  unfolding from_parts
  parts ps e = appended_parts no_mesh ps k.empty e

  turned : (m : Mesh) → P m → P (outward m)
  unfolding outward
  turned m h = go (lt (signed_volume m) (of_bits binary64 0))
    where
      go : (b : Bool) → P (cond b (flip m) m)
      go true = k.flipped m h
      go false = h

  solid : (s : Shape) (ps : List Soup) → P (from_parts ps) → P (solid_mesh s ps)
  unfolding solid_mesh
  solid s ps h = go (is_rot_poly s)
    where
      go : (b : Bool) → P (outward_if b (from_parts ps))
      go true = turned (from_parts ps) h
      go false = h

  pub final : (j : Job) → EachPart (λ s. P (from_soup s)) (job_parts j) → P (final_mesh j)
  unfolding final_mesh placed welded_mesh
  final j e = go (eqb j.count 0)
    where
      welded : P (welded_mesh j)
      welded = unfold welded_mesh in solid j.shape (job_parts j) (parts (job_parts j) e)

      go : (b : Bool) → P (cond b (welded_mesh j) (transform (folded j.degrees (take j.count j.ops)) (welded_mesh j)))
      go true = welded
      go false = k.transformed (folded j.degrees (take j.count j.ops)) (welded_mesh j) welded

each : (Q : Soup → Type 0) → ((s : Soup) → Q s) → (ps : List Soup) → EachPart Q ps
each Q h [] = tt
each Q h (p ∷ ps) = (h p, each Q h ps)

pub is_none_twice : (j : Job) (n : Lent) → Accepts j n → NoneTwice (given j n)
unfolding all_of
is_none_twice j n h =
    subst NoneTwice (sym (given_final j n h))
    (final NoneTwice (record { empty = tt; appended = append_none_twice; flipped = flip_none_twice; transformed = transform_none_twice }) j
    (each (λ s. NoneTwice (from_soup s)) (λ s. (from_soup_proper s).none_twice) (job_parts j)))

pub is_all_there : (j : Job) (n : Lent) → Accepts j n → AllThere (given j n)
unfolding all_of
is_all_there j n h =
    subst AllThere (sym (given_final j n h))
    (final AllThere (record { empty = tt; appended = append_all_there; flipped = flip_all_there; transformed = transform_all_there }) j
    (each (λ s. AllThere (from_soup s)) (λ s. (from_soup_proper s).all_there) (job_parts j)))
