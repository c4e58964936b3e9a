-- What the welder tells of the parts: refusals 5 and 7, or their mesh. Assumes nothing.
use mathlib.Core.Path.{◌≡◌, refl, sym, ap, ◌∙◌}
use mathlib.Core.Bool.{Bool, true, false, not, ◌||◌, cond}
use mathlib.Core.List.{List}
use mathlib.Core.Logic.{inl, inr}
use Prim.Native.Nat.{ℕ, ◌*◌, ◌/◌, ◌≤◌}
use native.Mathlib.Omega.{arith}
use lib.ListN.{length, take}
use lib.Dec.{ltb}
use lib.Ieee.{Float}
use borrow.Author.Tests.{lt-ltb, le-ltb, ltb-false, not-true, not-false}
use Rattle.refusal.specs.declared.Refusal.TheVariants as R
use Rattle.refusal.specs.Answer.{Accepted, PointNotFinite, NoRoom}
use Rattle.std.specs.Prelude.{Ok, Err}
use Rattle.slice_law.specs.Bools.{or_true}
use Rattle.slice.specs.Every.{counted_places}
use Rattle.math.specs.declared.BoundingBox.{BoundingBox}
use Rattle.mesh_spec.specs.Mesh.{Mesh, from_parts}
use Rattle.mesh_spec.specs.Slices.{flat_v, points}
use Rattle.mesh_spec.specs.SliceLaws.{points_flat_v}
use Rattle.mesh_spec.specs.Measures.{box_of, bounding_box}
use Rattle.mesh_spec.specs.Parts.{Soup, parts_finite}
use Rattle.mesh_check.specs.declared.TriMesh.{TriMesh}
use Rattle.mesh_check.specs.State.{state, no_room}
use Rattle.mesh_check.proofs.Lying.{lies}
use Rattle.weld.specs.declared.Welder.{Welder}
use Rattle.weld.specs.Rep.{Held, Ready, Over}
use Rattle.weld.specs.Parts.{Fits, AllWelded}
use Rattle.mesh_made.specs.Made.{Lent, lent, short_work}
use Rattle.mesh_made.specs.Steps.{Makes, parts_refusal, welded_record, judged}
use Rattle.mesh_made.proofs.Ending.{makes_as, makes_refused, makes_accepted}

-- refusal 6 does not apply: the work slice has the places that the welder asks for
pub work_enough : (nv nw : ℕ) → short_work nv nw ≡ false → 2 * (nv / 3) ≤ nw
unfolding short_work
work_enough nv nw e = ltb-false nw (2 * (nv / 3)) e

-- the welder's vertices lie in the slice
pub counted_lie : (h : Held) → Ready h → 3 * h.st.count ≤ length h.vertices
counted_lie h R = let d = R.linked.distinct in omega (arith, d.room, d.fits)

-- the box of the floats at the start of a slice, where they are the vertices of a mesh
box_of_front : (m : Mesh) (n : ℕ) (vs : List Float) → flat_v m.vertices ≡ take n vs → box_of (points (take n vs)) ≡ bounding_box m
unfolding bounding_box
box_of_front m n vs e = ap {B = BoundingBox} (λ (l : List Float). box_of (points l)) (sym e) ∙ ap {B = BoundingBox} box_of (points_flat_v m.vertices)

module _ (parts : List Soup) (k : Held) where
  abbrev m : Mesh
  m = from_parts parts

  abbrev n : Lent
  n = lent k.vertices k.triangles k.work

  fitting : Fits m k → no_room m (length k.vertices) (length k.triangles) ≡ false
  unfolding no_room
  fitting f = λ j. le-ltb (counted_places (length k.vertices)) (length m.vertices) f.0 j || le-ltb (counted_places (length k.triangles)) (length m.triangles) f.1 j

  overfull : Over m k → no_room m (length k.vertices) (length k.triangles) ≡ true
  unfolding no_room
  overfull (inl w) = λ j. lt-ltb (counted_places (length k.vertices)) (length m.vertices) w j || ltb (counted_places (length k.triangles)) (length m.triangles)
  overfull (inr w) =
      (λ j. ltb (counted_places (length k.vertices)) (length m.vertices) || lt-ltb (counted_places (length k.triangles)) (length m.triangles) w j)
      ∙ or_true (ltb (counted_places (length k.vertices)) (length m.vertices))

  -- by what each test says
  due : (b c : Bool) → not (parts_finite parts) ≡ b → no_room m (length k.vertices) (length k.triangles) ≡ c
      → cond b PointNotFinite (cond c NoRoom Accepted) ≡ parts_refusal parts n
  unfolding parts_refusal
  due b c e f = sym (λ j. cond (e j) PointNotFinite (cond (f j) NoRoom Accepted))

  abbrev c : TriMesh
  c = welded_record k.st k.vertices

  pub welded_makes : AllWelded parts k → Makes (parts_refusal parts n) m (judged k.st k.vertices) k.vertices k.triangles
  welded_makes W = by_finite k.st.finite refl
    where
      infinite : (b : Bool) → k.st.finite ≡ b → not (parts_finite parts) ≡ not b
      infinite b e = ap {B = Bool} not (sym W.finite ∙ e)

      by_room : k.st.finite ≡ true → (b : Bool) → k.st.room ≡ b
          → Makes (parts_refusal parts n) m (cond b (Ok c) (Err R.NoRoom)) k.vertices k.triangles
      by_room f false e = makes_as (due false true (infinite true f) (overfull (W.over f e))) refl (makes_refused R.NoRoom m k.vertices k.triangles refl)
      by_room f true e =
          let s = state c k.vertices k.triangles in
          let h = W.holds f e in
          makes_as (due false false (infinite true f) (fitting (W.fits f e))) refl
          (makes_accepted m s c k.vertices k.triangles
          (lies m s h.vertices h.count h.triangles h.faces (box_of_front m (3 * k.st.count) k.vertices h.vertices)))

      by_finite : (b : Bool) → k.st.finite ≡ b
          → Makes (parts_refusal parts n) m
          (cond b (cond k.st.room (Ok c) (Err R.NoRoom)) (Err R.PointNotFinite)) k.vertices k.triangles
      by_finite false e = makes_as (due true (no_room m (length k.vertices) (length k.triangles)) (infinite false e) refl) refl
          (makes_refused R.PointNotFinite m k.vertices k.triangles refl)
      by_finite true e = by_room e k.st.room refl

-- ---- the cases of `judge`
module _ (w : Welder) (vs : List Float) where
  pub judged_infinite : not w.finite ≡ true → Err R.PointNotFinite ≡ judged w vs
  judged_infinite e = rw (not-true w.finite e)

  module _ (fine : not w.finite ≡ false) where
    pub judged_full : not w.room ≡ true → Err R.NoRoom ≡ judged w vs
    judged_full e = rw (not-false w.finite fine, not-true w.room e)

    pub judged_made : not w.room ≡ false → Ok (welded_record w vs) ≡ judged w vs
    judged_made e = rw (not-false w.finite fine, not-false w.room e)
