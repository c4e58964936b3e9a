-- `weld_triangle::steps::add_triangle` meets its contract: a case of proofs/Triangle.antt for each return. Assumes nothing.
use borrow.Author.Rules.{rules}
use mathlib.Core.Path.{refl}
use mathlib.Core.Logic.{inl, inr}
use native.Mathlib.Omega.{arith}
use Rattle.slice.specs.Every.{counted_places}
use Rattle.weld.proofs.Places.{places_limit}
use Rattle.weld_triangle.proofs.Triangle.{triangle_shut, triangle_flat, triangle_full, triangle_new, numbers_stay}
use Rattle.weld_triangle.proofs.steps.add_triangle.Goals as goal
use Rattle.weld_triangle.proofs.steps.add_triangle.Goals.{then-not-w-via-then-not-w, then-not-w-via-else-not-w+then-a-b, then-not-w-via-else-not-w+else-a-b+then-b-c, then-not-w-via-else-not-w+else-a-b+else-b-c+then-a-c}

pub returns-then-not-w : goal.returns-then-not-w
returns-then-not-w c =
    let s = c in
    let x = s.args in
    let w = x.w.now in
    numbers_stay x.a x.b x.c w
    (elim c.then-not-w.branch [
      | then-not-w-via-then-not-w t ↦ triangle_shut x.a x.b x.c w.st w.triangles.now s.requires.0 t.if-not-w.true
      | then-not-w-via-else-not-w+then-a-b t ↦ triangle_flat x.a x.b x.c w.st w.triangles.now s.requires.0 t.if-not-w.false (inl t.if-a-b.true)
      | then-not-w-via-else-not-w+else-a-b+then-b-c t ↦ triangle_flat x.a x.b x.c w.st w.triangles.now s.requires.0 t.if-not-w.false (inr (inl t.if-b-c.true))
      | then-not-w-via-else-not-w+else-a-b+else-b-c+then-a-c t ↦
          triangle_flat x.a x.b x.c w.st w.triangles.now s.requires.0 t.if-not-w.false (inr (inr t.if-a-c.true))
    ])

pub returns-then-counted_places-faces : goal.returns-then-counted_places-faces
unfolding counted_places
returns-then-counted_places-faces c =
    let s = c in
    let x = s.args in
    let w = x.w.now in
    record {
      same = record { vertices = refl; triangles = refl; work = refl };
      vertices = refl;
      work = refl;
      tlong = refl;
      runs = rw c.shut.ensures
          (triangle_full x.a x.b x.c w.st w.triangles.now s.requires.0 c.if-a-b.false c.if-b-c.false c.if-a-c.false c.if-not-w.false
          (omega (arith, c.if-counted_places-faces.true, c.counted_places.ensures)));
    }

pub add_face-requires : goal.add_face-requires
add_face-requires c = omega (arith, places_limit c.args.w.now.triangles.now, c.requires.0)

pub returns : goal.returns
unfolding counted_places
returns c =
    let s = c in
    let x = s.args in
    let w = x.w.now in
    record {
      same = record { vertices = refl; triangles = refl; work = refl };
      vertices = refl;
      work = refl;
      tlong = c.put.auto.triangles;
      runs = rw (c.put.ensures, c.add_face.ensures)
          (triangle_new x.a x.b x.c w.st w.triangles.now s.requires.0 c.if-a-b.false (λ e. omega arith) c.if-a-c.false c.if-not-w.false
          (omega (arith, c.if-counted_places-faces.false, c.counted_places.ensures)));
    }
