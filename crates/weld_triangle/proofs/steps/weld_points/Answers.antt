-- `weld_triangle::steps::weld_points` meets its contract: three points and a triangle of numbers. Assumes nothing.
use borrow.Author.Rules.{rules}
use mathlib.Core.Path.{◌∙◌}
use native.Mathlib.Omega.{arith}
use Rattle.weld_search.proofs.Point.{few_places, places_stay}
use Rattle.weld_triangle.proofs.Triangle.{faces_after, points_welded}
use Rattle.weld_triangle.proofs.steps.weld_points.Goals as goal

pub bucket_of-p-requires : goal.bucket_of-p-requires
bucket_of-p-requires c = let s = c in (few_places s.requires.ready.linked, s.requires.clean.0)

pub bucket_of-q-requires : goal.bucket_of-q-requires
bucket_of-q-requires c = let s = c in (few_places s.requires.ready.linked, s.requires.clean.1)

pub bucket_of-r-requires : goal.bucket_of-r-requires
bucket_of-r-requires c = let s = c in (few_places s.requires.ready.linked, s.requires.clean.2)

pub look_up-nb-requires : goal.look_up-nb-requires
look_up-nb-requires c =
    let s = c in
    let u = c.look_up-na.ensures in
    (u.runs.linked, s.requires.clean.1, λ _. rw (places_stay s.requires.ready.linked u.runs.linked u.slices.vlong) c.bucket_of-q.ensures.0)

pub look_up-nc-requires : goal.look_up-nc-requires
look_up-nc-requires c =
    let s = c in
    let u = c.look_up-na.ensures in
    let v = c.look_up-nb.ensures in
    (v.runs.linked, s.requires.clean.2, λ _. rw (places_stay s.requires.ready.linked v.runs.linked (v.slices.vlong ∙ u.slices.vlong)) c.bucket_of-r.ensures.0)

pub add_triangle-requires : goal.add_triangle-requires
add_triangle-requires c =
    let u = c.look_up-na.ensures in
    let v = c.look_up-nb.ensures in
    let t = c.look_up-nc.ensures in
    let s = c in
    (faces_after t (faces_after v (faces_after u s.requires.ready.faces)), u.runs.small, v.runs.small, t.runs.small)

pub returns : goal.returns
returns c = let s = c.args in points_welded s.a s.b s.c c.look_up-na.ensures c.look_up-nb.ensures c.look_up-nc.ensures c.add_triangle.ensures
