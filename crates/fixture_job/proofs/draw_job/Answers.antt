-- `fixture_job::draw_job` meets its contract. Assumes nothing.
use native.Mathlib.Omega.{arith}
use Rattle.fixture_job.proofs.Read.{list_count, list_room, list_part, list_read, lent_same, same_job}
use Rattle.fixture_job.proofs.draw_job.Goals as goal

pub slice_bounds-get_floats-end-3 : goal.slice_bounds-get_floats-end-3
slice_bounds-get_floats-end-3 c =
    let s = c in
    list_count s.args.file.now s.args.list.now s.args.j.list_at s.args.j.list_floats (omega (arith, s.requires.0.few, s.requires.1.list))

pub get_floats-requires : goal.get_floats-requires
get_floats-requires c =
    let s = c in
    list_room s.args.file.now s.args.list.now s.args.j.list_at s.args.j.list_floats (omega (arith, s.requires.0.few, s.requires.1.list))
    s.requires.0.inside

pub slice_bounds-d-end-2 : goal.slice_bounds-d-end-2
slice_bounds-d-end-2 c =
    let s = c in
    list_part s.args.file.now s.args.list.now s.args.j.list_at s.args.j.list_floats
    (omega (arith, s.requires.0.few, s.requires.1.list)) _ c.get_floats.ensures

pub returns : goal.returns
returns c =
    let t = c in
    let g = t in
    let s = g in
    let a = s.args in
    same_job a.file.now a.at a.j _ _ _ _ _ _ _
    (list_read a.file.now a.list.now a.j.list_at a.j.list_floats (omega (arith, s.requires.0.few, s.requires.1.list)) _
    g.get_floats.ensures)
    t.next_ops-ops.ensures
    (lent_same a.vertices.now a.triangles.now a.work.now s.requires.1.vertices s.requires.1.triangles s.requires.1.work)
    t.tessellate.ensures.outcome
