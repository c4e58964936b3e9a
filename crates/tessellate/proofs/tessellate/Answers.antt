-- `tessellate::tessellate` meets its contract. Assumes nothing.
use mathlib.Core.Path.{◌≡◌, ap}
use lib.ListN.{length}
use borrow.Author.Rules.{rules}
use Rattle.mesh_made.specs.Made.{lent, Ending, made_as}
use Rattle.mesh_made.proofs.Ending.{lent_same, gives_as, makes_lie, makes_gives}
use Rattle.tessellate_spec.specs.Outcome.{job_of, final_mesh, refusal_of, tessellate_of}
use Rattle.tessellate_law.proofs.PromiseLaws.{promised}
use Rattle.tessellate.proofs.tessellate.Goals as goal

pub end-requires : goal.end-requires
end-requires c = makes_lie _ _ _ _ _ c.make-made.ensures

pub returns : goal.returns
unfolding tessellate_of
returns c =
    let e = c in
    let m = e in
    let a = m.args in
    let j = job_of a.d.now in
    let n = lent a.vertices.now a.triangles.now a.work.now in
    let v = m.make-made.new.vertices in
    let t = m.make-made.new.triangles in
    let w = m.make-made.new.work in
    let lv : length v ≡ length a.vertices.now = e.vertices-1.given in
    let lt : length t ≡ length a.triangles.now = e.triangles-1.given in
    let lw : length w ≡ length a.work.now = e.work-1.given in
    promised j n _ _ _ _ c.are_floats.ensures
    (gives_as
    (ap {B = Ending} (made_as (refusal_of j n) (final_mesh j)) (lent_same v a.vertices.now t a.triangles.now w a.work.now lv lt lw))
    (makes_gives (refusal_of j n) (final_mesh j) m.make-made.result v t w m.make-made.ensures _ _ _ _ e.end.ensures))
