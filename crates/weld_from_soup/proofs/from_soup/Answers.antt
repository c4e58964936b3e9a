-- `weld_from_soup::from_soup` meets its contract. Assumes nothing.
use mathlib.Core.Path.{◌≡◌, ap}
use lib.ListN.{length}
use Rattle.mesh_spec.specs.Mesh.{from_soup}
use Rattle.mesh_made.specs.Made.{lent, Ending, made_as}
use Rattle.mesh_made.proofs.Ending.{lent_same, gives_as, makes_lie, makes_gives}
use Rattle.weld_from_soup.specs.Soups.{soup_of, soup_refusal, from_soup_of}
use Rattle.weld_from_soup.specs.SoupPromise.{soup_promised}
use borrow.Author.Rules.{rules}
use Rattle.weld_from_soup.proofs.from_soup.Goals as goal

pub end-requires : goal.end-requires
end-requires c = makes_lie _ _ _ _ _ c.make-made.ensures

pub returns : goal.returns
unfolding from_soup_of
returns c =
    let m = c.make-made in
    let a = c.args in
    let l = a.soup.now in
    let n = lent a.vertices.now a.triangles.now a.work.now in
    let vs = m.new.vertices in
    let ts = m.new.triangles in
    let ws = m.new.work in
    let lv : length vs ≡ length a.vertices.now = search rules in
    let lt : length ts ≡ length a.triangles.now = search rules in
    let lw : length ws ≡ length a.work.now = search rules in
    soup_promised l n _ _ _ _
    (gives_as (ap {B = Ending} (made_as (soup_refusal l n) (from_soup (soup_of l))) (lent_same vs a.vertices.now ts a.triangles.now ws a.work.now lv lt lw))
    (makes_gives (soup_refusal l n) (from_soup (soup_of l)) m.result vs ts ws m.ensures _ _ _ _ c.end.ensures))
