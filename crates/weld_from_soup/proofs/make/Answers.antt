-- `weld_from_soup::make` meets its contract. Assumes nothing.
use mathlib.Core.Path.{◌≡◌, refl, sym, ap, ◌∙◌}
use lib.ListN.{length}
use Rattle.refusal.specs.declared.Refusal.TheVariants.{BadList, ShortWork}
use Rattle.weld.specs.Welding.{same_then}
use Rattle.mesh_spec.specs.Mesh.{from_soup}
use Rattle.mesh_made.specs.Made.{lent}
use Rattle.mesh_made.proofs.Ending.{makes_as, makes_is, makes_refused}
use Rattle.mesh_made.proofs.Judging.{work_enough}
use Rattle.weld_from_soup.specs.Soups.{soup_of}
use Rattle.weld_from_soup.proofs.SoupRuns.{short, broken, soup_makes}
use borrow.Author.Rules.{rules}
use Rattle.weld_from_soup.proofs.make.Goals as goal

pub returns-then-short_work : goal.returns-then-short_work
returns-then-short_work c =
    let a = c.args in
    let l = a.soup.now in
    makes_as (short l (lent a.vertices.now a.triangles.now a.work.now) (sym c.short_work.ensures ∙ c.if-short_work.true)) refl
    (makes_refused ShortWork (from_soup (soup_of l)) a.vertices.now a.triangles.now refl)

pub returns-then-is_broken : goal.returns-then-is_broken
returns-then-is_broken c =
    let a = c.args in
    let l = a.soup.now in
    makes_as
    (broken l (lent a.vertices.now a.triangles.now a.work.now) (sym c.short_work.ensures ∙ c.if-short_work.false) (sym c.is_broken.ensures ∙ c.if-is_broken.true)) refl
    (makes_refused BadList (from_soup (soup_of l)) a.vertices.now a.triangles.now refl)

pub begin-st-requires : goal.begin-st-requires
begin-st-requires c =
    let a = c.args in
    work_enough (length a.vertices.now) (length a.work.now) (sym c.short_work.ensures ∙ c.if-short_work.false)

pub returns : goal.returns
returns c =
    let a = c.args in
    let b = c.begin-st in
    let w = c.weld_each.new.w in
    let r = c.new_part.new.w in
    let W = c.weld_each.ensures in
    let P = c.new_part.ensures in
    let lv : length r.vertices.now ≡ length a.vertices.now = ap length P.content.vertices ∙ W.runs.vlong in
    let lt : length r.triangles.now ≡ length a.triangles.now = ap length P.content.triangles ∙ W.runs.tlong in
    let lw : length r.work.now ≡ length a.work.now = ap length P.content.work ∙ W.runs.wlong ∙ b.auto.work in
    let same = same_then W.same P.same in
    let nv = same.vertices in
    let nt = same.triangles in
    makes_is c.judge.ensures
    (soup_makes a.soup.now _ w r a.vertices.now a.triangles.now a.work.now (sym c.short_work.ensures ∙ c.if-short_work.false)
    (sym c.is_broken.ensures ∙ c.if-is_broken.false) b.ensures W P lv lt lw (search rules) (search rules))
