-- `outline_clip::clip_outline` meets its contract. Assumes nothing.
use mathlib.Core.Path.{◌≡◌, sym, ◌∙◌}
use native.Mathlib.Omega.{arith}
use lib.ListN.{length}
use lib.Ieee.Scale.{finite}
use Rattle.slice.specs.ClearedLaws.{cleared_all}
use Rattle.slice.specs.EveryLaws.{every_all}
use Rattle.outline_clip.proofs.Outcomes.{outcome_refused, outcome_long, outcome_odd, outcome_infinite, outcome_room, outcome_done}
use Rattle.outline_clip.proofs.clip_outline.Goals as goal

pub returns-then-list-gt1024 : goal.returns-then-list-gt1024
returns-then-list-gt1024 c =
    let a = c.args in
    let v = a.list.now in
    let m = length a.triangles.now in
    outcome_refused _ _ m _ (c.clear_from.ensures ∙ cleared_all 0 a.triangles.now) (outcome_long v m c.if-list-gt1024.true)

pub returns-then-list-eq1 : goal.returns-then-list-eq1
returns-then-list-eq1 c =
    let a = c.args in
    let v = a.list.now in
    let m = length a.triangles.now in
    outcome_refused _ _ m _ (c.clear_from.ensures ∙ cleared_all 0 a.triangles.now)
    (outcome_odd v m c.if-list-gt1024.false c.if-list-eq1.true)

pub returns-then-not-all_finite : goal.returns-then-not-all_finite
returns-then-not-all_finite c =
    let a = c.args in
    let v = a.list.now in
    let m = length a.triangles.now in
    outcome_refused _ _ m _ (c.clear_from.ensures ∙ cleared_all 0 a.triangles.now)
    (outcome_infinite v m c.if-list-gt1024.false c.if-list-eq1.false
    (sym (every_all finite v) ∙ sym c.all_finite.ensures ∙ c.if-not-all_finite.true))

pub returns-then-triangles-cut : goal.returns-then-triangles-cut
returns-then-triangles-cut c =
    let a = c.args in
    let v = a.list.now in
    let m = length a.triangles.now in
    let l : length c.clear_from.new.s ≡ m = c.clear_from.auto.s in
    let all = sym (every_all finite v) ∙ sym c.all_finite.ensures ∙ c.if-not-all_finite.false in
    outcome_refused _ _ m _ (c.clear_from.ensures ∙ cleared_all 0 a.triangles.now)
    (outcome_room v m c.if-list-gt1024.false c.if-list-eq1.false all _ _ _
    c.triangulate_polygon-cut.ensures.0 (omega (arith, c.if-triangles-cut.true)))

pub returns : goal.returns
returns c =
    let a = c.args in
    let v = a.list.now in
    let m = length a.triangles.now in
    let l : length c.clear_from.new.s ≡ m = c.clear_from.auto.s in
    let all = sym (every_all finite v) ∙ sym c.all_finite.ensures ∙ c.if-not-all_finite.false in
    outcome_done v m c.if-list-gt1024.false
    c.if-list-eq1.false all _ _ _
    c.triangulate_polygon-cut.ensures.0 _ _ (omega (arith, c.if-triangles-cut.false))
    (c.clear_from.ensures ∙ cleared_all 0 a.triangles.now) c.copy.ensures
