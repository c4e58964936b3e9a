-- `surface::point::polar_at` meets its contract. Assumes nothing.
use mathlib.Core.Path.{refl}
use Rattle.surface.proofs.Surfaces.{round_rows, round_cols, polar_0, polar_1, polar_2}
use borrow.Author.Rules.{rules}
use Rattle.surface.proofs.point.polar_at.Goals as goal

pub bounds-rows-i : goal.bounds-rows-i
bounds-rows-i c = (round_rows _ _ _ _ _ _ _ c.if-k-eq0.true c.requires.round_tabled).long

pub bounds-cols-j : goal.bounds-cols-j
bounds-cols-j c = (round_cols _ _ _ _ _ _ _ c.requires.face_within.axis c.if-k-eq0.false c.if-k-eq1.false c.requires.round_tabled).long

pub returns-then-k-eq0 : goal.returns-then-k-eq0
returns-then-k-eq0 c = let e = c.if-k-eq0.true in polar_0 _ _ _ _ _ _ _ _ _ e (round_rows _ _ _ _ _ _ _ e c.requires.round_tabled) refl c.line_at.ensures

pub returns-then-k-eq1 : goal.returns-then-k-eq1
returns-then-k-eq1 c = polar_1 _ _ _ _ _ _ _ _ _ c.if-k-eq1.true c.sin_cos.ensures.value c.line_at-then-k-eq1.ensures c.line_at-then-k-eq1-2.ensures

pub returns-else-k-eq1 : goal.returns-else-k-eq1
returns-else-k-eq1 c =
    let s = c in
    let p = c.if-k-eq0.false in
    let q = c.if-k-eq1.false in
    polar_2 _ _ _ _ _ _ _ _ _ s.requires.face_within.axis p q (round_cols _ _ _ _ _ _ _ s.requires.face_within.axis p q s.requires.round_tabled) refl c.line_at-else-k-eq1.ensures
