-- `surface::turns::turn_at` meets its contract. Assumes nothing.
use Rattle.surface.proofs.Tables.{turns_as, turn_as, turn_latitude, turn_longitude, turn_on_line, turn_angle}
use Rattle.trig_spec.specs.Trig.{sin_cos}
use mathlib.Core.Path.{◌∙◌, ap}
use borrow.Author.Rules.{rules}
use Rattle.surface.proofs.turns.turn_at.Goals as goal

pub latitude-requires : goal.latitude-requires
latitude-requires c = let w = turns_as _ _ _ c.in-Latitudes.is c.requires in record { nt_in_bounds = w.0; i_in_bounds = w.1 }

pub longitude-requires : goal.longitude-requires
longitude-requires c = let w = turns_as _ _ _ c.in-Longitudes.is c.requires in record { np_positive = w.0; np_in_bounds = w.1 }

pub line_at-requires : goal.line_at-requires
line_at-requires c = turns_as _ _ _ c.in-OnLine.is c.requires

pub angle-requires : goal.angle-requires
angle-requires c = let w = turns_as _ _ _ c.in-Angles.is c.requires in record { n_positive = w.0; n_in_bounds = w.1; k_in_bounds = w.2 }

pub returns-in-Latitudes : goal.returns-in-Latitudes
returns-in-Latitudes c = turn_as _ _ _ _ c.in-Latitudes.is (c.latitude.ensures ∙ turn_latitude _ _)

pub returns-in-Longitudes : goal.returns-in-Longitudes
returns-in-Longitudes c = turn_as _ _ _ _ c.in-Longitudes.is (c.longitude.ensures ∙ turn_longitude _ _)

pub returns-in-OnLine : goal.returns-in-OnLine
returns-in-OnLine c = turn_as _ _ _ _ c.in-OnLine.is (c.sin_cos.ensures.value ∙ ap sin_cos c.line_at.ensures ∙ turn_on_line _ _)

pub returns-in-Angles : goal.returns-in-Angles
returns-in-Angles c = turn_as _ _ _ _ c.in-Angles.is (c.sin_cos-in-Angles.ensures.value ∙ ap sin_cos c.angle.ensures ∙ turn_angle _ _ _ _ _)
