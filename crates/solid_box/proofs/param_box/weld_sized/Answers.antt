-- `solid_box::param_box::weld_sized` meets its contract. Assumes nothing.
use mathlib.Core.Path.{ap}
use native.Mathlib.Omega.{arith}
use Rattle.surface_spec.specs.declared.Line.{Line}
use Rattle.solid_box.proofs.FaceRuns.{line_tabled}
use Rattle.solid_box.proofs.param_box.weld_sized.Goals as goal

pub fill_entries-requires : goal.fill_entries-requires
fill_entries-requires g c =
    let n = ap (λ (l : Line). l.n) c.line_of-l.ensures in
    let p = c.requires.n_bound in
    record { turns_within = (omega (arith, n, p.0), omega (arith, n)); n_in_bounds = omega (arith, p.2) }

pub weld_faces-requires : goal.weld_faces-requires
weld_faces-requires g c =
    let p = c.requires in record {
      ready = p.ready;
      box_within = record {
        few = p.n_bound.0;
        tabled = line_tabled _ _ _ _ c.line_of-l.ensures c.fill_entries.ensures;
        one = omega (arith, p.n_bound.1);
        long = omega (arith, p.n_bound.2);
      };
    }

pub whole_as_slice-fill_entries : goal.whole_as_slice-fill_entries
whole_as_slice-fill_entries g c = omega (arith, c.requires.n_bound.3)

pub shared_whole_as_slice-weld_faces : goal.shared_whole_as_slice-weld_faces
shared_whole_as_slice-weld_faces g c = omega (arith, c.requires.n_bound.3)

pub whole_as_slice-weld_faces : goal.whole_as_slice-weld_faces
whole_as_slice-weld_faces g c = omega (arith, c.requires.n_bound.3)
