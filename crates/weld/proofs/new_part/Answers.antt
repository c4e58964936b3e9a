-- `weld::new_part` meets its contract. Assumes nothing.
use mathlib.Core.Path.{refl}
use Rattle.weld.proofs.Parts.{parted}
use Rattle.weld.proofs.new_part.Goals as goal

pub returns : goal.returns
returns c = record {
  same = record { vertices = refl; triangles = refl; work = refl };
  content = record { vertices = refl; triangles = refl; work = refl };
  parted = parted c.args.w.now.st;
}
