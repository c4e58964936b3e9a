-- `math_box::include` meets its contract. Assumes nothing.
use borrow.Author.Rules.{rules}
use Rattle.math.specs.Vec.{v_min, v_max}
use Rattle.math.specs.Box.{include}
use Rattle.math_box.proofs.include.Goals as goal

pub returns : goal.returns
unfolding include v_min v_max
returns c i = record {
  min = record {
    x = c.lesser.ensures i;
    y = c.lesser-2.ensures i;
    z = c.lesser-3.ensures i;
  };
  max = record { x = c.greater.ensures i; y = c.greater-2.ensures i; z = c.greater-3.ensures i };
}
