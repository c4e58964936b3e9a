-- Where no bound of a box is a NaN: the box before the first point, and after each point more. Assumes nothing.
use Rattle.std.specs.Prelude.{◌≡◌, refl, Bool, true, false, not, cond, T, Float}
use Rattle.std.proofs.lemmas.Bool.{false≢true}
use Rattle.std.specs.Float.{nan, inf, fin}
use Rattle.std.specs.Float.Ieee.{lt, eq, is_nan}
use Rattle.ieee.specs.Number.{minimum, maximum}
use Rattle.ieee.specs.Same.{eq_refl, T_true}
use Rattle.math.specs.declared.Vec3.{Vec3}
use Rattle.math.specs.declared.BoundingBox.{BoundingBox}
use Rattle.math.specs.Vec.{v_min, v_max}
use Rattle.math.specs.Box.{empty_box, include}
use Rattle.math_box.specs.NoNan.{NoNan}

-- ---- of two floats: a value that is no NaN equals itself, and one that is below or above another is none
pub equals_itself : (a : Float) → T (not (is_nan a)) → eq a a ≡ true
equals_itself a h = T_true (eq a a) (eq_refl a h)

below_no_nan : (x y : Float) → lt x y ≡ true → T (not (is_nan x))
unfolding lt is_nan
below_no_nan nan y h = absurd (false≢true h)
below_no_nan (inf s) y h = tt
below_no_nan (fin s m e) y h = tt

above_no_nan : (x y : Float) → lt x y ≡ true → T (not (is_nan y))
unfolding lt is_nan
above_no_nan nan y h = absurd (false≢true h)
above_no_nan (inf s) nan h = absurd (false≢true h)
above_no_nan (inf s) (inf t) h = tt
above_no_nan (inf s) (fin t n d) h = tt
above_no_nan (fin s m e) nan h = absurd (false≢true h)
above_no_nan (fin s m e) (inf t) h = tt
above_no_nan (fin s m e) (fin t n d) h = tt

-- v says whether the second is taken
chosen_no_nan : (a b : Float) (v : Bool) → T (not (is_nan a)) → (v ≡ true → T (not (is_nan b))) → T (not (is_nan (cond (is_nan a) b (cond v b a))))
unfolding is_nan
chosen_no_nan nan b v h k = absurd h
chosen_no_nan (inf s) b true h k = k refl
chosen_no_nan (inf s) b false h k = tt
chosen_no_nan (fin s m e) b true h k = k refl
chosen_no_nan (fin s m e) b false h k = tt

-- the lesser and the greater, whatever the second is
minimum_no_nan : (a b : Float) → T (not (is_nan a)) → T (not (is_nan (minimum a b)))
unfolding minimum
minimum_no_nan a b h = chosen_no_nan a b (lt b a) h (below_no_nan b a)

maximum_no_nan : (a b : Float) → T (not (is_nan a)) → T (not (is_nan (maximum a b)))
unfolding maximum
maximum_no_nan a b h = chosen_no_nan a b (lt a b) h (above_no_nan a b)

-- ---- of boxes
pub empty_no_nan : NoNan empty_box
unfolding empty_box is_nan
empty_no_nan = record { min = record { x = tt; y = tt; z = tt }; max = record { x = tt; y = tt; z = tt } }

pub include_no_nan : (b : BoundingBox) (p : Vec3) → NoNan b → NoNan (include b p)
unfolding include v_min v_max
include_no_nan b p h = record {
  min = record {
    x = minimum_no_nan b.min.x p.x h.min.x;
    y = minimum_no_nan b.min.y p.y h.min.y;
    z = minimum_no_nan b.min.z p.z h.min.z;
  };
  max = record {
    x = maximum_no_nan b.max.x p.x h.max.x;
    y = maximum_no_nan b.max.y p.y h.max.y;
    z = maximum_no_nan b.max.z p.z h.max.z;
  };
}
