-- What is known of a drawing that refusals 3, 4, 1 and 2 let pass. Laws of the definitions in Drawing. Assumes nothing.
use Rattle.std.specs.Prelude.{ℕ, ◌/◌, ◌%◌, ◌<◌, ◌≤◌, ◌≡◌, refl, Bool, true, false, not, ◌&&◌, cond, Option, List, length, get_or, take, ltb, eqb, Float}
use Rattle.std.proofs.Common.{sym, ◌∙◌, ap, true≢false, arith, ltb-false, eqb-true}
use Rattle.std.specs.Float.{nan}
use Rattle.std.specs.Float.Ieee.Scale.{finite}
use Rattle.std.proofs.lemmas.Bool.{not-false}
use Rattle.slice_law.specs.Bools.{or_left, or_right, and_left, and_right}
use Rattle.refusal.specs.Answer.{Accepted, NotFinite, AngleTooLarge, TooManySegments, BadList}
use Rattle.refusal.specs.Accepted.{is_accepted}
use Rattle.transform.specs.declared.TransformOp.{TransformOp}
use Rattle.transform.specs.Ops.{most_ops}
use Rattle.transform.specs.Checks.{ops_finite, ops_angles_within}
use Rattle.slice.specs.Every.{every}
use Rattle.slice.specs.EveryLaws.{every_at, every_all}
use Rattle.shape.specs.declared.Shape.{Shape}
use Rattle.shape.specs.declared.Items.TheVariants.{Corners, Points, Boxes}
use Rattle.shape.specs.declared.CoordSystem.{CoordSystem}
use Rattle.shape.specs.declared.TessellationOptions.{TessellationOptions}
use Rattle.shape.specs.Drawing.{shape_cs, cylindrical, too_many_segments, items_of, bad_items, bad_list, list_of, shape_finite, shape_within, list_within}
use Rattle.shape.specs.Drawing.{numbers_bad, angles_bad, drawing_refusal}

-- a drawing that passes; the angles of points count where `shape_cs` is cylindrical
pub record AcceptedDrawing (shape : Shape) (list : List Float) (own : Option CoordSystem) (default : CoordSystem) (options : TessellationOptions)
    (ops : List TransformOp) (count : ℕ) (degrees : Bool) : Type 0 where
  pub segments_most : options.segments ≤ 1024
  pub rings_most : options.sphere_rings ≤ 1024
  pub list_whole : bad_list (items_of shape) (length list) ≡ false
  pub count_most : count ≤ most_ops
  pub shape_finite_lem : shape_finite shape ≡ true
  pub list_finite : every finite (list_of (items_of shape) list) ≡ true
  pub ops_finite_lem : ops_finite (take count ops) ≡ true
  pub shape_within_lem : shape_within (cylindrical (shape_cs shape own default)) shape ≡ true
  pub list_within_lem : list_within (cylindrical (shape_cs shape own default)) (items_of shape) list ≡ true
  pub ops_within : ops_angles_within degrees (take count ops) ≡ true

-- ---- tests that did not refuse: the refusals passed over one after the other
record Passed (a b c d : Bool) : Type 0 where
  three : a ≡ false
  four : b ≡ false
  one : c ≡ false
  two : d ≡ false

passed : (a b c d : Bool) → cond a TooManySegments (cond b BadList (cond c NotFinite (cond d AngleTooLarge Accepted))) ≡ Accepted → Passed a b c d
passed true b c d e = absurd (true≢false (sym (ap is_accepted e)))
passed false true c d e = absurd (true≢false (sym (ap is_accepted e)))
passed false false true d e = absurd (true≢false (sym (ap is_accepted e)))
passed false false false true e = absurd (true≢false (sym (ap is_accepted e)))
passed false false false false e = record { three = refl; four = refl; one = refl; two = refl }

-- no refusal 3, 4, 1 or 2: what holds of the drawing
pub accepted : (shape : Shape) (list : List Float) (own : Option CoordSystem) (default : CoordSystem) (options : TessellationOptions) (ops : List TransformOp)
    (count : ℕ) (degrees : Bool) → drawing_refusal shape list own default options ops count degrees ≡ Accepted
    → AcceptedDrawing shape list own default options ops count degrees
unfolding drawing_refusal too_many_segments numbers_bad angles_bad
accepted shape list own default options ops count degrees e =
    let cyl = cylindrical (shape_cs shape own default) in
    let k = items_of shape in
    let p = passed _ _ _ _ e in
    let numbers = not-false _ p.one in
    let angles = not-false _ p.two in
    let numbers-front = and_left (shape_finite shape && every finite (list_of k list)) (ops_finite (take count ops)) numbers in
    let angles-front = and_left (shape_within cyl shape && list_within cyl k list) (ops_angles_within degrees (take count ops)) angles in
    record {
      segments_most = ltb-false 1024 options.segments (or_left _ (ltb 1024 options.sphere_rings) p.three);
      rings_most = ltb-false 1024 options.sphere_rings (or_right (ltb 1024 options.segments) _ p.three);
      list_whole = or_left (bad_list k (length list)) (ltb most_ops count) p.four;
      count_most = ltb-false most_ops count (or_right (bad_list k (length list)) (ltb most_ops count) p.four);
      shape_finite_lem = and_left (shape_finite shape) (every finite (list_of k list)) numbers-front;
      list_finite = and_right (shape_finite shape) (every finite (list_of k list)) numbers-front;
      ops_finite_lem = and_right (shape_finite shape && every finite (list_of k list)) (ops_finite (take count ops)) numbers;
      shape_within_lem = and_left (shape_within cyl shape) (list_within cyl k list) angles-front;
      list_within_lem = and_right (shape_within cyl shape) (list_within cyl k list) angles-front;
      ops_within = and_right (shape_within cyl shape && list_within cyl k list) (ops_angles_within degrees (take count ops)) angles;
    }

-- ---- whole lists

-- floats that are not refused are whole items, and not too many
items_whole : (k most n : ℕ) → bad_items k most n ≡ false → (n % k ≡ 0) × (n / k ≤ most)
unfolding bad_items
items_whole k most n e =
    (eqb-true (n % k) 0 (not-false _ (or_left _ (ltb most (n / k)) e)), ltb-false most (n / k) (or_right (not (eqb (n % k) 0)) _ e))

-- whole corners, at most 512 of them
pub corners_whole : (n : ℕ) → bad_list Corners n ≡ false → (n % 2 ≡ 0) × (n / 2 ≤ 512)
unfolding bad_list
corners_whole n e = items_whole 2 512 n e

-- whole wire points, at most 256 of them
pub points_whole : (n : ℕ) → bad_list Points n ≡ false → (n % 3 ≡ 0) × (n / 3 ≤ 256)
unfolding bad_list
points_whole n e = items_whole 3 256 n e

-- whole boxes, at most 256 of them
pub boxes_whole : (n : ℕ) → bad_list Boxes n ≡ false → (n % 6 ≡ 0) × (n / 6 ≤ 256)
unfolding bad_list
boxes_whole n e = items_whole 6 256 n e

-- ---- finite lists

-- each float of a finite list is finite
pub finite_at : (list : List Float) (i : ℕ) → i < length list → every finite list ≡ true → finite (get_or list i nan) ≡ true
finite_at list i h e = every_at finite list (length list) i nan (every_all finite list ∙ e) h (omega arith)
