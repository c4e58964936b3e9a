-- The refusals of `drawing_refusal` one after the other, in the form that the code's tests give them. Assumes nothing.
use Prim.Native.Nat.{ℕ}
use mathlib.Core.Path.{◌≡◌, sym, ap, ◌∙◌}
use mathlib.Core.Bool.{Bool, true, false, ◌||◌}
use mathlib.Core.List.{List}
use lib.ListN.{length, take}
use lib.Dec.{ltb}
use lib.Ieee.{Float}
use Rattle.std.specs.Prelude.{Option}
use Rattle.refusal.specs.Answer.{Accepted, NotFinite, AngleTooLarge, TooManySegments, BadList}
use Rattle.transform.specs.declared.TransformOp.{TransformOp}
use Rattle.shape.specs.declared.Shape.{Shape}
use Rattle.shape.specs.declared.CoordSystem.{CoordSystem}
use Rattle.shape.specs.declared.TessellationOptions.{TessellationOptions}
use Rattle.shape.specs.Drawing.{shape_cs, cylindrical, too_many_segments, items_of, bad_list, numbers_bad, angles_bad, drawing_refusal}

-- the fourth test's result
pub angle_test : {cs : CoordSystem} {cyl b : Bool} (shape : Shape) (list : List Float) (own : Option CoordSystem) (default : CoordSystem) (degrees : Bool) (ops : List TransformOp)
    → cs ≡ shape_cs shape own default → cyl ≡ cylindrical cs → b ≡ angles_bad cyl shape list degrees ops → b ≡ angles_bad (cylindrical (shape_cs shape own default)) shape list degrees ops
angle_test shape list own default degrees ops e f g = g ∙ ap (λ (t : Bool). angles_bad t shape list degrees ops) (f ∙ ap cylindrical e)

module _ (shape : Shape) (list : List Float) (own : Option CoordSystem) (default : CoordSystem) (options : TessellationOptions) (ops : List TransformOp) (count : ℕ) (degrees : Bool) where
  module _ {a : Bool} (ea : a ≡ too_many_segments options) where
    pub told_3 : a ≡ true → TooManySegments ≡ drawing_refusal shape list own default options ops count degrees
    unfolding drawing_refusal
    told_3 ha = rw (sym ea ∙ ha)

    module _ (ha : a ≡ false) {b : Bool} (eb : b ≡ (bad_list (items_of shape) (length list) || ltb 16 count)) where
      pub told_4 : b ≡ true → BadList ≡ drawing_refusal shape list own default options ops count degrees
      unfolding drawing_refusal
      told_4 hb = rw (sym ea ∙ ha, sym eb ∙ hb)

      module _ (hb : b ≡ false) {c : Bool} (ec : c ≡ numbers_bad shape list (take count ops)) where
        pub told_1 : c ≡ true → NotFinite ≡ drawing_refusal shape list own default options ops count degrees
        unfolding drawing_refusal
        told_1 hc = rw (sym ea ∙ ha, sym eb ∙ hb, sym ec ∙ hc)

        module _ (hc : c ≡ false) {d : Bool} (ed : d ≡ angles_bad (cylindrical (shape_cs shape own default)) shape list degrees (take count ops)) where
          pub told_2 : d ≡ true → AngleTooLarge ≡ drawing_refusal shape list own default options ops count degrees
          unfolding drawing_refusal
          told_2 hd = rw (sym ea ∙ ha, sym eb ∙ hb, sym ec ∙ hc, sym ed ∙ hd)

          pub told_none : d ≡ false → Accepted ≡ drawing_refusal shape list own default options ops count degrees
          unfolding drawing_refusal
          told_none hd = rw (sym ea ∙ ha, sym eb ∙ hb, sym ec ∙ hc, sym ed ∙ hd)
