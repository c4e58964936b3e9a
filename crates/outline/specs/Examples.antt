-- docs/SCOPE.md's figure on cleaning, by computation. Assumes nothing.
use Rattle.std.specs.Prelude.{◌≡◌, refl, [], ◌∷◌, false, pos, Float}
use Rattle.std.specs.Float.{fin}
use Rattle.std.specs.Float.Ieee.{eq}
use Rattle.outline.specs.Corners.{point, same}
use Rattle.outline.specs.Clean.{ends_in, pushed, gathered, stay, clean_polygon}

abbrev zero : Float
zero = fin false 0 (pos 0)

abbrev one : Float
one = fin false 1 (pos 0)

-- docs/SCOPE.md, F3: a corner that is given twice, and the closing corner, are cleaned away
pub cleans_to_three : clean_polygon (zero ∷ zero ∷ zero ∷ zero ∷ one ∷ zero ∷ one ∷ one ∷ zero ∷ zero ∷ []) ≡ zero ∷ zero ∷ one ∷ zero ∷ one ∷ one ∷ []
unfolding clean_polygon gathered pushed ends_in stay point same eq
cleans_to_three = refl
