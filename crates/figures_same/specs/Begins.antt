-- A list that begins with another. Definitions only.
use Rattle.std.specs.Prelude.{Bool, true, false, ◌&&◌, List, [], ◌∷◌}

-- the first elements of a list are those of front, by a test of two elements
unfoldable pub begins : {A : Type 0} → (A → A → Bool) → List A → List A → Bool
begins same l [] = true
begins same [] (y ∷ front) = false
begins same (x ∷ l) (y ∷ front) = same x y && begins same l front
