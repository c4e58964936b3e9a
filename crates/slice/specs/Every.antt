-- The places of a slice that count, and a test of every element. Definitions only.
use Rattle.std.specs.Prelude.{Bool, true, ◌&&◌, List, [], ◌∷◌, ℕ, ◌/◌, min, length}

-- the places of three elements in a length that count: a 32-bit number can count no more than 4,294,967,295. Refusal 6 asks of all of them, n / 3
unfoldable pub counted_places : ℕ → ℕ
counted_places n = min (n / 3) 4294967295

-- the same of a slice
abbrev pub places_of : {A : Type 0} → List A → ℕ
places_of l = counted_places (length l)

-- every element passes a test
unfoldable pub every : {A : Type 0} → (A → Bool) → List A → Bool
every k [] = true
every k (x ∷ xs) = k x && every k xs
