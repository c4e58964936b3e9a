-- Guesses at the numbers of the points of a box of one part on each axis, for a box whose eight corners differ. Definitions only.
use Rattle.std.specs.Prelude.{cond, List, [], ◌∷◌, ◌++◌, ℕ, suc, ◌+◌, ◌-◌, ◌*◌, ◌/◌, ◌%◌, ◌^◌, eqb}
use Rattle.weld.specs.declared.FourNumbers.{FourNumbers}

-- a corner as a number: the sum of 2 ^ a over the axes a at whose high bound it is; s, i and j, 1 for high and 0 for low, are those of the axis k and of the
-- two after it
abbrev pub corner : ℕ → ℕ → ℕ → ℕ → ℕ
corner k s i j = s * 2 ^ k + i * 2 ^ ((k + 1) % 3) + j * 2 ^ ((k + 2) % 3)

-- the corners of a face in the order of its quad: `a, b, c, d` on the high side of the axis k, `a, d, c, b` on the low side
abbrev pub corners_at : ℕ → ℕ → List ℕ
corners_at k s = corner k s 0 0 ∷ corner k s s (1 - s) ∷ corner k s 1 1 ∷ corner k s (1 - s) s ∷ []

-- the first place of a number in a list
abbrev pub place_in : List ℕ → ℕ → ℕ
place_in [] q = 0
place_in (x ∷ xs) q = cond (eqb x q) 0 (suc (place_in xs q))

-- the number of a corner: the two faces of the first axis come first, and show all eight
abbrev pub corner_number : ℕ → ℕ
corner_number = place_in (corners_at 0 0 ++ corners_at 0 1)

-- four numbers, counted from base
abbrev pub numbers_from : ℕ → ℕ → ℕ → ℕ → ℕ → FourNumbers
numbers_from base a b c d = record { a = base + a; b = base + b; c = base + c; d = base + d }

-- the numbers of the points of the face on the axis k
abbrev pub guesses_at : ℕ → ℕ → ℕ → FourNumbers
guesses_at base k s =
    numbers_from base (corner_number (corner k s 0 0)) (corner_number (corner k s s (1 - s))) (corner_number (corner k s 1 1))
    (corner_number (corner k s (1 - s) s))

-- the numbers of the points of face f of six: 2 k is the low one of the axis k, 2 k + 1 the high one
abbrev pub guesses_of : ℕ → ℕ → FourNumbers
guesses_of base f = guesses_at base (f / 2) (f % 2)
