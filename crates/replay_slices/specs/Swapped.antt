-- Two slices whose content is exchanged as far as both reach. Definitions only.
use Rattle.std.specs.Prelude.{List, ◌++◌, ℕ, min, length, take, drop}

-- the first n elements of another list, then the rest of its own
abbrev pub first_of : {A : Type 0} → ℕ → List A → List A → List A
first_of n from to = take n from ++ drop n to

-- the first elements of another list, as many as the lesser length says, then the rest of its own
unfoldable pub swapped : {A : Type 0} → List A → List A → List A
swapped from to = first_of (min (length from) (length to)) from to
