-- Floats from -2^400 to 2^400. Definitions only.
use Rattle.std.specs.Prelude.{◌≡◌, Bool, true, false, ◌&&◌, List, ℕ, ◌≤◌, length, take, pos, Float}
use Rattle.std.specs.Float.{fin}
use Rattle.std.specs.Float.Ieee.{le}
use Rattle.slice.specs.Every.{every}

-- -2^k <= x and x <= 2^k, as a program tests it
unfoldable pub within_power : ℕ → Float → Bool
unfolding le
within_power k x = le (fin true 1 (pos k)) x && le x (fin false 1 (pos k))

-- a float from -2^400 to 2^400
unfoldable pub is_bounded : Float → Bool
unfolding within_power
is_bounded x = within_power 400 x

-- the slice has count floats; where `small` is true, they lie from -2^400 to 2^400
pub record Small (l : List Float) (count : ℕ) (small : Bool) : Type 0 where
  pub there : count ≤ length l
  pub bounded : small ≡ true → every is_bounded (take count l) ≡ true
