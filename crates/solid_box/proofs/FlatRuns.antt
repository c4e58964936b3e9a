-- The numbers at which guesses start. Assumes nothing.
use mathlib.Core.List.{List}
use Prim.Native.Nat.{ℕ, ◌<◌, ◌^◌}
use native.Mathlib.Omega.{arith}
use lib.Ieee.{Float}
use Rattle.weld.specs.declared.Welder.{Welder}
use Rattle.weld.specs.Rep.{Linked}
use Rattle.weld.proofs.Places.{places_limit}

-- the first vertex of a part has a number of 32 bits
pub base_small : (w : Welder) (vs : List Float) (ws : List ℕ) → Linked w vs ws → w.base < 2 ^ 32
base_small w vs ws L = omega (arith, L.distinct.based, L.distinct.fits, L.places, places_limit vs)
