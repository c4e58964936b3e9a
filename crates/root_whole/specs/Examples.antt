-- Worked examples: roots of whole numbers, by computation.
use Rattle.std.specs.Prelude.{◌≡◌, refl}
use Rattle.root_whole.specs.Whole.{isqrt, near_root}

-- 12 is below 3.5 × 3.5, and 13 is above it
near_twelve : near_root 12 ≡ 3
unfolding near_root
near_twelve = refl

near_thirteen : near_root 13 ≡ 4
unfolding near_root
near_thirteen = refl

whole_thirteen : isqrt 13 ≡ 3
unfolding isqrt
whole_thirteen = refl
