-- Figures of the definitions: the edge of refusal 2 in docs/SCOPE.md.
use Rattle.std.specs.Prelude.{◌≡◌, refl, true, false}
use Rattle.std.specs.Float.{binary64}
use Rattle.std.specs.Float.Ieee.{le, of_int, of_bits}
use Rattle.ieee.specs.Number.{absolute}
use Rattle.transform.specs.Angle.{within1000}

-- 1000 is accepted, and so is -1000; the next float above is not
pub at_1000 : within1000 (record { 0 = of_bits binary64 0x408F400000000000 }) ≡ true
unfolding within1000 absolute le of_bits of_int
at_1000 = refl

pub at_minus_1000 : within1000 (record { 0 = of_bits binary64 0xC08F400000000000 }) ≡ true
unfolding within1000 absolute le of_bits of_int
at_minus_1000 = refl

pub above_1000 : within1000 (record { 0 = of_bits binary64 0x408F400000000001 }) ≡ false
unfolding within1000 absolute le of_bits of_int
above_1000 = refl
