-- The measures of a mesh in lent slices, with refusals 8 and 1 of docs/SCOPE.md, and 8 for the box. The outcome of a refused measure holds zeros.
-- Definitions only.
use Rattle.std.specs.Prelude.{Result, Ok, Err, ◌≡◌, ℕ, cond, Float}
use Rattle.std.specs.Float.{binary64}
use Rattle.std.specs.Float.Ieee.{to_bits}
use Rattle.math.specs.declared.BoundingBox.{BoundingBox}
use Rattle.mesh_box.specs.ZeroBox.{zero_box}
use Rattle.mesh_spec.specs.Mesh.{Mesh}
use Rattle.mesh_spec.specs.Measures.{signed_volume, area, enclosed_volume, bounding_box}
use Rattle.refusal.specs.declared.Refusal.{Refusal}
use Rattle.refusal.specs.Answer.{Answer, answer_of}
use Rattle.refusal.specs.Number.{number_of}
use Rattle.refusal.specs.Accepted.{is_accepted}
use Rattle.mesh_check.specs.State.{State, mesh_of, check_of, Boxed, boxed_with}

-- the outcome of a measure: a refusal or none, and the bits of the area or volume, 0 where it is refused
pub record Measure : Type 0 where
  pub refusal : Answer
  pub bits : ℕ

-- a NaN's bits are 7FF8000000000000
unfoldable pub measure_of : (Mesh → Float) → State → Measure
measure_of f s = record { refusal = check_of s; bits = cond (is_accepted (check_of s)) (to_bits binary64 (f (mesh_of s))) 0 }

-- the bits that are answered, 0 for a refusal
abbrev pub bits_answered : Result ℕ Refusal → ℕ
bits_answered (Ok bits) = bits
bits_answered (Err refusal) = 0

-- the answer r, its number in docs/SCOPE.md and its bits are those of the outcome
pub record GivesMeasure (o : Measure) (r : Result ℕ Refusal) : Type 0 where
  pub refusal : answer_of r ≡ o.refusal
  pub number : number_of (answer_of r) ≡ number_of o.refusal
  pub bits : bits_answered r ≡ o.bits

-- `signed_volume`
abbrev pub signed_volume_of : State → Measure
signed_volume_of = measure_of signed_volume

-- `area`
abbrev pub area_of : State → Measure
area_of = measure_of area

-- enclosed volume
abbrev pub enclosed_volume_of : State → Measure
enclosed_volume_of = measure_of enclosed_volume

-- the box that is answered, all zero for a refusal
abbrev pub box_answered : Result BoundingBox Refusal → BoundingBox
box_answered (Ok bounds) = bounds
box_answered (Err refusal) = zero_box

-- the answer r, its number in docs/SCOPE.md and its box are those of the outcome
pub record GivesBox (o : Boxed) (r : Result BoundingBox Refusal) : Type 0 where
  pub refusal : answer_of r ≡ o.refusal
  pub number : number_of (answer_of r) ≡ number_of o.refusal
  pub bounds : box_answered r ≡ o.bounds

-- `bounding_box`
unfoldable pub bounding_box_of : State → Boxed
unfolding boxed_with
bounding_box_of s = boxed_with (check_of s) (bounding_box (mesh_of s))
