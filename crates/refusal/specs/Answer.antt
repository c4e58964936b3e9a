-- The answer of a call: accepted, or why it was refused. Definitions only.
use Rattle.std.specs.Prelude.{Option, None, Some, Result, Ok, Err}
use Rattle.refusal.specs.declared.Refusal.{Refusal}
use Rattle.refusal.specs.declared.Refusal.TheVariants as R

-- no refusal, or one
abbrev pub Answer : Type 0
Answer = Option Refusal

abbrev pub Accepted : Answer
Accepted = None

abbrev pub NotFinite : Answer
NotFinite = Some R.NotFinite

abbrev pub AngleTooLarge : Answer
AngleTooLarge = Some R.AngleTooLarge

abbrev pub TooManySegments : Answer
TooManySegments = Some R.TooManySegments

abbrev pub BadList : Answer
BadList = Some R.BadList

abbrev pub PointNotFinite : Answer
PointNotFinite = Some R.PointNotFinite

abbrev pub ShortWork : Answer
ShortWork = Some R.ShortWork

abbrev pub NoRoom : Answer
NoRoom = Some R.NoRoom

abbrev pub BadMesh : Answer
BadMesh = Some R.BadMesh

abbrev pub BrokenField : Answer
BrokenField = Some R.BrokenField

abbrev pub UnknownField : Answer
UnknownField = Some R.UnknownField

abbrev pub NoSolid : Answer
NoSolid = Some R.NoSolid

-- what a call answered, whatever it made
abbrev pub answer_of : {A : Type 0} → Result A Refusal → Answer
answer_of (Ok made) = None
answer_of (Err refusal) = Some refusal

-- what a call answers that makes such a value unless it is refused
abbrev pub answer_with : {A : Type 0} → Answer → A → Result A Refusal
answer_with None made = Ok made
answer_with (Some refusal) made = Err refusal
