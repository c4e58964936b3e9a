-- The numbers of docs/SCOPE.md, "Refusals". Assumes nothing.
use Rattle.std.specs.Prelude.{ℕ, None, Some}
use Rattle.refusal.specs.declared.Refusal.TheVariants.{NotFinite, AngleTooLarge, TooManySegments, BadList, PointNotFinite, ShortWork, NoRoom}
use Rattle.refusal.specs.declared.Refusal.TheVariants.{BadMesh, BrokenField, UnknownField, NoSolid}
use Rattle.refusal.specs.Answer.{Answer}

-- 1 to 5 judge numbers and lists, 6 to 8 the lengths of lent slices and the counts and vertex numbers of a mesh, 9 to 11 the fields of a file; 0 is no
-- refusal
abbrev pub number_of : Answer → ℕ
number_of None = 0
number_of (Some NotFinite) = 1
number_of (Some AngleTooLarge) = 2
number_of (Some TooManySegments) = 3
number_of (Some BadList) = 4
number_of (Some PointNotFinite) = 5
number_of (Some ShortWork) = 6
number_of (Some NoRoom) = 7
number_of (Some BadMesh) = 8
number_of (Some BrokenField) = 9
number_of (Some UnknownField) = 10
number_of (Some NoSolid) = 11
