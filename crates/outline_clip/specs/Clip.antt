-- Clipping an outline by itself (docs/SCOPE.md, "Refusals"): the checks 4, 1, 7 in that order, the counts and the triangle slice at the end.
-- v is the corner list as given, and m the length of the triangle slice. Assumes nothing.
use Rattle.std.specs.Prelude.{Result, Ok, Err, Some, ℕ, ◌-◌, ◌/◌, ◌%◌, cond, not, ◌||◌, List, ◌++◌, length, replicate, ltb, eqb, Float}
use Rattle.std.specs.Float.Ieee.Scale.{finite}
use Rattle.refusal.specs.Number.{number_of}
use Rattle.refusal.specs.declared.Refusal.{Refusal}
use Rattle.refusal.specs.declared.Refusal.TheVariants.{BadList, NotFinite, NoRoom}
use Rattle.refusal.specs.Answer.{Accepted, answer_of}
use Rattle.slice.specs.Every.{every}
use Rattle.outline_triangulate.specs.declared.Cut.{Cut}
use Rattle.outline_triangulate.specs.Triangulate.{Clipping, triangulate_polygon}

-- the refusal's number, 0 for none; the triangles given; the corners removed singly; the whole triangle slice
pub record ClipOutcome : Type 0 where
  pub refusal : ℕ
  pub triangles : ℕ
  pub removed : ℕ
  pub slice : List ℕ

-- refused: counts 0, the slice all zero
unfoldable pub clip_refused : Refusal → ℕ → ClipOutcome
clip_refused r m = record { refusal = number_of (Some r); triangles = 0; removed = 0; slice = replicate m 0 }

-- accepted: the triangles, and zeros in the places after them, a broken last place too
unfoldable pub clip_accepted : Clipping → ℕ → ClipOutcome
clip_accepted s m = record {
  refusal = number_of Accepted;
  triangles = length s.triangles / 3;
  removed = s.removed;
  slice = s.triangles ++ replicate (m - length s.triangles) 0;
}

-- 4: above 512 corners, or not whole corners. 1: a number is not finite. 7: more triangles than whole places
unfoldable pub clip_outline : List Float → ℕ → ClipOutcome
clip_outline v m =
    cond (ltb 1024 (length v) || eqb (length v % 2) 1) (clip_refused BadList m)
    (cond (not (every finite v)) (clip_refused NotFinite m)
    (cond (ltb (m / 3) (length (triangulate_polygon v).triangles / 3)) (clip_refused NoRoom m)
    (clip_accepted (triangulate_polygon v) m)))

-- the counts that are answered, 0 for a refusal
abbrev pub cut_answered : Result Cut Refusal → Cut
cut_answered (Ok cut) = cut
cut_answered (Err refusal) = record { triangles = 0; removed = 0 }

-- what the code answers, with the triangle slice as it leaves it
abbrev pub outcome_of : Result Cut Refusal → List ℕ → ClipOutcome
outcome_of r a = record { refusal = number_of (answer_of r); triangles = (cut_answered r).triangles; removed = (cut_answered r).removed; slice = a }
