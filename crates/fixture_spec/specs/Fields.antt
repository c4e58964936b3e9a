-- The fields of a file, and the refusals 9, 10 and 11 (docs/SCOPE.md, "Fixtures in a file"). Definitions only.
--
-- How to read the four files beside the request, in this order:
-- - Fields.antt: a file is its list of bytes. `fields_of` cuts it into fields, each a tag and all bytes of the file behind that tag. The next field begins
--   behind the payload, which is as long as the two length bytes say; a file is so cut whether or not its fields are sound. `field_refusal` judges one field, 10
--   before 9; `file_refusal` judges the file: its length, its fields in order, then 11. What follows the first refusal does not count.
-- - Solids.antt: `jobs_of` gives the solids of a file that is not refused, each as a `Job`, what `tessellate` draws, with the settings that hold for it.
-- - Output.antt: the planner's bytes of a mesh, and the mesh of such bytes.
-- - Outcome.antt: `fixture_of`, the outcome of the planner's call for every file and every length of its output: what `tessellate` gives for each solid,
--   appended in order, as bytes; or the first refusal, and zeros.
-- Tags are hexadecimal throughout, as in the request.
use Rattle.std.specs.Prelude.{ℕ, zero, suc, ◌+◌, ◌*◌, ◌-◌, ◌%◌, Bool, true, false, not, ◌&&◌, ◌||◌, cond, List, [], ◌∷◌, length, get_or, take, drop, eqb, leb, ltb}
use Rattle.refusal.specs.Answer.{Answer}
use Rattle.refusal.specs.Answer.{Accepted, BrokenField, UnknownField, NoSolid}
use Rattle.refusal.specs.Accepted.{or_else}
use Rattle.transform_bytes.specs.Layout.{op_floats}
use Rattle.fixture_spec.specs.declared.Layout.{Layout}

-- ---- a field

-- its tag, and the bytes of the file behind the tag
pub record Field : Type 0 where
  pub tag : ℕ
  pub after : List ℕ

-- a number of two bytes at a place, low byte first
unfoldable pub count_at : List ℕ → ℕ → ℕ
count_at b at = get_or b at 0 + 256 * get_or b (at + 1) 0

-- the length of its payload: the two bytes behind the tag
unfoldable pub size_of : List ℕ → ℕ
unfolding count_at
size_of after = count_at after 0

-- its payload, as far as the file has it
unfoldable pub payload_of : List ℕ → List ℕ
payload_of after = take (size_of after) (drop 2 after)

-- the fields in a list of bytes of which the first `skip` belong to the field before
unfoldable pub fields_from : ℕ → List ℕ → List Field
fields_from skip [] = []
fields_from (suc skip) (b ∷ after) = fields_from skip after
fields_from zero (tag ∷ after) = record { tag = tag; after = after } ∷ fields_from (2 + size_of after) after

-- the fields of a file
abbrev pub fields_of : List ℕ → List Field
fields_of file = fields_from 0 file

-- ---- what is known: refusal 10

-- 10 to 19: the solids
unfoldable pub is_solid : ℕ → Bool
is_solid tag = leb 0x10 tag && leb tag 0x19

-- 01 to 05 and the solids
unfoldable pub known_tag : ℕ → Bool
known_tag tag = (leb 0x01 tag && leb tag 0x05) || is_solid tag

-- the first byte of a payload: in 02 and 03 a system, 0 or 1; in 04 a mark, 0 or 1; in 05 a kind, 1 to 8
unfoldable pub known_first : ℕ → ℕ → Bool
known_first tag first =
    cond (leb 0x02 tag && leb tag 0x04) (leb first 1)
    (cond (eqb tag 0x05) (leb 1 first && leb first 8)
    true)

-- ---- lengths: refusal 9

-- single bytes, single floats, floats of an item of its list (0: no list)
abbrev pub layout : ℕ → ℕ → ℕ → Layout
layout bytes floats item = record { bytes = bytes; floats = floats; item = item }

-- the layout by the tag, and in 05 by the kind. 01: two counts of two bytes; 05: the kind and its floats; 10 to 19: box, multi-box, sphere, spherical
-- shell, cylinder, cylindrical shell, polygon, extruded outline, rotated outline, wire, each its directions, its single numbers and an item of its list;
-- 02, 03 and 04: a byte
unfoldable pub layout_of : ℕ → ℕ → Layout
layout_of tag kind =
    cond (eqb tag 0x01) (layout 4 0 0)
    (cond (eqb tag 0x05) (layout 1 (op_floats kind) 0)
    (cond (eqb tag 0x10) (layout 0 6 0)
    (cond (eqb tag 0x11) (layout 0 0 6)
    (cond (eqb tag 0x12) (layout 0 4 0)
    (cond (eqb tag 0x13) (layout 0 5 0)
    (cond (eqb tag 0x14) (layout 0 7 0)
    (cond (eqb tag 0x15) (layout 0 8 0)
    (cond (eqb tag 0x16) (layout 1 1 2)
    (cond (eqb tag 0x17) (layout 1 2 2)
    (cond (eqb tag 0x18) (layout 2 3 2)
    (cond (eqb tag 0x19) (layout 0 1 3)
    (layout 1 0 0))))))))))))

-- the bytes before the list
unfoldable pub fixed_bytes : Layout → ℕ
fixed_bytes l = l.bytes + 8 * l.floats

-- a payload of n bytes has all of them, and whole items behind them
unfoldable pub right_size : Layout → ℕ → Bool
right_size l n =
    cond (eqb l.item 0) (eqb n (fixed_bytes l))
    (leb (fixed_bytes l) n && eqb ((n - fixed_bytes l) % (8 * l.item)) 0)

-- ---- the refusals in their order

-- one field: 10 as far as the bytes are there, then 9
unfoldable pub field_refusal : ℕ → List ℕ → Answer
field_refusal tag after =
    let payload = payload_of after in
    cond (not (known_tag tag)) UnknownField
    (cond (ltb (length after) 2) BrokenField
    (cond (ltb 0 (length payload) && not (known_first tag (get_or payload 0 0))) UnknownField
    (cond (ltb (length after) (2 + size_of after)) BrokenField
    (cond (not (right_size (layout_of tag (get_or payload 0 0)) (size_of after))) BrokenField
    Accepted))))

-- the refusal of the first field that is refused
unfoldable pub first_refusal : List Field → Answer
first_refusal [] = Accepted
first_refusal (f ∷ fs) = or_else (field_refusal f.tag f.after) (first_refusal fs)

unfoldable pub any_solid : List Field → Bool
any_solid [] = false
any_solid (f ∷ fs) = is_solid f.tag || any_solid fs

-- the file: 9 where it is longer than 65,535 bytes, its fields in order, then 11
unfoldable pub file_refusal : List ℕ → Answer
file_refusal file =
    cond (ltb 65535 (length file)) BrokenField
    (or_else (first_refusal (fields_of file))
    (cond (not (any_solid (fields_of file))) NoSolid
    Accepted))
