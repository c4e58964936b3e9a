-- What one field says: a solid, or settings for the next one. Definitions only.
use Rattle.std.specs.Prelude.{ℕ, ◌+◌, ◌*◌, ◌/◌, ◌≤◌, ◌≡◌, Bool, true, List, length, get_or, drop}
use Rattle.slice_byte_lists.specs.Lists.{floats_of}
use Rattle.shape.specs.declared.CoordSystem.{CoordSystem}
use Rattle.std.specs.Prelude.{Option}
use Rattle.shape.specs.declared.TessellationOptions.{TessellationOptions}
use Rattle.fixture_spec.specs.declared.Layout.{Layout}
use Rattle.fixture_spec.specs.Fields.{count_at, size_of, payload_of, is_solid, layout_of, fixed_bytes}
use Rattle.fixture_spec.specs.Solids as Solids
use Rattle.fixture_solid.specs.declared.Settings.{Settings}
use Rattle.fixture_solid.specs.declared.field.SolidField.{SolidField}

-- ---- a payload

-- a payload has the bytes and the floats that come before its list
abbrev pub Sound : ℕ → List ℕ → Type 0
Sound tag p = fixed_bytes (layout_of tag (get_or p 0 0)) ≤ length p

-- a payload has the bytes and the floats of a layout, whose floats have room in ten places
pub record Numbers (l : Layout) (p : List ℕ) : Type 0 where
  pub few : l.floats ≤ 10
  pub long : fixed_bytes l ≤ length p

-- the segments and the rings of a payload
abbrev pub options_of : List ℕ → TessellationOptions
options_of p = record { segments = count_at p 0; sphere_rings = count_at p 2 }

-- ---- settings

-- the settings with a count of operations in place of the operations
abbrev pub counted : TessellationOptions → CoordSystem → Option CoordSystem → Bool → ℕ → Settings
counted options default own degrees count = record { options = options; default = default; own = own; degrees = degrees; count = count }

abbrev pub plain : Solids.Settings → Settings
plain s = counted s.options s.default s.own s.degrees (length s.ops)

-- r is what the settings s are after a field, whatever the operations so far
pub record After (s : Settings) (tag : ℕ) (p : List ℕ) (r : Settings) : Type 0 where
  pub held : (x : Solids.Settings) → s ≡ plain x → r ≡ plain (Solids.settings_after x tag p)
  pub few : r.count ≤ s.count + 1

-- ---- a solid

-- the payload of the field at a place
abbrev pub payload_at : List ℕ → ℕ → List ℕ
payload_at file at = payload_of (drop (at + 1) file)

-- the place behind it
abbrev pub behind_at : List ℕ → ℕ → ℕ
behind_at file at = at + 3 + size_of (drop (at + 1) file)

-- at a place of the file stands the whole field of a solid, with what comes before its list
pub record SolidHere (file : List ℕ) (at : ℕ) : Type 0 where
  pub solid : is_solid (get_or file at 0) ≡ true
  pub whole : behind_at file at ≤ length file
  pub sound : fixed_bytes (layout_of (get_or file at 0) 0) ≤ size_of (drop (at + 1) file)

-- what it says: its shape; its list, so many floats from a place on; the next field
pub record IsField (file : List ℕ) (at : ℕ) (r : SolidField) : Type 0 where
  pub shape : r.shape ≡ Solids.solid_of (get_or file at 0) (payload_at file at)
  pub floats : r.list_floats ≡ length (Solids.list_bytes (get_or file at 0) (payload_at file at)) / 8
  pub inside : r.list_at + 8 * r.list_floats ≤ length file
  pub list : floats_of r.list_floats (drop r.list_at file) ≡ floats_of r.list_floats (Solids.list_bytes (get_or file at 0) (payload_at file at))
  pub next : r.next ≡ behind_at file at
