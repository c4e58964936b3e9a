-- The next solid of a file: the fields before it are taken into the settings. Definitions only.
use Rattle.std.specs.Prelude.{ℕ, ◌≤◌, ◌<◌, ◌≡◌, true, cond, List, [], ◌∷◌, ◌++◌, length, get_or, drop}
use Rattle.shape.specs.declared.CoordSystem.{CoordSystem}
use Rattle.shape.specs.declared.TessellationOptions.{TessellationOptions}
use Rattle.transform.specs.declared.TransformOp.{TransformOp}
use Rattle.fixture_spec.specs.Fields.{Field, payload_of, fields_from, is_solid}
use Rattle.fixture_spec.specs.Solids.{Settings, fresh_settings, start_settings, settings_after, sixteen}
use Rattle.fixture_solid.specs.declared.Settings as Code
use Rattle.fixture_solid.specs.Field.{plain}
use Rattle.fixture_next.specs.Ready.{Ready}

-- the settings at the next solid, and the fields from it on: none where there is no other solid
pub record Reached : Type 0 where
  pub settings : Settings
  pub fields : List Field

unfoldable pub next_solid : Settings → List Field → Reached
next_solid s [] = record { settings = s; fields = [] }
next_solid s (f ∷ fs) = cond (is_solid f.tag) (record { settings = s; fields = f ∷ fs }) (next_solid (settings_after s f.tag (payload_of f.after)) fs)

-- what is reached from a place on, where 01 and 02 have set the options and the default system
abbrev pub reached : List ℕ → ℕ → TessellationOptions → CoordSystem → Reached
reached file from options default = next_solid (fresh_settings options default) (fields_from 0 (drop from file))

-- the next solid's tag is at the place `at`, which is the end where there is none, and s are its settings
pub record IsNext (file : List ℕ) (from : ℕ) (options : TessellationOptions) (default : CoordSystem) (at : ℕ) (s : Code.Settings) : Type 0 where
  pub onward : from ≤ at
  pub ready : Ready file at
  pub settings : s ≡ plain (reached file from options default).settings
  pub fields : fields_from 0 (drop at file) ≡ (reached file from options default).fields
  pub solid : at < length file → is_solid (get_or file at 0) ≡ true

-- the sixteen operations of the next solid from a place on; they are the same whatever the options and the default system
unfoldable pub ops_from : List ℕ → ℕ → List TransformOp
ops_from file from = sixteen (reached file from start_settings.options start_settings.default).settings.ops

-- one operation more in the first of sixteen places that is free
abbrev pub OneMore : List TransformOp → ℕ → TransformOp → List TransformOp → Type 0
OneMore ops count op r = (xs : List TransformOp) → ops ≡ sixteen xs → count ≡ length xs → r ≡ sixteen (xs ++ (op ∷ []))
