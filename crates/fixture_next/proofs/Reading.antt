-- The walk to the next solid. Assumes nothing.
use mathlib.Core.Path.{◌≡◌, refl, sym, ap, ◌∙◌}
use mathlib.Core.Bool.{true, false}
use mathlib.Core.List.{List}
use Prim.Native.Nat.{ℕ, ◌+◌, ◌≤◌, ◌<◌}
use native.Mathlib.Omega.{arith}
use lib.ListN.{length, get_or, drop}
use Rattle.shape.specs.declared.CoordSystem.{CoordSystem}
use Rattle.std.specs.Prelude.{None}
use Rattle.shape.specs.declared.TessellationOptions.{TessellationOptions}
use Rattle.fixture_spec.specs.Fields.{size_of, fields_from, is_solid}
use Rattle.fixture_spec.specs.Solids as Solids
use Rattle.fixture_solid.specs.declared.Settings.{Settings}
use Rattle.fixture_solid.specs.Field.{plain, After, counted, payload_at}
use Rattle.fixture_next.specs.Ready.{Ready}
use Rattle.fixture_next.specs.Next.{Reached, next_solid, reached, IsNext}
use Rattle.fixture_next.proofs.Here.{ready_next, skip_field, stop_field, end_field}

-- the settings s hold at the place, and what is reached from there is what is reached from the start
pub record Reading (file : List ℕ) (from : ℕ) (options : TessellationOptions) (default : CoordSystem) (at : ℕ) (s : Settings) : Type 0 where
  pub ready : Ready file at
  pub few : s.count ≤ at
  onward : from ≤ at
  x : Solids.Settings
  held : s ≡ plain x
  same : reached file from options default ≡ next_solid x (fields_from 0 (drop at file))

module _ (file : List ℕ) (from : ℕ) (options : TessellationOptions) (default : CoordSystem) where
  pub start : Ready file from → Reading file from options default from (counted options default None false 0)
  start ready = record {
    ready = ready;
    few = omega arith;
    onward = omega arith;
    x = Solids.fresh_settings options default;
    held = refl;
    same = refl;
  }

  module _ (at : ℕ) (s : Settings) (w : Reading file from options default at s) where
    pub step : at < length file → (p : List ℕ) (r : Settings) → p ≡ payload_at file at → length p ≡ size_of (drop (at + 1) file)
        → is_solid (get_or file at 0) ≡ false → After s (get_or file at 0) p r → Reading file from options default (at + 3 + length p) r
    step h p r payload e plainly after = record {
      ready = ready_next file at w.ready h (length p) e;
      few = omega (arith, after.few, w.few);
      onward = omega (arith, w.onward);
      x = Solids.settings_after w.x (get_or file at 0) (payload_at file at);
      held = after.held w.x w.held ∙ ap (λ (q : List ℕ). plain (Solids.settings_after w.x (get_or file at 0) q)) payload;
      same = w.same ∙ skip_field file at w.ready h (length p) e w.x plainly;
    }

    stopped : reached file from options default ≡ record { settings = w.x; fields = fields_from 0 (drop at file) }
        → (at < length file → is_solid (get_or file at 0) ≡ true) → IsNext file from options default at s
    stopped e solid = record {
      onward = w.onward;
      ready = w.ready;
      settings = w.held ∙ sym (ap (λ (r : Reached). plain r.settings) e);
      fields = sym (ap (λ (r : Reached). r.fields) e);
      solid = solid;
    }

    pub found : at < length file → is_solid (get_or file at 0) ≡ true → IsNext file from options default at s
    found h solid = stopped (w.same ∙ stop_field file at w.ready h w.x solid) (λ _. solid)

    pub at_end : length file ≤ at → IsNext file from options default at s
    at_end h = stopped (w.same ∙ end_field file at w.x h) (λ m. let no : ◌≡◌ {A = ℕ} 0 1 = omega arith in cc)
