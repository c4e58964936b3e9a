-- What the walk reads is the next job of the file. Assumes nothing.
use mathlib.Core.Path.{◌≡◌, refl, sym, ap, subst, ◌∙◌}
use mathlib.Core.Bool.{Bool, true, false, cond}
use mathlib.Core.List.{List, [], ◌∷◌, ◌++◌}
use Prim.Native.Nat.{ℕ, ◌+◌, ◌/◌, ◌≤◌, ◌<◌}
use native.Mathlib.Omega.{arith}
use lib.ListN.{length, get_or, drop, drop_of_length-le}
use Rattle.slice_byte_lists.specs.Lists.{floats_of}
use Rattle.transform.specs.declared.TransformOp.{TransformOp}
use Rattle.shape.specs.declared.CoordSystem.{CoordSystem}
use Rattle.shape.specs.declared.TessellationOptions.{TessellationOptions}
use Rattle.tessellate_spec.specs.Outcome.{job}
use Rattle.fixture_spec.specs.Fields.{Field, size_of, payload_of, fields_from, is_solid}
use Rattle.fixture_spec.specs.Solids.{Settings, fresh_settings, start_settings, op_of, settings_after, list_bytes, sixteen, job_of, jobs_from}
use Rattle.fixture_field.proofs.Cut.{next_field, behind_is}
use Rattle.fixture_solid.specs.declared.Settings as Code
use Rattle.fixture_solid.specs.declared.field.SolidField.{SolidField}
use Rattle.fixture_solid.specs.Field.{payload_at, IsField}
use Rattle.fixture_solid.proofs.Arms.{afresh}
use Rattle.fixture_next.specs.declared.job.NextJob.{NextJob}
use Rattle.fixture_next.specs.Ready.{Ready, jobs_at}
use Rattle.fixture_next.specs.Next.{next_solid, reached, IsNext, ops_from}
use Rattle.fixture_next.specs.Job.{joined, job_in, Found}
use Rattle.fixture_next.proofs.Here.{ready_next}
use Rattle.fixture_next.proofs.Sixteen.{chosen, ops_after}

-- ---- the jobs from the next solid on

jobs_next : (s : Settings) (fs : List Field) → jobs_from s fs ≡ jobs_from (next_solid s fs).settings (next_solid s fs).fields
unfolding jobs_from next_solid
jobs_next s [] = refl
jobs_next s (f ∷ fs) = go (is_solid f.tag) refl (jobs_next y fs)
  where
    y : Settings
    y = settings_after s f.tag (payload_of f.after)

    go : (b : Bool) → is_solid f.tag ≡ b → jobs_from y fs ≡ jobs_from (next_solid y fs).settings (next_solid y fs).fields
        → jobs_from s (f ∷ fs)
        ≡ jobs_from (cond b (record { settings = s; fields = f ∷ fs }) (next_solid y fs)).settings
        (cond b (record { settings = s; fields = f ∷ fs }) (next_solid y fs)).fields
    go true e ih = refl
    go false e ih = ap (λ (b : Bool). cond b (job_of s f.tag (payload_of f.after) ∷ []) [] ++ jobs_from y fs) e ∙ ih

jobs_solid : (s : Settings) (f : Field) (fs : List Field) → is_solid f.tag ≡ true
    → jobs_from s (f ∷ fs) ≡ job_of s f.tag (payload_of f.after) ∷ jobs_from (fresh_settings s.options s.default) fs
unfolding jobs_from
jobs_solid s f fs h =
    ap (λ (b : Bool). cond b (job_of s f.tag (payload_of f.after) ∷ []) [] ++ jobs_from (settings_after s f.tag (payload_of f.after)) fs) h
    ∙ ap (λ (x : Settings). job_of s f.tag (payload_of f.after) ∷ jobs_from x fs) (afresh s f.tag (payload_of f.after) h)

-- ---- the operations do not hang on the options and the default system

after_same : (s t : Settings) → s.ops ≡ t.ops → (k : ℕ) (p : List ℕ) → (settings_after s k p).ops ≡ (settings_after t k p).ops
after_same s t e k p = ops_after s k p ∙ (λ i. ops_of (e i)) ∙ sym (ops_after t k p)
  where
    ops_of : List TransformOp → List TransformOp
    ops_of ops = chosen k ops (ops ++ (op_of p ∷ []))

reached_same : (s t : Settings) (fs : List Field) → s.ops ≡ t.ops → (next_solid s fs).settings.ops ≡ (next_solid t fs).settings.ops
unfolding next_solid
reached_same s t [] e = e
reached_same s t (f ∷ fs) e = go (is_solid f.tag) (reached_same y z fs (after_same s t e f.tag (payload_of f.after)))
  where
    y : Settings
    y = settings_after s f.tag (payload_of f.after)

    z : Settings
    z = settings_after t f.tag (payload_of f.after)

    go : (b : Bool) → (next_solid y fs).settings.ops ≡ (next_solid z fs).settings.ops
        → (cond b (record { settings = s; fields = f ∷ fs }) (next_solid y fs)).settings.ops
        ≡ (cond b (record { settings = t; fields = f ∷ fs }) (next_solid z fs)).settings.ops
    go true ih = e
    go false ih = ih

ops_any : (file : List ℕ) (from : ℕ) (options : TessellationOptions) (default : CoordSystem)
    → sixteen (reached file from options default).settings.ops ≡ ops_from file from
unfolding ops_from
ops_any file from options default = ap sixteen (reached_same (fresh_settings options default) start_settings (fields_from 0 (drop from file)) refl)

-- ---- the next job

module _ (file : List ℕ) (from : ℕ) (options : TessellationOptions) (default : CoordSystem) (at : ℕ) (s : Code.Settings)
    (is : IsNext file from options default at s) where
  abbrev held : Settings
  held = (reached file from options default).settings

  here : jobs_at file from options default ≡ jobs_from held (fields_from 0 (drop at file))
  here = jobs_next (fresh_settings options default) (fields_from 0 (drop from file)) ∙ ap (jobs_from held) (sym is.fields)

  -- no other solid
  pub no_job : length file ≤ at → jobs_at file from options default ≡ []
  unfolding fields_from jobs_from
  no_job h = here ∙ ap (λ (l : List ℕ). jobs_from held (fields_from 0 l)) (drop_of_length-le file h)

  module _ (h : at < length file) (f : SolidField) (field : IsField file at f) where
    abbrev listed : List ℕ
    listed = list_bytes (get_or file at 0) (payload_at file at)

    list_is : floats_of (length listed / 8) listed ≡ floats_of f.list_floats (drop f.list_at file)
    list_is = ap (λ (m : ℕ). floats_of m listed) (sym field.floats) ∙ sym field.list

    rest : fields_from 0 (drop at file) ≡ record { tag = get_or file at 0; after = drop (at + 1) file } ∷ fields_from 0 (drop f.next file)
    rest =
        next_field file at h
        ∙ ap (λ (fs : List Field). record { tag = get_or file at 0; after = drop (at + 1) file } ∷ fs)
        (behind_is file at (size_of (drop (at + 1) file)) refl ∙ ap (λ (k : ℕ). fields_from 0 (drop k file)) (sym field.next))

    found_job : jobs_at file from options default ≡ job_in file from (joined s f) ∷ jobs_at file f.next s.options s.default
    unfolding job_of job_in
    found_job =
        here
        ∙ ap (jobs_from held) rest
        ∙ jobs_solid held _ _ (is.solid h)
        ∙ (λ i.
        job (sym field.shape i) (list_is i) (sym is.settings i).own (sym is.settings i).default (sym is.settings i).options
        (sym is.settings i).degrees (ops_any file from options default i) (sym is.settings i).count
        ∷ jobs_at file f.next (sym is.settings i).options (sym is.settings i).default)

    pub one_job : (r : NextJob) → r ≡ joined s f → Found file from options default r
    one_job r e = record {
      more = found_job ∙ sym (ap (λ (j : NextJob). job_in file from j ∷ jobs_at file j.next j.options j.default) e);
      onward = omega (arith, is.onward, field.next, ap (λ (j : NextJob). j.next) e);
      ready = ready_at (ap (λ (j : NextJob). j.next) e ∙ field.next);
      inside = omega (arith, field.inside, ap (λ (j : NextJob). j.list_at) e, ap (λ (j : NextJob). j.list_floats) e);
      few = omega (arith, field.inside, is.ready.short, ap (λ (j : NextJob). j.list_floats) e);
    }
      where
        ready_at : {k : ℕ} → k ≡ at + 3 + size_of (drop (at + 1) file) → Ready file k
        ready_at q = subst (Ready file) (sym q) (ready_next file at is.ready h (size_of (drop (at + 1) file)) refl)
