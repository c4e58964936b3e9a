-- The walk over the solids of a file: its start, its steps and its end. Assumes nothing.
use mathlib.Core.Path.{◌≡◌, refl, sym, ap, ◌∙◌, subst}
use mathlib.Core.Bool.{Bool, cond}
use mathlib.Core.List.{List, [], map}
use Prim.Native.Nat.{ℕ, ◌+◌, ◌*◌, ◌≤◌}
use native.Mathlib.Omega.{arith}
use lib.ListN.{length, take, length-append, length-map}
use lib.Seq.{drop-length}
use lib.Ieee.{Float}
use Rattle.std.specs.Prelude.{Result, Ok, Err, Some}
use Rattle.refusal.specs.declared.Refusal.{Refusal}
use Rattle.refusal.specs.Answer.{Answer}
use Rattle.refusal.specs.Accepted.{is_accepted, or_else}
use Rattle.refusal.specs.Laws.{refused_is}
use Rattle.shape.specs.declared.CoordSystem.{CoordSystem}
use Rattle.shape.specs.declared.TessellationOptions.{TessellationOptions}
use Rattle.mesh_balance_spec.specs.Soup.{map_tri}
use Rattle.mesh_spec.specs.Mesh.{Mesh, no_mesh, append}
use Rattle.mesh_check.specs.declared.TriMesh.{TriMesh}
use Rattle.mesh_made.specs.Made.{GivesMade}
use Rattle.tessellate_spec.specs.Outcome.{Job}
use Rattle.fixture_spec.specs.Fields.{fields_from, first_refusal}
use Rattle.fixture_spec.specs.Solids.{fresh_settings, jobs_from, jobs_of}
use Rattle.fixture_spec.specs.Outcome.{drawn, solids_refusal, appended, fixture_mesh}
use Rattle.fixture_next.specs.declared.job.NextJob.{NextJob}
use Rattle.fixture_next.specs.Ready.{Ready, jobs_at}
use Rattle.fixture_next.specs.Job.{job_in, Found}
use Rattle.fixture_output.specs.Laid.{Laid, slice_mesh, Added}
use Rattle.fixture_output.specs.LaidLaws.{laid_none}
use Rattle.fixture_draw.specs.declared.Walk.{Walk}
use Rattle.fixture_draw.specs.Drawing.{start, onward, Placing, Drawing, Going, Advanced, Refused, Stepped, Begins, Held, Drawn}
use Rattle.fixture_draw.proofs.Solids.{solid_made, solid_adds}

-- ---- the end of the file
none_left : (file : List ℕ) (options : TessellationOptions) (default : CoordSystem) → jobs_at file (length file) options default ≡ []
unfolding jobs_from fields_from
none_left file options default = ap (λ (b : List ℕ). jobs_from (fresh_settings options default) (fields_from 0 b)) (drop-length file)

ready_end : (file : List ℕ) → length file ≤ 65535 → Ready file (length file)
unfolding first_refusal fields_from
ready_end file h = record { within = omega arith; short = h; sound = ap (λ (b : List ℕ). first_refusal (fields_from 0 b)) (drop-length file) }

-- ---- the counts of two meshes
more_vertices : (m o : Mesh) → length (append m o).vertices ≡ length m.vertices + length o.vertices
unfolding append
more_vertices m o = length-append m.vertices o.vertices

more_triangles : (m o : Mesh) → length (append m o).triangles ≡ length m.triangles + length o.triangles
unfolding append
more_triangles m o =
    length-append m.triangles (map (map_tri (λ i. i + length m.vertices)) o.triangles)
    ∙ ap (λ (k : ℕ). length m.triangles + k) (length-map o.triangles (map_tri (λ i. i + length m.vertices)))

-- ---- the same answer, the same walk, the same length of the output
pub drawn_is : (file : List ℕ) (r s : Result Walk Refusal) (n : ℕ) (out : List ℕ) → r ≡ s → Drawn file s n out → Drawn file r n out
drawn_is file r s n out e h = subst (λ (x : Result Walk Refusal). Drawn file x n out) (sym e) h

pub stepped_is : (file : List ℕ) (w : Walk) (r s : Result Walk Refusal) (n : ℕ) (out : List ℕ) → r ≡ s → Stepped file w s n out → Stepped file w r n out
stepped_is file w r s n out e h = subst (λ (x : Result Walk Refusal). Stepped file w x n out) (sym e) h

pub walk_is : (file : List ℕ) (w r s : Walk) (n : ℕ) (out : List ℕ) → r ≡ s → Advanced file w s n out → Advanced file w r n out
walk_is file w r s n out e h = subst (λ (x : Walk). Advanced file w x n out) (sym e) h

pub length_is : (file : List ℕ) (w : Walk) (n k : ℕ) (out : List ℕ) → n ≡ k → Drawing file w n out → Drawing file w k out
length_is file w n k out e h = subst (λ (x : ℕ). Drawing file w x out) e h

-- the walk at the file's end
abbrev pub at_end : List ℕ → Walk → Walk
at_end file w = record {
  at = length file;
  options = w.options;
  default = w.default;
  vertices = w.vertices;
  triangles = w.triangles;
}

-- ---- a step
module _ (file : List ℕ) (w : Walk) (out : List ℕ) (g : Going file w out) where
  abbrev d : Drawing file w (length out) out
  d = g.drawing

  pub here : Ready file w.at
  here = d.coming.ready

  -- no solid is left
  pub stepped_none : jobs_at file w.at w.options w.default ≡ [] → Advanced file w (at_end file w) (length out) out
  unfolding appended solids_refusal
  stepped_none left = record {
    drawing = record {
      mesh = d.mesh;
      counted = d.counted;
      faces = d.faces;
      few = omega (arith, d.few, d.within);
      fewer = omega (arith, d.fewer, d.within);
      laid = d.laid;
      short = d.short;
      within = omega arith;
      coming = record {
        ready = ready_end file d.short;
        mesh = ap (appended d.mesh) (none_left file w.options w.default ∙ sym left) ∙ d.coming.mesh;
        refusal = ap solids_refusal (none_left file w.options w.default ∙ sym left) ∙ d.coming.refusal;
      };
    };
    onward = g.before;
  }

  module _ (j : NextJob) (is : Found file w.at w.options w.default j) where
    module _ (vs : List Float) (ts ws : List ℕ) where
      abbrev this : Job
      this = job_in file w.at j

      -- the solid is refused
      pub stepped_refused : (why : Refusal) → GivesMade (drawn this) (Err why) vs ts ws → Refused file why (length out) out
      unfolding solids_refusal or_else
      stepped_refused why gives =
          let e = refused_is why in
          let rest = solids_refusal (jobs_at file j.next j.options j.default) in
          record {
            refusal = sym
                (sym d.coming.refusal ∙ ap solids_refusal is.more
                ∙ ap (λ (q : Answer). or_else q rest) (sym gives.refusal)
                ∙ ap (λ (b : Bool). cond b rest (Some why)) e);
            bytes = refl;
          }

      -- what the slices hold may be added
      pub placing : (mesh : TriMesh) → GivesMade (drawn this) (Ok mesh) vs ts ws → length vs ≡ 3072 → length ts ≡ 6144
          → Placing (length out) w mesh vs ts
      placing mesh gives ev et =
          let s = solid_made this mesh vs ts ws gives ev et in
          record {
            vertices = omega (arith, s.few);
            triangles = omega (arith, s.fewer);
            most = omega arith;
            mosts = omega arith;
            adds =
                solid_adds this mesh vs ts (length out) w.vertices w.triangles s ev et (omega (arith, d.few, d.within, d.short))
                (omega (arith, d.fewer, d.within, d.short));
          }

      -- the solid is added
      pub stepped_more : (mesh : TriMesh) → GivesMade (drawn this) (Ok mesh) vs ts ws → length vs ≡ 3072 → length ts ≡ 6144 → (out' : List ℕ)
          → Added out w.vertices w.triangles (take (3 * mesh.vertices) vs) (take (3 * mesh.triangles) ts) out'
          → Advanced file w (onward w j mesh) (length out) out'
      unfolding solids_refusal or_else appended
      stepped_more mesh gives ev et out' added =
          let s = solid_made this mesh vs ts ws gives ev et in
          let ready = is.ready in
          let more : Mesh = slice_mesh (take (3 * mesh.vertices) vs) (take (3 * mesh.triangles) ts) in
          let rest = jobs_at file j.next j.options j.default in
          record {
            drawing = record {
              mesh = append d.mesh more;
              counted = more_vertices d.mesh more ∙ omega (arith, d.counted, s.points_count);
              faces = more_triangles d.mesh more ∙ omega (arith, d.faces, s.tris_count);
              few = omega (arith, d.few, s.few, is.onward);
              fewer = omega (arith, d.fewer, s.fewer, is.onward);
              laid = added d.mesh d.counted d.faces d.laid;
              short = d.short;
              within = ready.within;
              coming = record {
                ready = ready;
                mesh =
                    ap (λ (x : Mesh). appended (append d.mesh x) rest) (sym s.mesh)
                    ∙ ap (appended d.mesh) (sym is.more)
                    ∙ d.coming.mesh;
                refusal =
                    sym (ap (λ (b : Bool). cond b (solids_refusal rest) (drawn this).refusal) (sym (ap is_accepted gives.refusal)))
                    ∙ ap solids_refusal (sym is.more)
                    ∙ d.coming.refusal;
              };
            };
            onward = is.onward;
          }

-- ---- the start
pub begun : (file out : List ℕ) → Begins file out → Ready file 0 → Drawing file start (length out) out
unfolding jobs_of fixture_mesh
begun file out b r = record {
  mesh = no_mesh;
  counted = refl;
  faces = refl;
  few = omega arith;
  fewer = omega arith;
  laid = subst (Laid no_mesh (length out)) (sym b.zeros) (laid_none (length out));
  short = r.short;
  within = omega arith;
  coming = record { ready = r; mesh = refl; refusal = refl };
}

-- ---- the end
pub ended : (file : List ℕ) (w : Walk) (n : ℕ) (out : List ℕ) → Drawing file w n out → length file ≤ w.at → Held file w n out
unfolding appended solids_refusal
ended file w n out d h = record {
  refusal = sym (unfold solids_refusal in ap solids_refusal left) ∙ d.coming.refusal;
  counted = ap (λ (m : Mesh). length m.vertices) (sym same) ∙ d.counted;
  faces = ap (λ (m : Mesh). length m.triangles) (sym same) ∙ d.faces;
  few = omega (arith, d.few, d.within, d.short);
  fewer = omega (arith, d.fewer, d.within, d.short);
  laid = subst (λ (m : Mesh). Laid m n out) same d.laid;
}
  where
    end : w.at ≡ length file
    end = omega (arith, d.within)

    left : jobs_at file w.at w.options w.default ≡ []
    left = ap (λ (k : ℕ). jobs_at file k w.options w.default) end ∙ none_left file w.options w.default

    same : d.mesh ≡ fixture_mesh file
    same = sym (unfold appended in ap (appended d.mesh) left) ∙ d.coming.mesh
