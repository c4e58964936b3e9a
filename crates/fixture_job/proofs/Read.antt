-- The list of a solid, read from the file, and the call of `tessellate` that draws it. Assumes nothing.
use mathlib.Core.Path.{◌≡◌, refl, sym, ap, ◌∙◌, subst}
use mathlib.Core.List.{List, [], ◌∷◌, ◌++◌}
use Prim.Native.Nat.{ℕ, zero, suc, ◌+◌, ◌-◌, ◌*◌, ◌≤◌}
use native.Mathlib.Omega.{arith}
use lib.ListN.{length, take, drop, length-append, length-take, length-drop}
use lib.Seq.{take_all, take_at, length-take-le}
use lib.Ieee.{Float}
use Rattle.slice_bytes.specs.Bytes.{float_at}
use Rattle.slice_byte_lists.specs.Lists.{floats_of}
use Rattle.transform.specs.declared.TransformOp.{TransformOp}
use Rattle.std.specs.Prelude.{Result}
use Rattle.refusal.specs.declared.Refusal.{Refusal}
use Rattle.mesh_check.specs.declared.TriMesh.{TriMesh}
use Rattle.mesh_made.specs.Made.{Lent, lent, Ending, GivesMade}
use Rattle.tessellate_spec.specs.Outcome.{job, tessellate_of}
use Rattle.fixture_spec.specs.Outcome.{solid_lent, drawn}
use Rattle.fixture_next.specs.declared.job.NextJob.{NextJob}
use Rattle.fixture_next.specs.Next.{ops_from}
use Rattle.fixture_next.specs.Job.{job_in}

-- ---- the list
length_floats_of : (n : ℕ) (b : List ℕ) → length (floats_of n b) ≡ n
unfolding floats_of
length_floats_of zero b = refl
length_floats_of (suc n) b = length-append (floats_of n b) (float_at b (8 * n) ∷ []) ∙ omega (arith, length_floats_of n b)

module _ (file : List ℕ) (list : List Float) (from n : ℕ) (few : n ≤ length list) where
  pub list_count : n ≡ length (take n list)
  list_count = sym (length-take-le n list few)

  -- the part of the file from a place on
  abbrev part : List ℕ
  part = take (length file - from) (drop from file)

  part_is : part ≡ drop from file
  part_is = take_all (length file - from) (drop from file) (omega (arith, length-drop from file))

  pub list_room : from + 8 * n ≤ length file → 8 * length (take n list) ≤ length part
  list_room h = omega (arith, list_count, ap length part_is, length-drop from file)

  module _ (got : List Float) (e : got ≡ floats_of (length (take n list)) part) where
    got_length : length got ≡ n
    got_length = ap length e ∙ length_floats_of (length (take n list)) part ∙ sym list_count

    first : take n (got ++ drop n list) ≡ got
    first = take_at got (drop n list) n got_length

    pub list_part : n ≡ length (take n (got ++ drop n list))
    list_part = sym (ap length first ∙ got_length)

    pub list_read : take n (got ++ drop n list) ≡ floats_of n (drop from file)
    list_read = first ∙ e ∙ (λ i. floats_of (sym list_count i) (part_is i))

-- ---- the call
pub lent_same : (vs : List Float) (ts ws : List ℕ) → length vs ≡ 3072 → length ts ≡ 6144 → length ws ≡ 2048 → lent vs ts ws ≡ solid_lent
lent_same vs ts ws a b c = λ i. record { vertices = a i; triangles = b i; work = c i }

pub same_job : (file : List ℕ) (at : ℕ) (j : NextJob) (list : List Float) (ops : List TransformOp) (n : Lent) (r : Result TriMesh Refusal) (vs : List Float) (ts ws : List ℕ)
    → list ≡ floats_of j.list_floats (drop j.list_at file) → ops ≡ ops_from file at → n ≡ solid_lent
    → GivesMade (tessellate_of (job j.shape list j.own j.default j.options j.degrees ops j.count) n) r vs ts ws
    → GivesMade (drawn (job_in file at j)) r vs ts ws
unfolding drawn job_in
same_job file at j list ops n r vs ts ws a b c g =
    subst (λ (o : Ending). GivesMade o r vs ts ws)
    (λ i. tessellate_of (job j.shape (a i) j.own j.default j.options j.degrees (b i) j.count) (c i)) g
