-- The end of the case RotPoly: a mesh turned outward. Assumes nothing.
use mathlib.Core.Path.{◌≡◌, sym, ap, ◌∙◌}
use mathlib.Core.Bool.{Bool, true, false, cond}
use mathlib.Core.List.{List}
use Prim.Native.Nat.{ℕ}
use lib.Ieee.{Float, binary64, lt, div, of_bits}
use Rattle.mesh_balance_spec.specs.Soup.{flip_tri}
use Rattle.mesh_spec.specs.Mesh.{Mesh, flip}
use Rattle.mesh_spec.specs.Closed.{AllThere}
use Rattle.mesh_spec.proofs.ProperLawsHeld.{flip_all_there}
use Rattle.mesh_spec.specs.Measures.{signed_volume, sum_of, volume_term}
use Rattle.mesh_check.specs.State.{record_of, State, state, mesh_of, stored, Sound}
use Rattle.mesh_check.specs.Places.{Recorded}
use Rattle.mesh_triples.specs.Triples.{each_to, corners_of}
use Rattle.mesh_check.proofs.Stored.{stored_flip}
use Rattle.mesh_measures.proofs.Readings.{sum_is}
use Rattle.mesh_sums.proofs.Terms.{volume_is}
use Rattle.mesh_check.proofs.Lying.{stored_self}
use Rattle.solid_spec.specs.Solid.{outward, outward_if}

-- turning names no new vertex
flips_there : (b : Bool) (m : Mesh) → AllThere m → AllThere (cond b (flip m) m)
flips_there true m h = flip_all_there m h
flips_there false m h = h

outward_there : (m : Mesh) → AllThere m → AllThere (outward m)
unfolding outward
outward_there m h = flips_there (lt (signed_volume m) (of_bits binary64 0)) m h

pub outward_if_there : (b : Bool) (m : Mesh) → AllThere m → AllThere (outward_if b m)
outward_if_there true m h = outward_there m h
outward_if_there false m h = h

outward_flips : (m : Mesh) → lt (signed_volume m) (of_bits binary64 0) ≡ true → outward m ≡ flip m
unfolding outward
outward_flips m e = rw e

outward_stays : (m : Mesh) → lt (signed_volume m) (of_bits binary64 0) ≡ false → outward m ≡ m
unfolding outward
outward_stays m e = rw e

-- ---- the two ends of `turn_outward`
module _ (s : State) (r : Recorded s) (sum : Float) (is : sum ≡ sum_of volume_term (of_bits binary64 0) (corners_of s.vertices s.triangles s.mesh.triangles)) where
  abbrev ok : Sound s
  ok = r.sound

  volume_test : (b : Bool) → lt (div binary64 sum (of_bits binary64 0x4018000000000000)) (of_bits binary64 0) ≡ b → lt (signed_volume (mesh_of s)) (of_bits binary64 0) ≡ b
  volume_test b e =
      sym (ap {B = Bool} (λ (x : Float). lt x (of_bits binary64 0)) (volume_is (mesh_of s) sum (sum_is s ok volume_term (of_bits binary64 0) sum is)))
      ∙ e

  pub outward_turned : (ts : List ℕ) → lt (div binary64 sum (of_bits binary64 0x4018000000000000)) (of_bits binary64 0) ≡ true → ts ≡ each_to flip_tri s.mesh.triangles s.triangles
      → state s.mesh s.vertices ts ≡ stored (outward (mesh_of s)) s
  outward_turned ts e t =
      (λ j. state (record_of s.mesh.vertices s.mesh.triangles (r.bounds j)) s.vertices (t j))
      ∙ sym (stored_flip s ok)
      ∙ sym (ap {B = State} (λ (m : Mesh). stored m s) (outward_flips (mesh_of s) (volume_test true e)))

  pub outward_kept : lt (div binary64 sum (of_bits binary64 0x4018000000000000)) (of_bits binary64 0) ≡ false → s ≡ stored (outward (mesh_of s)) s
  outward_kept e = stored_self s r ∙ sym (ap {B = State} (λ (m : Mesh). stored m s) (outward_stays (mesh_of s) (volume_test false e)))
