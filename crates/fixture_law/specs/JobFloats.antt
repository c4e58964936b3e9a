-- The floats of every solid that is read from fields are floats of binary64, whatever the fields hold. Assumes nothing.
use Rattle.std.specs.Prelude.{Bool, cond, List, [], ◌∷◌, ◌++◌, ℕ, zero, suc, ◌+◌, ◌*◌, ◌-◌, ◌/◌, length, get_or, drop, replicate, eqb, Float}
use Rattle.std.proofs.Math.Bool.{true, false}
use Rattle.std.specs.Float.{binary64}
use Rattle.std.specs.Float.Ieee.{of_bits}
use Rattle.std.specs.Float.Ieee.Fits.{nan-fits}
use Rattle.std.specs.Float.Ieee.Bits.{of_bits-fits}
use Rattle.slice_bytes.specs.Bytes.{long_at, float_at}
use Rattle.slice_byte_lists.specs.Lists.{floats_of}
use Rattle.shape.specs.declared.Shape.TheVariants.{Box, MultiBox, Sphere, SphericalShell, Cylinder, CylindricalShell, Polygon, LinPoly, RotPoly, Wire}
use Rattle.shape_fields.specs.Fields.{number, point_at, pointed, shape_of}
use Rattle.solid_spec.specs.Fits.{FitsV, FitsAll}
use Rattle.tessellate_spec.specs.Outcome.{Job}
use Rattle.tessellate_law.specs.Words.{FitsSolid}
use Rattle.fixture_spec.specs.declared.Layout.{Layout}
use Rattle.fixture_spec.specs.Fields.{Field, payload_of, fields_of, is_solid, layout_of}
use Rattle.fixture_spec.specs.Solids.{Settings, start_settings, settings_after, numbers_of, solid_of, list_bytes, job_of, jobs_from, jobs_of}
use Rattle.fixture_law.specs.Words.{AllFitting}

-- ---- lists of floats

bits_append : (xs ys : List Float) → FitsAll xs → FitsAll ys → FitsAll (xs ++ ys)
bits_append [] ys h k i = k i
bits_append (x ∷ xs) ys h k zero = h 0
bits_append (x ∷ xs) ys h k (suc i) = bits_append xs ys (λ n. h (suc n)) k i

one_fits : (w : ℕ) → FitsAll (of_bits binary64 w ∷ [])
one_fits w zero = of_bits-fits binary64 w
one_fits w (suc i) = nan-fits binary64

floats_fit : (n : ℕ) (b : List ℕ) → FitsAll (floats_of n b)
unfolding floats_of
floats_fit zero b = λ i. nan-fits binary64
floats_fit (suc n) b = bits_append (floats_of n b) (float_at b (8 * n) ∷ []) (floats_fit n b) (one_fits (long_at b (8 * n)))

zeros_fit : (n : ℕ) → FitsAll (replicate n (of_bits binary64 0))
zeros_fit zero i = nan-fits binary64
zeros_fit (suc n) zero = of_bits-fits binary64 0
zeros_fit (suc n) (suc i) = zeros_fit n i

numbers_fit : (l : Layout) (p : List ℕ) → FitsAll (numbers_of l p)
unfolding numbers_of
numbers_fit l p =
    bits_append (floats_of l.floats (drop l.bytes p)) (replicate (10 - l.floats) (of_bits binary64 0))
    (floats_fit l.floats (drop l.bytes p)) (zeros_fit (10 - l.floats))

-- ---- a solid

module _ (n v : List Float) (h : FitsAll n) (k : FitsAll v) where
  point_fits : (i : ℕ) → FitsV (point_at n i)
  point_fits i = record { x = h i; y = h (i + 1); z = h (i + 2) }

  pointed_fits : (kind : ℕ) → FitsSolid (pointed kind n) v
  unfolding pointed
  pointed_fits kind = go (eqb kind 0) (eqb kind 2) (eqb kind 3) (eqb kind 4)
    where
      go : (a b c d : Bool) → FitsSolid
          (cond a (Box (point_at n 0) (point_at n 3))
          (cond b (Sphere (point_at n 0) (number n 3))
          (cond c (SphericalShell (point_at n 0) (number n 3) (number n 4))
          (cond d (Cylinder (point_at n 0) (point_at n 3) (number n 6))
          (CylindricalShell (point_at n 0) (point_at n 3) (number n 6) (number n 7)))))) v
      go true b c d = (point_fits 0, point_fits 3)
      go false true c d = point_fits 0
      go false false true d = point_fits 0
      go false false false true = tt
      go false false false false = tt

  shape_fits : (kind normal axis : ℕ) → FitsSolid (shape_of kind normal axis n) v
  unfolding shape_of
  shape_fits kind normal axis = go (eqb kind 1) (eqb kind 6) (eqb kind 7) (eqb kind 8) (eqb kind 9)
    where
      go : (a b c d e : Bool) → FitsSolid
          (cond a MultiBox
          (cond b (Polygon normal (number n 0))
          (cond c (LinPoly normal (number n 0) (number n 1))
          (cond d (RotPoly normal (number n 0) axis (number n 1) (number n 2))
          (cond e (Wire (number n 0))
          (pointed kind n)))))) v
      go true b c d e = k
      go false true c d e = tt
      go false false true d e = tt
      go false false false true e = tt
      go false false false false true = k
      go false false false false false = pointed_fits kind

job_fits : (s : Settings) (tag : ℕ) (p : List ℕ) → FitsSolid (job_of s tag p).shape (job_of s tag p).list
unfolding job_of solid_of
job_fits s tag p =
    shape_fits (numbers_of (layout_of tag 0) p) (floats_of (length (list_bytes tag p) / 8) (list_bytes tag p))
    (numbers_fit (layout_of tag 0) p) (floats_fit (length (list_bytes tag p) / 8) (list_bytes tag p))
    (tag - 0x10) (get_or p 0 0) (get_or p 1 0)

-- ---- the solids in order

pub jobs_fit : (s : Settings) (fs : List Field) → AllFitting (jobs_from s fs)
unfolding jobs_from
jobs_fit s [] = tt
jobs_fit s (f ∷ fs) = go (is_solid f.tag) (jobs_from (settings_after s f.tag p) fs) (jobs_fit (settings_after s f.tag p) fs)
  where
    p : List ℕ
    p = payload_of f.after

    go : (b : Bool) (js : List Job) → AllFitting js → AllFitting (cond b (job_of s f.tag p ∷ []) [] ++ js)
    go true js h = (job_fits s f.tag p, h)
    go false js h = h

-- of every file, refused or not
pub file_fits : (file : List ℕ) → AllFitting (jobs_of file)
unfolding jobs_of
file_fits file = jobs_fit start_settings (fields_of file)
