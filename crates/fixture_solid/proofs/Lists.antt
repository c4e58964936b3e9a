-- The numbers and the list of a solid in the file's bytes. Assumes nothing.
use mathlib.Core.Path.{◌≡◌, refl, sym, ap, ◌∙◌}
use mathlib.Core.List.{List, [], ◌∷◌, ◌++◌}
use Prim.Native.Nat.{ℕ, zero, suc, ◌+◌, ◌*◌, ◌-◌, ◌/◌, ◌≤◌}
use native.Mathlib.Omega.{arith}
use lib.ListN.{length, get_or, take, drop, replicate, length-take, length-drop}
use lib.Seq.{get_or-take, drop-drop, take-nil}
use lib.Ieee.{Float, binary64, of_bits}
use Rattle.slice_bytes.specs.Bytes.{word_at, long_at}
use Rattle.slice_byte_lists.specs.Lists.{floats_of}
use Rattle.shape.specs.declared.Shape.{Shape}
use Rattle.fixture_spec.specs.declared.Layout.{Layout}
use Rattle.fixture_spec.specs.Fields.{size_of, payload_of, layout_of, fixed_bytes}
use Rattle.fixture_spec.specs.Solids as Solids
use Rattle.fixture_payload.proofs.Part.{part, part_is, whole_length}
use Rattle.fixture_solid.specs.Field.{Numbers, payload_at, SolidHere, IsField}

-- ---- floats in a part of the bytes

word_take : (k : ℕ) (l : List ℕ) (at : ℕ) → at + 4 ≤ k → word_at (take k l) at ≡ word_at l at
unfolding word_at
word_take k l at h =
    rw (
      get_or-take k l at 0 (omega arith),
      get_or-take k l (at + 1) 0 (omega arith),
      get_or-take k l (at + 2) 0 (omega arith),
      get_or-take k l (at + 3) 0 (omega arith),
    )

long_take : (k : ℕ) (l : List ℕ) (at : ℕ) → at + 8 ≤ k → long_at (take k l) at ≡ long_at l at
unfolding long_at
long_take k l at h = rw (word_take k l at (omega arith), word_take k l (at + 4) (omega arith))

pub floats_take : (m k : ℕ) (l : List ℕ) → 8 * m ≤ k → floats_of m (take k l) ≡ floats_of m l
unfolding floats_of
floats_take zero k l h = refl
floats_take (suc m) k l h = rw (floats_take m k l (omega arith), long_take k l (8 * m) (omega arith))

none : (n : ℕ) → n ≡ n - 0
none n = omega arith

less : (n i : ℕ) → n - i ≡ suc n - suc i
less n i = omega arith

drop_take : (i n : ℕ) (l : List ℕ) → i ≤ n → drop i (take n l) ≡ take (n - i) (drop i l)
drop_take zero n l h = ap (λ (k : ℕ). take k l) (none n)
drop_take (suc i) zero l h = let no : ◌≡◌ {A = ℕ} 0 1 = omega arith in cc
drop_take (suc i) (suc n) [] h = sym (take-nil (suc n - suc i))
drop_take (suc i) (suc n) (b ∷ l) h = drop_take i n l (omega arith) ∙ ap (λ (k : ℕ). take k (drop i l)) (less n i)

-- zeros behind the first few
pub zeros_left : (n m : ℕ) (z : Float) → n ≤ m → drop n (replicate m z) ≡ replicate (m - n) z
zeros_left zero m z h = ap (λ (k : ℕ). replicate k z) (none m)
zeros_left (suc n) zero z h = let no : ◌≡◌ {A = ℕ} 0 1 = omega arith in cc
zeros_left (suc n) (suc m) z h = zeros_left n m z (omega arith) ∙ ap (λ (k : ℕ). replicate k z) (less m n)

-- ---- the numbers of a solid

-- ten zeros
abbrev zeros : List Float
zeros = replicate 10 (of_bits binary64 0)

module _ (l : Layout) (p : List ℕ) (ok : Numbers l p) (from n : ℕ) (a : from ≡ l.bytes) (b : n ≡ l.floats) where
  pub starts : from ≤ length p
  unfolding fixed_bytes
  starts = omega (arith, ok.long)

  pub taken : n ≡ length (take n zeros)
  taken = omega (arith, length-take n zeros, ok.few)

  pub room : 8 * length (take n zeros) ≤ length (part p from)
  unfolding fixed_bytes
  room = omega (arith, ok.long, taken, ap length (part_is p from), length-drop from p)

  pub numbers_are : (got : List Float) → got ≡ floats_of (length (take n zeros)) (part p from) → got ++ drop n zeros ≡ Solids.numbers_of l p
  unfolding Solids.numbers_of
  numbers_are got e =
      ap (λ (x : List Float). x ++ drop n zeros) (e ∙ ap (λ (k : ℕ). floats_of k (part p from)) (sym taken) ∙ ap (floats_of n) (part_is p from))
      ∙ ap (λ (x : List Float). floats_of n (drop from p) ++ x) (zeros_left n 10 (of_bits binary64 0) (omega (arith, ok.few)))
      ∙ (λ i. floats_of (b i) (drop (a i) p) ++ replicate (10 - b i) (of_bits binary64 0))

-- ---- the field of a solid

module _ (file : List ℕ) (at : ℕ) (here : SolidHere file at) where
  abbrev fixed : ℕ
  fixed = fixed_bytes (layout_of (get_or file at 0) 0)

  abbrev size : ℕ
  size = size_of (drop (at + 1) file)

  abbrev listed : List ℕ
  listed = Solids.list_bytes (get_or file at 0) (payload_at file at)

  listed_length : length listed ≡ size - fixed
  unfolding Solids.list_bytes
  listed_length = length-drop fixed (payload_at file at) ∙ ap (λ (k : ℕ). k - fixed) (whole_length file at here.whole)

  listed_is : listed ≡ take (size - fixed) (drop (at + 3 + fixed) file)
  unfolding Solids.list_bytes payload_of
  listed_is =
      drop_take fixed size (drop 2 (drop (at + 1) file)) here.sound
      ∙ ap (take (size - fixed)) (drop-drop fixed 2 (drop (at + 1) file) ∙ drop-drop (2 + fixed) (at + 1) file ∙ ap (λ (k : ℕ). drop k file) sums)
    where
      sums : at + 1 + (2 + fixed) ≡ at + 3 + fixed
      sums = omega arith

  eights : (m : ℕ) → m ≡ (size - fixed) / 8 → 8 * m ≤ size - fixed
  eights m q = omega arith

  pub is_field : (s : Shape) (p : List ℕ) (n f m : ℕ) → p ≡ payload_at file at → n ≡ size → s ≡ Solids.solid_of (get_or file at 0) p → f ≡ fixed
      → m ≡ (n - f) / 8 → IsField file at (record { shape = s; list_at = at + 3 + f; list_floats = m; next = at + 3 + n })
  is_field s p n f m payload long shape place count =
      let q : m ≡ (size - fixed) / 8 = count ∙ ap (λ (k : ℕ). (k - f) / 8) long ∙ ap (λ (k : ℕ). (size - k) / 8) place in
      record {
        shape = shape ∙ ap (Solids.solid_of (get_or file at 0)) payload;
        floats = q ∙ ap (λ (k : ℕ). k / 8) (sym listed_length);
        inside = omega (arith, eights m q, here.whole, here.sound);
        list =
            ap (λ (k : ℕ). floats_of m (drop (at + 3 + k) file)) place
            ∙ sym (floats_take m (size - fixed) (drop (at + 3 + fixed) file) (eights m q))
            ∙ ap (floats_of m) (sym listed_is);
        next = ap (λ (k : ℕ). at + 3 + k) long;
      }
