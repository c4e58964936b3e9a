-- The text of each case, from what is put in that case. Assumes nothing.
use mathlib.Core.Path.{◌≡◌}
use mathlib.Core.Bool.{Bool, true, false, ◌&&◌, false≢true}
use mathlib.Core.List.{◌++◌}
use Prim.Native.Nat.{ℕ, ◌-◌, ◌/◌, ◌%◌, ◌≤◌, ◌<◌}
use borrow.Author.Tests.{lt-ltb, le-ltb, ltb-true, eq-eqb, ne_eqb}
use lib.Dec.{eqb, ltb, leb}
use lib.Ieee.{Float, binary64, of_bits, add, sub}
use Rattle.ieee_whole.specs.Whole.{ceiling}
use Rattle.mesh_check.specs.declared.TriMesh.{TriMesh}
use Rattle.slice_text.specs.Ascii.{ascii}
use Rattle.slice_text.specs.Line.{Line, Puts}
use Rattle.slice_text.specs.Numbers.{decimal_of, hex_of}
use Rattle.figures_text.specs.Counts.{refusal_of, counts_of}
use Rattle.figures_text.specs.Floats.{is_whole, is_small_power, by_bits_of, half, magnitude_of, float_bits_of}

pub small_power : (b : ℕ) → is_small_power b ≡ true → b / 4503599627370496 < 1023
unfolding is_small_power
small_power b e = ltb-true _ _ (right (eqb (b % 4503599627370496) 0 && ltb 0 (b / 4503599627370496)) (ltb (b / 4503599627370496) 1023) e)
  where
    right : (s t : Bool) → (s && t) ≡ true → t ≡ true
    right true t h = h
    right false t h = absurd (false≢true h)

pub power_text : (b : ℕ) {l m : Line} → is_small_power b ≡ true → Puts (ascii "2^-" ++ decimal_of (1023 - b / 4503599627370496)) l m → Puts (by_bits_of b) l m
unfolding by_bits_of
power_text b e p = rw e p

pub inf_text : (b : ℕ) {l m : Line} → is_small_power b ≡ false → b ≡ 0x7FF0000000000000 → Puts (ascii "inf") l m → Puts (by_bits_of b) l m
unfolding by_bits_of
inf_text b e i p = rw (e, eq-eqb b _ i) p

pub nan_text : (b : ℕ) {l m : Line}
    → is_small_power b ≡ false → (b ≡ 0x7FF0000000000000 → ⊥) → 0x7FF0000000000000 < b → Puts (ascii "NaN") l m → Puts (by_bits_of b) l m
unfolding by_bits_of
nan_text b e i h p = rw (e, ne_eqb b _ i, lt-ltb _ b h) p

pub bits_text : (b : ℕ) {l m : Line}
    → is_small_power b ≡ false → (b ≡ 0x7FF0000000000000 → ⊥) → b ≤ 0x7FF0000000000000 → Puts (hex_of b) l m → Puts (by_bits_of b) l m
unfolding by_bits_of
bits_text b e i h p = rw (e, ne_eqb b _ i, le-ltb _ b h) p

pub whole_text : (b : ℕ) {y : Float} {k : ℕ} {l m : Line}
    → y ≡ of_bits binary64 b → is_whole y ≡ true → k ≡ ceiling y → Puts (decimal_of k) l m → Puts (magnitude_of b) l m
unfolding magnitude_of
whole_text b ey ew ek p = rw (← ey, ew, ← ek) p

pub half_text : (b : ℕ) {y : Float} {k : ℕ} {l m : Line}
    → y ≡ of_bits binary64 b → is_whole y ≡ false → is_whole (add binary64 y y) ≡ true → k ≡ ceiling (sub binary64 y half)
    → Puts (decimal_of k ++ ascii ".5") l m → Puts (magnitude_of b) l m
unfolding magnitude_of
half_text b ey ew eh ek p = rw (← ey, ew, eh, ← ek) p

pub other_text : (b : ℕ) {y : Float} {l m : Line}
    → y ≡ of_bits binary64 b → is_whole y ≡ false → is_whole (add binary64 y y) ≡ false → Puts (by_bits_of b) l m → Puts (magnitude_of b) l m
unfolding magnitude_of
other_text b ey ew eh p = rw (← ey, ew, eh) p

pub minus_text : (b : ℕ) {l m : Line} → leb 9223372036854775808 b ≡ true → Puts (ascii "-" ++ magnitude_of (b % 9223372036854775808)) l m
    → Puts (float_bits_of b) l m
unfolding float_bits_of
minus_text b e p = rw e p

pub plain_text : (b : ℕ) {l m : Line} → leb 9223372036854775808 b ≡ false → Puts (magnitude_of (b % 9223372036854775808)) l m → Puts (float_bits_of b) l m
unfolding float_bits_of
plain_text b e p = rw e p

pub refused_counts : (n : ℕ) (m : TriMesh) {l k : Line} → 0 < n → Puts (refusal_of n) l k → Puts (counts_of n m) l k
unfolding counts_of
refused_counts n m h p = rw (lt-ltb 0 n h) p

pub counts_text : (n : ℕ) (m : TriMesh) {l k : Line}
    → n ≤ 0 → Puts (decimal_of m.vertices ++ (ascii " vertices, " ++ (decimal_of m.triangles ++ ascii " triangles"))) l k → Puts (counts_of n m) l k
unfolding counts_of
counts_text n m h p = rw (le-ltb 0 n h) p
