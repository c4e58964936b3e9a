-- A head whose words and box are those of the bytes. Assumes nothing.
use mathlib.Core.Path.{◌≡◌}
use mathlib.Core.List.{List}
use Prim.Native.Nat.{ℕ}
use lib.ListN.{get_or}
use Rattle.math.specs.declared.BoundingBox.{BoundingBox}
use Rattle.replay_format.specs.declared.head.Head.{Head}
use Rattle.slice_bytes.specs.Bytes.{word_at}
use Rattle.replay_format.specs.Layout.{bounds_of, head_of}

abbrev with_words : List ℕ → ℕ → ℕ → ℕ → ℕ → ℕ → ℕ → ℕ → ℕ → ℕ → ℕ → BoundingBox → Head
with_words b w0 w1 w2 w3 w4 w5 w6 w7 w8 w9 u =
    record {
      what = get_or b 0 0;
      shape = get_or b 1 0;
      own_system = get_or b 2 0;
      default_system = get_or b 3 0;
      degrees = get_or b 4 0;
      norm_dir = get_or b 5 0;
      rot_axis_dir = get_or b 6 0;
      segments = w0;
      sphere_rings = w1;
      vertex_floats = w2;
      triangle_numbers = w3;
      work_numbers = w4;
      op_count = w5;
      list_floats = w6;
      loaded_numbers = w7;
      vertex_count = w8;
      triangle_count = w9;
      bounds = u;
    }

pub head_is : (b : List ℕ) {w0 w1 w2 w3 w4 w5 w6 w7 w8 w9 : ℕ} {u : BoundingBox}
    → w0 ≡ word_at b 8
    → w1 ≡ word_at b 12
    → w2 ≡ word_at b 16
    → w3 ≡ word_at b 20
    → w4 ≡ word_at b 24
    → w5 ≡ word_at b 28
    → w6 ≡ word_at b 32
    → w7 ≡ word_at b 36
    → w8 ≡ word_at b 40
    → w9 ≡ word_at b 44
    → u ≡ bounds_of b
    → with_words b w0 w1 w2 w3 w4 w5 w6 w7 w8 w9 u ≡ head_of b
unfolding head_of
head_is b e0 e1 e2 e3 e4 e5 e6 e7 e8 e9 e i =
    with_words b (e0 i) (e1 i) (e2 i) (e3 i) (e4 i) (e5 i) (e6 i) (e7 i) (e8 i) (e9 i) (e i)
