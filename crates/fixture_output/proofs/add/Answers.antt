-- `fixture_output::add` meets its contract. Assumes nothing.
use borrow.Author.Rules.{rules}
use Prim.Native.Nat.{ℕ, ◌+◌, ◌-◌, ◌*◌, ◌%◌}
use native.Mathlib.Omega.{arith}
use lib.ListN.{length, take, length-take}
use Rattle.fixture_output.proofs.Added as Added
use Rattle.fixture_output.proofs.add.Goals as goal

pub returns-then-n-at : goal.returns-then-n-at
returns-then-n-at c =
    let s = c in
    let a = s.args in
    Added.full a.out.now a.vertices.now a.triangles.now a.vertex_count a.triangle_count s.requires (omega arith)

pub slice_bounds-put_words_back-end-2 : goal.slice_bounds-put_words_back-end-2
slice_bounds-put_words_back-end-2 c =
    let s = c in
    let a = s.args in
    Added.reaches a.out.now a.vertices.now a.triangles.now a.vertex_count a.triangle_count s.requires (omega arith)
    c.put_floats.new.b c.out-1.given.0

pub put_words_back-requires : goal.put_words_back-requires
put_words_back-requires c =
    let s = c in
    let a = s.args in
    record {
      room =
          Added.enough a.out.now a.vertices.now a.triangles.now a.vertex_count a.triangle_count s.requires (omega arith)
          c.put_floats.new.b c.out-1.given.0;
      below = s.requires.below;
    }

pub returns : goal.returns
returns c =
    let s = c in
    let a = s.args in
    Added.more a.out.now a.vertices.now a.triangles.now a.vertex_count a.triangle_count s.requires (omega arith) _ _
    c.put_floats.ensures c.put_words_back.ensures
