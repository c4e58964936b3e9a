-- A point is among the first n vertices exactly where one of them equals it. Assumes nothing.
use Rattle.std.specs.Prelude.{◌≡◌, Bool, ◌||◌, List, length, Float}
use Rattle.std.proofs.Math.Path.{refl}
use Rattle.std.proofs.Common.{sym, ap, ◌∙◌, arith}
use Rattle.std.proofs.Math.Bool.{true, false, or-true}
use Prim.Native.Nat.{ℕ, zero, suc, ◌/◌, ◌<◌}
use borrow.Author.Tests.{ltb-true, ltb-false}
use Rattle.std.proofs.Math.Dec.{ltb}
use Rattle.math.specs.declared.Vec3.{Vec3}
use Rattle.weld_vertex.specs.Points.{is_at}
use Rattle.figures_same.specs.Vertices.{has_vertex}

module _ (v : List Float) (p : Vec3) where
  -- vertex m is there and equals p
  abbrev pub here : ℕ → Bool
  here m = is_at v 0 (length v / 3) p m

  pub no_vertex : (n : ℕ) → ((m : ℕ) → m < n → here m ≡ false) → has_vertex v n p ≡ false
  unfolding has_vertex
  no_vertex zero h = refl
  no_vertex (suc n) h = rw (no_vertex n (λ m k. h m (omega arith)), h n (omega arith))

  pub a_vertex : (n m : ℕ) → m < n → here m ≡ true → has_vertex v n p ≡ true
  unfolding has_vertex
  a_vertex zero m k h = absurd (omega arith)
  a_vertex (suc n) m k h = go (ltb m n) refl (a_vertex n m)
    where
      go : (b : Bool) → ltb m n ≡ b → (m < n → here m ≡ true → has_vertex v n p ≡ true) → (has_vertex v n p || here n) ≡ true
      go true e before = rw (before (ltb-true m n e) h)
      go false e before =
          let last : m ≡ n = omega (arith, ltb-false m n e) in
          rw (ap here (sym last) ∙ h) (or-true (has_vertex v n p))
