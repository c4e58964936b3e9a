-- What the rows show of a point. Assumes nothing.
use mathlib.Core.Path.{◌≡◌, refl, sym, ap, ◌∙◌}
use mathlib.Core.Bool.{Bool, true, false, cond}
use mathlib.Core.List.{List}
use Prim.Native.Nat.{ℕ, ◌-◌, ◌<◌}
use native.Mathlib.Omega.{arith}
use lib.Ieee.{Float}
use borrow.Author.Tests.{eq-eqb, ne_eqb}
use Rattle.math.specs.declared.Vec3.{Vec3}
use Rattle.mesh_spec.specs.Slices.{vertex_at}
use Rattle.weld_vertex.specs.Points.{Clean}
use Rattle.weld_hash.specs.Hash.{Distinct}
use Rattle.weld_vertex.proofs.Clean.{same_data}
use Rattle.slice_law.specs.Bools.{not_both}
use Rattle.std.specs.Prelude.{Option, Some, None}
use Rattle.weld_order.specs.declared.Row.{Row}
use Rattle.weld_order.specs.Rows.{among, first_row, next_row, Follows}
use Rattle.weld.specs.declared.Welder.{Welder}
use Rattle.weld.specs.Rep.{row_of, InRows}
use Rattle.weld.specs.States.{foreseen, Foresees}

-- none of this part is in a chain where it has no vertices
no_choice : (b : Bool) (m n : ℕ) → m ≡ n → cond b m n ≡ m
no_choice true m n e = refl
no_choice false m n e = sym e

module _ (w : Welder) (vs : List Float) (p : Vec3) where
  abbrev last : Vec3
  last = vertex_at vs (w.count - 1)

  -- ---- which answer `foresee` gives
  pub answer_first : w.base ≡ w.count → Some (first_row p) ≡ foreseen w vs p
  unfolding foreseen
  answer_first e = rw (eq-eqb w.base w.count e)

  pub answer_loose : w.base < w.count → w.ordered ≡ false → None ≡ foreseen w vs p
  unfolding foreseen
  answer_loose l o = rw (ne_eqb w.base w.count (λ e. omega arith), o)

  pub answer_ordered : (b : Bool) → w.base < w.count → w.ordered ≡ true → (v : Vec3) → v ≡ last → among (row_of w) v p ≡ b
      → cond {A = Option Row} b None (Some (next_row (row_of w) v p)) ≡ foreseen w vs p
  unfolding foreseen
  answer_ordered b l o v e a =
      sym (λ i. cond {A = Option Row} b None (Some (next_row (row_of w) (sym e i) p)))
      ∙ rw (ne_eqb w.base w.count (λ q. omega arith), o, sym (ap {B = Bool} (λ (u : Vec3). among (row_of w) u p) e) ∙ a)

  -- the first point of a part
  pub first_seen : w.base ≡ w.count → among (first_row p) p p ≡ true → Foresees w vs p (Some (first_row p))
  first_seen e h =
      record {
        answer = answer_first e;
        shows = record {
          missing = λ m a k. absurd (omega arith);
          row = record { has = h; keeps = λ m a k. absurd (omega arith) };
          loose = no_choice w.ordered w.base w.count e;
        };
      }

  -- a point that is not among those of the rows
  pub next_seen : Distinct vs w.places w.base w.count → InRows w vs → Clean p → w.ordered ≡ true → (v : Vec3) → v ≡ vertex_at vs (w.count - 1) → among (row_of w) v p ≡ false
      → w.base < w.count → Follows (row_of w) v p (next_row (row_of w) v p) → Foresees w vs p (Some (next_row (row_of w) v p))
  next_seen S I cp e v h o l F =
      record {
        answer = answer_ordered false l e v h o;
        shows = record {
          missing = λ m a k s. not_both (among (row_of w) v p) (sym (ap (among (row_of w) v) (same_data (vertex_at vs m) p (S.clean m k) cp s)) ∙ ap (λ (u : Vec3). among (row_of w) u (vertex_at vs m)) h ∙ I e m a k) o;
          row = record {
            has = F.has;
            keeps = λ m a k. F.keeps (vertex_at vs m) (S.clean m k) (ap (λ (u : Vec3). among (row_of w) u (vertex_at vs m)) h ∙ I e m a k);
          };
          loose = ap (λ (b : Bool). cond b w.base w.count) e;
        };
      }
