-- The beginning, and a new part. Assumes nothing.
use mathlib.Core.Path.{◌≡◌, refl, sym, ap, ◌∙◌, subst}
use mathlib.Core.Bool.{Bool, true, false, cond, true≢false}
use mathlib.Core.List.{List}
use Prim.Native.Nat.{ℕ, zero, suc, ◌*◌, ◌/◌, ◌≤◌, zero-le}
use native.Mathlib.Nat.{not-suc-le-zero, min-le_left}
use native.Mathlib.Omega.{arith}
use lib.ListN.{length, get_or, replicate}
use lib.Ieee.{Float}
use Rattle.mesh_spec.specs.Mesh.{Mesh, append}
use Rattle.mesh_spec.specs.WeldLaws.{append_none}
use Rattle.weld.specs.declared.Welder.{Welder}
use Rattle.weld_hash.specs.Hash.{latest, Distinct, Chained}
use Rattle.weld_hash.proofs.Chains.{agree_same, agree_as, chained_part}
use Rattle.slice.specs.Cleared.{cleared_from}
use Rattle.slice.specs.Every.{counted_places, places_of}
use Rattle.slice.specs.ClearedLaws.{cleared_all}
use Rattle.weld.specs.Rep.{held, indexed, Holds, Over, beginning, Begun, next_part, Parted}
use Rattle.weld.proofs.Places.{places_fit}

zero_distinct : (vs : List Float) (places : ℕ) → 3 * places ≤ length vs → Distinct vs places 0 0
zero_distinct vs places a =
    record { room = a; fits = zero-le; based = zero-le; clean = λ m k. absurd (not-suc-le-zero k); fresh = λ j m g r k. absurd (not-suc-le-zero k) }

zero_chains : (vs : List Float) (ws : List ℕ) (places : ℕ) → 2 * places ≤ length ws → ((k : ℕ) → get_or ws k 0 ≡ 0) → Chained vs ws places 0 0
unfolding latest
zero_chains vs ws places b z = record { links = b; heads = λ d k. agree_as (z d) refl (agree_same 0 0); nexts = λ m a k. absurd (not-suc-le-zero k) }

no_less : (b : Bool) (m n : ℕ) → m ≤ n → cond b m n ≤ n
no_less true m n l = l
no_less false m n l = omega arith

no_more : (b : Bool) (m n : ℕ) → m ≤ n → m ≤ cond b m n
no_more true m n l = omega arith
no_more false m n l = l

zeros : (n k : ℕ) → ◌≡◌ {A = ℕ} (get_or (replicate n 0) k 0) 0
zeros zero k = refl
zeros (suc n) zero = refl
zeros (suc n) (suc k) = zeros n k

-- the work slice was cleared
module _ (ws xs : List ℕ) (e : ws ≡ cleared_from 0 0 xs) (l : length ws ≡ length xs) where
  cleared : ws ≡ replicate (length ws) 0
  cleared = e ∙ cleared_all 0 xs ∙ sym (ap {B = List ℕ} (λ (n : ℕ). replicate n 0) l)

  no_heads : (k : ℕ) → get_or ws k 0 ≡ 0
  no_heads k = ap {B = ℕ} (λ (x : List ℕ). get_or x k 0) (e ∙ cleared_all 0 xs) ∙ zeros (length xs) k

  pub begun : (vs : List Float) (n : ℕ) → n ≡ places_of vs → 2 * (length vs / 3) ≤ length xs → Begun (beginning n) vs ws
  unfolding counted_places append
  begun vs n p b =
      record {
        answer = ap beginning p;
        work = cleared;
        ready = λ ts. record {
          linked = record {
            distinct = zero_distinct vs n (omega (arith, places_fit vs));
            chained = zero_chains vs ws n (omega (arith, min-le_left (length vs / 3) 4294967295)) no_heads;
            places = p;
            rows = λ q m a k. absurd (not-suc-le-zero k);
          };
          faces = zero-le;
        };
        finite = refl;
        room = refl;
        rep = λ ts. record {
          base = λ q. refl;
          holds = λ q. record { vertices = refl; count = refl; triangles = refl; faces = refl };
          over = λ q. absurd (true≢false q);
        };
      }

pub parted : (w : Welder) → Parted w (next_part w)
parted w =
    record {
      answer = refl;
      ready = λ vs ts ws R.
          let C = R.linked.distinct in
          record {
            linked = record {
              distinct = record { room = C.room; fits = C.fits; based = omega arith; clean = C.clean; fresh = λ j m g r k. absurd (omega arith) };
              chained = chained_part vs ws w.places w.base (indexed w) w.count R.linked.chained (no_more w.ordered w.base w.count C.based)
                  (no_less w.ordered w.base w.count C.based);
              places = R.linked.places;
              rows = λ q m a k. absurd (omega arith);
            };
            faces = R.faces;
          };
      finite = refl;
      room = refl;
      rep = λ D S vs ts ws R. record {
        base = λ q. sym (R.holds q).count;
        holds = λ q.
            let H = R.holds q in
            subst (λ (M : Mesh). Holds M (held (next_part w) vs ts ws)) (sym (append_none (append D S)))
            (record { vertices = H.vertices; count = H.count; triangles = H.triangles; faces = H.faces });
        over = λ q. subst (λ (M : Mesh). Over M (held w vs ts ws)) (sym (append_none (append D S))) (R.over q);
      };
    }
