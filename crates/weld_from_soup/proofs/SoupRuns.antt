-- A soup welded triangle by triangle, and what it makes. Assumes nothing.
use mathlib.Core.Path.{◌≡◌, sym, ap, ◌∙◌}
use mathlib.Core.Bool.{true, false}
use mathlib.Core.List.{List, [], ◌∷◌}
use Prim.Native.Nat.{ℕ, ◌+◌, ◌/◌}
use lib.ListN.{length}
use lib.Ieee.{Float}
use Rattle.refusal.specs.Answer.{Answer, BadList, ShortWork}
use Rattle.mesh_balance_spec.specs.Buffer.{upto_more}
use Rattle.mesh_spec.proofs.PartsLaws.{from_parts_one}
use Rattle.mesh_made.specs.Made.{Lent, lent, short_work}
use Rattle.mesh_made.specs.Steps.{Makes, parts_refusal, judged}
use Rattle.mesh_made.proofs.Ending.{lent_same, makes_as}
use Rattle.mesh_made.proofs.Judging.{welded_makes}
use Rattle.mesh_spec.specs.Mesh.{from_soup}
use Rattle.weld.specs.declared.Welding.{Welding}
use Rattle.weld.specs.Rep.{held, Ready, Begun}
use Rattle.weld.specs.Welding.{held_by, Welds, NewPart, welds_none, welds_then, welds_as, welds_parts_one}
use Rattle.weld.specs.PartsLaws.{parts_welded}
use Rattle.weld_from_soup.specs.Soups.{triangle_at, first_of, soup_of, broken_soup, soup_refusal}

pub first_none : (l : List Float) (w : Welding) → Ready (held_by w) → Welds (first_of l 0) w w
first_none l w R = welds_none w R

pub first_more : (l : List Float) (i : ℕ) (w m r : Welding) → Welds (first_of l i) w m → Welds (triangle_at l i ∷ []) m r → Welds (first_of l (i + 1)) w r
first_more l i w m r R Q = welds_as (sym (upto_more i (λ j. triangle_at l j ∷ []))) (welds_then (first_of l i) (triangle_at l i ∷ []) w m r R Q)

pub first_all : (l : List Float) (i : ℕ) (w r : Welding) → i ≡ length l / 9 → Welds (first_of l i) w r → Welds (soup_of l) w r
first_all l i w r e R = welds_as (ap (first_of l) e) R

-- ---- what is made

module _ (l : List Float) (n : Lent) where
  pub short : short_work n.vertices n.work ≡ true → ShortWork ≡ soup_refusal l n
  unfolding soup_refusal
  short e = rw e

  pub broken : short_work n.vertices n.work ≡ false → broken_soup l ≡ true → BadList ≡ soup_refusal l n
  unfolding soup_refusal
  broken e f = rw (e, f)

  -- 5 and 7
  after_list : short_work n.vertices n.work ≡ false → broken_soup l ≡ false → parts_refusal (soup_of l ∷ []) n ≡ soup_refusal l n
  unfolding soup_refusal
  after_list e f = rw (e, f)

-- us, ss, xs are the slices before the call, vs and ts after it; b is what `begin` answers, w is the soup welded, r after it
pub soup_makes : (l : List Float) (b w r : Welding) (us : List Float) (ss xs : List ℕ) → short_work (length us) (length xs) ≡ false → broken_soup l ≡ false
    → Begun b.st b.vertices.now b.work.now → Welds (soup_of l) b w → NewPart w r
    → length r.vertices.now ≡ length us → length r.triangles.now ≡ length ss → length r.work.now ≡ length xs
    → {vs : List Float} {ts : List ℕ} → vs ≡ r.vertices.now → ts ≡ r.triangles.now
    → Makes (soup_refusal l (lent us ss xs)) (from_soup (soup_of l)) (judged r.st vs) vs ts
soup_makes l b w r us ss xs enough whole B R P lv lt lw e f =
    let soup = soup_of l in
    rw (e, f) (makes_as
    (ap {B = Answer} (parts_refusal (soup ∷ [])) (lent_same r.vertices.now us r.triangles.now ss r.work.now xs lv lt lw) ∙ after_list l (lent us ss xs) enough whole)
    (from_parts_one soup)
    (welded_makes (soup ∷ []) (held_by r) (parts_welded (soup ∷ []) b.st b.vertices.now b.triangles.now b.work.now (held_by r) B (welds_parts_one soup b w r R P).runs)))
