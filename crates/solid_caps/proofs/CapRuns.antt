-- The cap triangles that were clipped, and the loop over them. Assumes nothing.
use mathlib.Core.Path.{◌≡◌, refl, sym, ap, ◌∙◌}
use mathlib.Core.Bool.{Bool, true, false}
use mathlib.Core.List.{List, [], ◌∷◌, ◌++◌, append_assoc, append-nil}
use Prim.Native.Nat.{ℕ, zero, suc, ◌+◌, ◌*◌, ◌/◌, ◌≤◌, ◌<◌}
use native.Mathlib.Omega.{arith}
use lib.ListN.{length, get_or, take, drop}
use lib.Seq.{take-append_seam}
use lib.Ieee.{Float}
use Rattle.weld.specs.declared.Welding.{Welding}
use Rattle.weld.specs.Rep.{Ready}
use Rattle.weld.specs.Welding.{held_by, Welds, welds_none, welds_then, welds_as}
use Rattle.math.specs.declared.Vec3.{Vec3}
use Rattle.mesh_balance_spec.specs.Soup.{Tri, map_tri, flip_tri}
use Rattle.mesh_balance_spec.specs.Buffer.{tris}
use Rattle.outline_triangulate.specs.Triangulate.{Clipping, triangulate_polygon}
use Rattle.outline_triangulate.specs.declared.Cut.{Cut}
use Rattle.outline_triangulate.specs.Slices.{CutAs}
use Rattle.solid_spec.specs.Grid.{Soup}
use Rattle.solid_spec.specs.Polygons.{cap_triangles}
use Rattle.std.specs.Prelude.{Option}
use Rattle.std.specs.Option.{is_some, unwrap_or}
use Rattle.solid_grid.specs.declared.sheet.Sheet.{Sheet}
use Rattle.solid_caps.specs.Caps.{cap_of, caps_of}
use Rattle.solid_caps.specs.Ends.{points_at}

-- 3 * t, by three successors
abbrev thrice : ℕ → ℕ
thrice zero = zero
thrice (suc t) = suc (suc (suc (thrice t)))

thrice_is : (t : ℕ) → thrice t ≡ 3 * t
thrice_is zero = omega arith
thrice_is (suc t) = omega (arith, thrice_is t)

-- one triangle more
step : (t : ℕ) (l : List ℕ) → thrice t + 3 ≤ length l → tris (take (thrice (suc t)) l)
    ≡ tris (take (thrice t) l) ++ ((get_or l (thrice t) 0, get_or l (suc (thrice t)) 0, get_or l (suc (suc (thrice t))) 0) ∷ [])
step t [] h = absurd (omega arith)
step t (a ∷ []) h = absurd (omega arith)
step t (a ∷ b ∷ []) h = absurd (omega arith)
step zero (a ∷ b ∷ c ∷ r) h = refl
step (suc t) (a ∷ b ∷ c ∷ r) h = ap {B = List (Tri ℕ)} (λ (x : List (Tri ℕ)). (a, b, c) ∷ x) (step t r (omega arith))

whole : (m : ℕ) (l : List ℕ) → thrice m ≤ length l → length l < thrice m + 3 → tris (take (thrice m) l) ≡ tris l
whole zero [] h k = refl
whole zero (a ∷ []) h k = refl
whole zero (a ∷ b ∷ []) h k = refl
whole zero (a ∷ b ∷ c ∷ r) h k = absurd (omega arith)
whole (suc m) [] h k = absurd (omega arith)
whole (suc m) (a ∷ []) h k = absurd (omega arith)
whole (suc m) (a ∷ b ∷ []) h k = absurd (omega arith)
whole (suc m) (a ∷ b ∷ c ∷ r) h k = ap {B = List (Tri ℕ)} (λ (x : List (Tri ℕ)). (a, b, c) ∷ x) (whole m r (omega arith) (omega arith))

module _ (both : Bool) (near far : ℕ → Vec3) where
  caps_append : (xs ys : List (Tri ℕ)) → caps_of both near far (xs ++ ys) ≡ caps_of both near far xs ++ caps_of both near far ys
  caps_append [] ys = refl
  caps_append (x ∷ xs) ys = ap (λ (r : Soup). cap_of both near far x ++ r) (caps_append xs ys) ∙ sym (append_assoc (cap_of both near far x) (caps_of both near far xs) (caps_of both near far ys))

  pub caps_none : (l : List ℕ) (h : Welding) → Ready (held_by h) → Welds (caps_of both near far (tris (take (3 * 0) l))) h h
  caps_none l h R = welds_none h R

  more_is : (t : ℕ) (l : List ℕ) → 3 * t + 3 ≤ length l → caps_of both near far (tris (take (3 * (t + 1)) l))
      ≡ caps_of both near far (tris (take (3 * t) l)) ++ cap_of both near far (get_or l (3 * t) 0, get_or l (3 * t + 1) 0, get_or l (3 * t + 2) 0)
  more_is t l h =
      let a : 3 * (t + 1) ≡ thrice (suc t) = omega (arith, thrice_is t) in
      let b : thrice t ≡ 3 * t = thrice_is t in
      let c : suc (thrice t) ≡ 3 * t + 1 = omega (arith, thrice_is t) in
      let d : suc (suc (thrice t)) ≡ 3 * t + 2 = omega (arith, thrice_is t) in
      let T : ℕ → ℕ → ℕ → Tri ℕ = λ x y z. (get_or l x 0, get_or l y 0, get_or l z 0) in
      ap (λ (k : ℕ). caps_of both near far (tris (take k l))) a
      ∙ ap (caps_of both near far) (step t l (omega (arith, thrice_is t)))
      ∙ caps_append (tris (take (thrice t) l)) (T (thrice t) (suc (thrice t)) (suc (suc (thrice t))) ∷ [])
      ∙ ap (λ (x : Soup). caps_of both near far (tris (take (thrice t) l)) ++ x) (append-nil (cap_of both near far (T (thrice t) (suc (thrice t)) (suc (suc (thrice t))))))
      ∙ ap (λ (k : ℕ). caps_of both near far (tris (take k l)) ++ cap_of both near far (T k (suc (thrice t)) (suc (suc (thrice t))))) b
      ∙ ap (λ (k : ℕ). caps_of both near far (tris (take (3 * t) l)) ++ cap_of both near far (T (3 * t) k (suc (suc (thrice t))))) c
      ∙ ap (λ (k : ℕ). caps_of both near far (tris (take (3 * t) l)) ++ cap_of both near far (T (3 * t) (3 * t + 1) k)) d

  pub caps_more : (t : ℕ) (l : List ℕ) (a b c : ℕ) (h k r : Welding) → t < length l / 3 → a ≡ get_or l (3 * t) 0 → b ≡ get_or l (3 * t + 1) 0 → c ≡ get_or l (3 * t + 2) 0
      → Welds (caps_of both near far (tris (take (3 * t) l))) h k → Welds (cap_of both near far (a, b, c)) k r → Welds (caps_of both near far (tris (take (3 * (t + 1)) l))) h r
  caps_more t l a b c h k r q x y z R Q =
      welds_as
      (ap (λ (i : ℕ). caps_of both near far (tris (take (3 * t) l)) ++ cap_of both near far (i, b, c)) x
      ∙ ap (λ (i : ℕ). caps_of both near far (tris (take (3 * t) l)) ++ cap_of both near far (get_or l (3 * t) 0, i, c)) y
      ∙ ap (λ (i : ℕ). caps_of both near far (tris (take (3 * t) l)) ++ cap_of both near far (get_or l (3 * t) 0, get_or l (3 * t + 1) 0, i)) z
      ∙ sym (more_is t l (omega arith))) (welds_then (caps_of both near far (tris (take (3 * t) l))) (cap_of both near far (a, b, c)) h k r R Q)

  pub caps_all : (t : ℕ) (l : List ℕ) (h k : Welding) → t ≤ length l / 3 → length l / 3 ≤ t → Welds (caps_of both near far (tris (take (3 * t) l))) h k → Welds (caps_of both near far (tris l)) h k
  caps_all t l h k p q R =
      welds_as (ap (λ (n : ℕ). caps_of both near far (tris (take n l))) (sym (thrice_is t)) ∙ ap (caps_of both near far) (whole t l (omega (arith, thrice_is t)) (omega (arith, thrice_is t)))) R

-- one cap triangle by its points
pub cap_one : (both : Bool) (near far : ℕ → Vec3) (a b c : ℕ) (x y z : Vec3) (h k : Welding) → both ≡ false → x ≡ near a → y ≡ near b → z ≡ near c
    → Welds ((x, y, z) ∷ []) h k → Welds (cap_of both near far (a, b, c)) h k
cap_one both near far a b c x y z h k e p q r R =
    welds_as
    (ap (λ (v : Vec3). (v, y, z) ∷ []) p ∙ ap (λ (v : Vec3). (near a, v, z) ∷ []) q ∙ ap (λ (v : Vec3). (near a, near b, v) ∷ []) r
    ∙ ap (λ (t : Bool). cap_of t near far (a, b, c)) (sym e)) R

pub cap_two : (both : Bool) (near far : ℕ → Vec3) (a b c : ℕ) (x y z u v w : Vec3) (h k r : Welding) → both ≡ true → x ≡ near a → y ≡ near b → z ≡ near c
    → u ≡ far a → v ≡ far c → w ≡ far b → Welds ((x, y, z) ∷ []) h k → Welds ((u, v, w) ∷ []) k r → Welds (cap_of both near far (a, b, c)) h r
cap_two both near far a b c x y z u v w h k r e p q s p' q' s' R Q =
    welds_as
    (ap (λ (o : Vec3). (o, y, z) ∷ (u, v, w) ∷ []) p ∙ ap (λ (o : Vec3). (near a, o, z) ∷ (u, v, w) ∷ []) q ∙ ap (λ (o : Vec3). (near a, near b, o) ∷ (u, v, w) ∷ []) s
    ∙ ap (λ (o : Vec3). (near a, near b, near c) ∷ (o, v, w) ∷ []) p' ∙ ap (λ (o : Vec3). (near a, near b, near c) ∷ (far a, o, w) ∷ []) q'
    ∙ ap (λ (o : Vec3). (near a, near b, near c) ∷ (far a, far c, o) ∷ []) s'
    ∙ ap (λ (t : Bool). cap_of t near far (a, b, c)) (sym e)) (welds_then ((x, y, z) ∷ []) ((u, v, w) ∷ []) h k r R Q)

-- the cap triangles at the start of the slice that `triangulate_polygon` left
pub caps_front : (s : Clipping) (r : Cut) (b a : List ℕ) → CutAs s r b a → take (3 * r.triangles) a ≡ s.triangles
caps_front s r b a G =
    ap (λ (n : ℕ). take n a) (sym G.count) ∙ ap (take (length s.triangles)) G.slice ∙ take-append_seam s.triangles (drop (length s.triangles) b)

-- the triangles that the clipper gave
pub ends_run : (both : Bool) (near far : ℕ → Vec3) (p : List Float) (l : List ℕ) (h k : Welding) → l ≡ (triangulate_polygon p).triangles
    → Welds (caps_of both near far (tris l)) h k → Welds (caps_of both near far (cap_triangles p)) h k
unfolding cap_triangles
ends_run both near far p l h k e R = welds_as (ap (λ (x : List ℕ). caps_of both near far (tris x)) e) R

-- the far column by cases
pub cap_as : (x : Sheet) (near : ℕ → Vec3) (t : Tri ℕ) (o p : Option ℕ) (h k : Welding) → o ≡ p → Welds (cap_of (is_some p) near (points_at x (unwrap_or p 0)) t) h k
    → Welds (cap_of (is_some o) near (points_at x (unwrap_or o 0)) t) h k
cap_as x near t o p h k e R = welds_as (ap (λ (q : Option ℕ). cap_of (is_some q) near (points_at x (unwrap_or q 0)) t) (sym e)) R
