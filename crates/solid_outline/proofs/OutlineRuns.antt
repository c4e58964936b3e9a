-- Extruded and rotated outlines, from the grids and the caps that were welded. Assumes nothing.
use mathlib.Core.Path.{◌≡◌, refl, sym, ap, ◌∙◌, subst}
use mathlib.Core.Bool.{Bool, true, false, cond, not}
use mathlib.Core.List.{List, [], ◌∷◌, ◌++◌, map, append-nil}
use Prim.Native.Nat.{ℕ, zero, suc, ◌+◌, ◌-◌, ◌*◌, ◌/◌, ◌%◌, ◌≤◌, ◌<◌, min}
use native.Mathlib.Omega.{arith}
use native.Mathlib.Nat.{mod-eq_of_lt}
use borrow.Author.Tests.{lt-ltb, le-ltb, eq-eqb, ne_eqb}
use lib.Dec.{ltb, eqb}
use lib.ListN.{length, length-append, length-take}
use lib.Ieee.{Float, binary64, add, sub, ne, lt, of_bits}
use Rattle.weld.specs.declared.Welding.{Welding}
use Rattle.weld.specs.Rep.{Ready}
use Rattle.weld.specs.Welding.{held_by, Welds, welds_none, welds_then, welds_as}
use Rattle.ieee.specs.Number.{absolute, tau}
use Rattle.trig_spec.specs.Trig.{sin_cos}
use Rattle.math.specs.declared.Vec3.{Vec3}
use Rattle.mesh_balance_spec.specs.Soup.{Tri, map_tri, flip_tri}
use Rattle.outline.specs.Corners.{point}
use Rattle.outline.specs.declared.Point.{Point}
use Rattle.outline.specs.declared.Axes.{Axes}
use Rattle.outline.specs.Axes.{plane_axes}
use Rattle.outline.specs.Clean.{ends_in, pushed, gathered, stay, clean_polygon}
use Rattle.outline.specs.Area.{signed_area}
use Rattle.outline.specs.Ccw.{swapped, reversed, ccw_polygon, prepared}
use Rattle.outline.proofs.Copies.{length_reversed, length_swapped}
use Rattle.surface.specs.Within.{ExtrudedWithin, RotatedWithin}
use Rattle.shape_arc.specs.ArcLaws.{arc_segments_some}
use Rattle.shape_arc.proofs.ArcLawsHeld.{arc_segments_few}
use Rattle.surface_spec.specs.declared.Surface.TheVariants.{Extruded, Rotated}
use Rattle.shape_arc.specs.Arc.{arc_segments, is_full}
use Rattle.surface_spec.specs.declared.Surface.{Surface}
use Rattle.solid_spec.specs.Grid.{Soup, grid}
use Rattle.solid_spec.specs.Outline.{plane_point, caps, corner_at, extruded_sides, extruded_from, angle, spun, turned_at, turned_sides, turned_from, rotated_from}
use Rattle.solid_spec.specs.Outline.{height}
use Rattle.solid_spec.specs.Polygons.{cap_triangles, extruded_polygon, radial_axis, swaps, rotpoly}
use Rattle.surface_spec.specs.Surface.{surface_at}
use Rattle.surface_spec.proofs.SurfaceGrids.{extruded_surface, rotated_surface}
use Rattle.std.specs.Prelude.{Option}
use Rattle.std.specs.Prelude.{Some}
use Rattle.std.specs.Option.{unwrap_or}
use Rattle.solid_grid.specs.declared.sheet.Sheet.{Sheet}
use Rattle.solid_caps.specs.Caps.{caps_of}
use Rattle.solid_caps.specs.Ends.{CapsWithin}
use Rattle.solid_outline.specs.Turned.{turn_span, turn_of}
use Rattle.solid_outline.proofs.Numbers.{BelowAll, caps_below}

-- preparing adds no corners
pushed_short : (o : List Float) (p : Point) → length (pushed o p) ≤ length o + 2
unfolding pushed
pushed_short o p = go (ends_in o p)
  where
    go : (b : Bool) → length (cond b o (o ++ (p.x ∷ p.y ∷ []))) ≤ length o + 2
    go true = omega arith
    go false = omega (arith, length-append o (p.x ∷ p.y ∷ []))

gathered_short : (o v : List Float) → length (gathered o v) ≤ length o + length v
unfolding gathered
gathered_short o [] = omega arith
gathered_short o (x ∷ []) = omega arith
gathered_short o (x ∷ y ∷ v) = omega (arith, gathered_short (pushed o (record { x = x; y = y })) v, pushed_short o (record { x = x; y = y }))

clean_short : (v : List Float) → length (clean_polygon v) ≤ length v
unfolding clean_polygon
clean_short v = omega (arith, length-take (2 * stay (gathered [] v) (length (gathered [] v) / 2)) (gathered [] v), gathered_short [] v)

ccw_short : (v : List Float) → length (ccw_polygon v) ≤ length v
unfolding ccw_polygon
ccw_short v = go (lt (signed_area (clean_polygon v)) (of_bits binary64 0))
  where
    go : (b : Bool) → length (cond b (reversed (clean_polygon v)) (clean_polygon v)) ≤ length v
    go true = omega (arith, length_reversed (clean_polygon v), clean_short v)
    go false = clean_short v

prepared_short : (swap : Bool) (v : List Float) → length (prepared swap v) ≤ length v
unfolding prepared
prepared_short true v = omega (arith, ccw_short (swapped v), length_swapped v)
prepared_short false v = ccw_short v

pub ccw_few : (v : List Float) (r : ℕ) → 2 * r ≡ length (ccw_polygon v) → length v ≤ 1024 → 2 * r ≤ 1024
ccw_few v r e h = omega (arith, e, ccw_short v)

pub prepared_few : (swap : Bool) (v : List Float) (r : ℕ) → 2 * r ≡ length (prepared swap v) → length v ≤ 1024 → 2 * r ≤ 1024
prepared_few swap v r e h = omega (arith, e, prepared_short swap v)

-- what the surfaces ask
pub extruded_within : (n : ℕ) (p : List Float) → n < 3 → 3 ≤ length p / 2 → ExtrudedWithin p n (length p / 2)
extruded_within n p h l = record { axis = h; some = omega arith; held = omega arith }

pub rotated_within : (p : List Float) (segments n j : ℕ) (span : Float) → 3 ≤ length p / 2 → segments ≤ 1024 → n ≡ arc_segments segments span → j ≤ n → RotatedWithin p (length p / 2) n j
rotated_within p segments n j span l h e k =
    record {
      some = omega arith;
      held = omega arith;
      steps = omega (arith, e, arc_segments_some segments span);
      few = omega (arith, e, arc_segments_few segments span h);
      last = k;
    }

-- the column of the other end
pub caps_at : (x : Sheet) (n j : ℕ) → Some n ≡ Some j → CapsWithin x n → CapsWithin x j
caps_at x n j e C = subst (λ (o : Option ℕ). CapsWithin x (unwrap_or o n)) e C

-- triangles of corner numbers see only points below the number of corners
module _ (n : ℕ) (f f' g g' : ℕ → Vec3) (p : (i : ℕ) → i < n → f i ≡ f' i) (q : (i : ℕ) → i < n → g i ≡ g' i) where
  tri_cong : (f f' : ℕ → Vec3) → ((i : ℕ) → i < n → f i ≡ f' i) → (t : Tri ℕ) → t.0 < n → t.1 < n → t.2 < n → map_tri f t ≡ map_tri f' t
  tri_cong f f' e t a b c =
      ap (λ (x : Vec3). (x, f t.1, f t.2)) (e t.0 a) ∙ ap (λ (x : Vec3). (f' t.0, x, f t.2)) (e t.1 b) ∙ ap (λ (x : Vec3). (f' t.0, f' t.1, x)) (e t.2 c)

  both_cong : (ts : List (Tri ℕ)) → BelowAll n ts → caps_of true f g ts ≡ caps f' g' ts
  both_cong [] h = refl
  both_cong (t ∷ ts) h =
      ap (λ (x : Tri Vec3). x ∷ flip_tri (map_tri g t) ∷ caps_of true f g ts) (tri_cong f f' p t h.0 h.1 h.2)
      ∙ ap (λ (x : Tri Vec3). map_tri f' t ∷ flip_tri x ∷ caps_of true f g ts) (tri_cong g g' q t h.0 h.1 h.2)
      ∙ ap (λ (r : Soup). map_tri f' t ∷ flip_tri (map_tri g' t) ∷ r) (both_cong ts h.3)

  one_cong : (ts : List (Tri ℕ)) → BelowAll n ts → caps_of false f g ts ≡ map (map_tri f') ts
  one_cong [] h = refl
  one_cong (t ∷ ts) h =
      ap (λ (x : Tri Vec3). x ∷ caps_of false f g ts) (tri_cong f f' p t h.0 h.1 h.2)
      ∙ ap (λ (r : Soup). map_tri f' t ∷ r) (one_cong ts h.3)

module _ (n : ℕ) (p : List Float) (lo hi : Float) where
  abbrev extruded_at : ℕ → ℕ → Vec3
  extruded_at = surface_at p (Extruded n (length p / 2) lo hi)

  top : (i : ℕ) → i < length p / 2 → extruded_at i 1 ≡ corner_at n p i hi
  unfolding surface_at height
  top i h = ap (λ (k : ℕ). plane_point n (point p k) hi) (mod-eq_of_lt h)

  bottom : (i : ℕ) → i < length p / 2 → extruded_at i 0 ≡ corner_at n p i lo
  unfolding surface_at height
  bottom i h = ap (λ (k : ℕ). plane_point n (point p k) lo) (mod-eq_of_lt h)

  extruded_is : (ts : List (Tri ℕ)) (b c : Bool) → ltb (length p / 2) 3 ≡ b → ne hi lo ≡ c
      → extruded_from n p ts lo hi ≡ cond b [] (cond c (caps (λ i. corner_at n p i hi) (λ i. corner_at n p i lo) ts ++ extruded_sides n p lo hi) (map (map_tri (λ i. corner_at n p i hi)) ts))
  unfolding extruded_from
  extruded_is ts b c x y =
      ap (λ (t : Bool). cond t [] (cond (ne hi lo) (caps (λ i. corner_at n p i hi) (λ i. corner_at n p i lo) ts ++ extruded_sides n p lo hi) (map (map_tri (λ i. corner_at n p i hi)) ts))) x
      ∙ ap (λ (t : Bool). cond b [] (cond t (caps (λ i. corner_at n p i hi) (λ i. corner_at n p i lo) ts ++ extruded_sides n p lo hi) (map (map_tri (λ i. corner_at n p i hi)) ts))) y

  pub extruded_none : (ts : List (Tri ℕ)) (h : Welding) → Ready (held_by h) → length p / 2 < 3 → Welds (extruded_from n p ts lo hi) h h
  extruded_none ts h R l = welds_as (sym (extruded_is ts true (ne hi lo) (lt-ltb (length p / 2) 3 l) refl)) (welds_none h R)

  pub extruded_both : (h k r : Welding) → 3 ≤ length p / 2 → ne hi lo ≡ true
      → Welds (caps_of true (λ i. surface_at p (Extruded n (length p / 2) lo hi) i 1) (λ i. surface_at p (Extruded n (length p / 2) lo hi) i 0) (cap_triangles p)) h k
      → Welds (grid (length p / 2) 1 false (surface_at p (Extruded n (length p / 2) lo hi))) k r → Welds (extruded_from n p (cap_triangles p) lo hi) h r
  extruded_both h k r m d R Q =
      let c : Soup = caps (λ i. corner_at n p i hi) (λ i. corner_at n p i lo) (cap_triangles p) in
      let x : caps_of true (λ i. extruded_at i 1) (λ i. extruded_at i 0) (cap_triangles p) ≡ c
      = both_cong (length p / 2) (λ i. extruded_at i 1) (λ i. corner_at n p i hi) (λ i. extruded_at i 0) (λ i. corner_at n p i lo) top bottom (cap_triangles p) (caps_below p m) in
      welds_as (sym (extruded_is (cap_triangles p) false true (le-ltb (length p / 2) 3 m) d))
      (welds_then c (extruded_sides n p lo hi) h k r (welds_as x R) (welds_as (sym (extruded_surface p n lo hi)) Q))

  pub extruded_flat : (h k : Welding) → 3 ≤ length p / 2 → ne hi lo ≡ false
      → Welds (caps_of false (λ i. surface_at p (Extruded n (length p / 2) lo hi) i 1) (λ i. surface_at p (Extruded n (length p / 2) lo hi) i 0) (cap_triangles p)) h k
      → Welds (extruded_from n p (cap_triangles p) lo hi) h k
  extruded_flat h k m d R =
      welds_as
      (one_cong (length p / 2) (λ i. extruded_at i 1) (λ i. corner_at n p i hi) (λ i. extruded_at i 0) (λ i. corner_at n p i lo) top bottom (cap_triangles p) (caps_below p m)
      ∙ sym (extruded_is (cap_triangles p) false false (le-ltb (length p / 2) 3 m) d)) R

pub polygon_runs : (n : ℕ) (v p : List Float) (lo hi : Float) (h k : Welding) → p ≡ ccw_polygon v → Welds (extruded_from n p (cap_triangles p) lo hi) h k → Welds (extruded_polygon n v lo hi) h k
unfolding extruded_polygon
polygon_runs n v p lo hi h k e R = welds_as (ap (λ (x : List Float). extruded_from n x (cap_triangles x) lo hi) e) R

module _ (a q : ℕ) (p : List Float) (start stop : Float) (segments : ℕ) where
  abbrev spanned : Float
  spanned = sub binary64 stop start

  rotated_is : (full b : Bool) (n : ℕ) → full ≡ is_full (absolute spanned) → n ≡ arc_segments segments (turn_span full spanned) → ltb (length p / 2) 3 ≡ b
      → cond b [] (turned_from a q p (cap_triangles p) start spanned full n) ≡ rotated_from a q p (cap_triangles p) start stop segments
  unfolding rotated_from turn_span
  rotated_is full b n x y z =
      ap (λ (m : ℕ). cond b [] (turned_from a q p (cap_triangles p) start spanned full m)) y
      ∙ ap (λ (t : Bool). cond b [] (turned_from a q p (cap_triangles p) start spanned t (arc_segments segments (cond t tau spanned)))) x
      ∙ ap (λ (t : Bool). cond t [] (turned_from a q p (cap_triangles p) start spanned (is_full (absolute spanned)) (arc_segments segments (cond (is_full (absolute spanned)) tau spanned)))) (sym z)

  pub rotated_none : (h : Welding) → Ready (held_by h) → length p / 2 < 3 → Welds (rotated_from a q p (cap_triangles p) start stop segments) h h
  rotated_none h R l = welds_as (rotated_is (is_full (absolute spanned)) true (arc_segments segments (turn_span (is_full (absolute spanned)) spanned)) refl refl (lt-ltb (length p /
      2) 3 l)) (welds_none h R)

  spun_at : (full : Bool) (n i j : ℕ) → i < length p / 2 → surface_at p (Rotated a q (length p / 2) full start spanned n) i j ≡ turned_at a q p start spanned full n i j
  unfolding surface_at
  spun_at full n i j h = ap (λ (k : ℕ). spun a q (point p k) (sin_cos (angle full start spanned n j))) (mod-eq_of_lt h)

  turned_is : (full : Bool) (n : ℕ) → 3 ≤ length p / 2 → turn_of p (Rotated a q (length p / 2) full start spanned n) (length p / 2) n full ≡ turned_from a q p (cap_triangles p) start spanned full n
  unfolding turned_from
  turned_is full n m =
      let s : ℕ → ℕ → Vec3 = surface_at p (Rotated a q (length p / 2) full start spanned n) in
      ap (λ (x : Soup). x ++ cond full [] (caps_of true (λ i. s i 0) (λ i. s i n) (cap_triangles p))) (sym (rotated_surface p a q start spanned full n))
      ∙ ap (λ (x : Soup). turned_sides a q p start spanned full n ++ cond full [] x)
      (both_cong (length p / 2) (λ i. s i 0) (λ i. turned_at a q p start spanned full n i 0) (λ i. s i n) (λ i. turned_at a q p start spanned full n i n)
      (λ i o. spun_at full n i 0 o) (λ i o. spun_at full n i n o) (cap_triangles p) (caps_below p m))

  pub rotated_runs : (full : Bool) (n : ℕ) (h k : Welding) → 3 ≤ length p / 2 → full ≡ is_full (absolute spanned) → n ≡ arc_segments segments (turn_span full spanned)
      → Welds (turn_of p (Rotated a q (length p / 2) full start spanned n) (length p / 2) n full) h k → Welds (rotated_from a q p (cap_triangles p) start stop segments) h k
  rotated_runs full n h k m x y R = welds_as (turned_is full n m ∙ rotated_is full false n x y (le-ltb (length p / 2) 3 m)) R

-- the sides and, where the turn is not full, the ends
module _ (p : List Float) (s : Surface) (len n : ℕ) (full : Bool) where
  abbrev sides : Soup
  sides = grid len n true (surface_at p s)

  abbrev ends : Soup
  ends = caps_of true (λ i. surface_at p s i 0) (λ i. surface_at p s i n) (cap_triangles p)

  pub turn_full : (h k : Welding) → full ≡ true → Welds (grid len n true (surface_at p s)) h k → Welds (turn_of p s len n full) h k
  turn_full h k e R = welds_as (sym (append-nil sides) ∙ ap (λ (b : Bool). sides ++ cond b [] ends) (sym e)) R

  pub turn_part : (h k l : Welding) → full ≡ false → Welds (grid len n true (surface_at p s)) h k
      → Welds (caps_of true (λ i. surface_at p s i 0) (λ i. surface_at p s i n) (cap_triangles p)) k l → Welds (turn_of p s len n full) h l
  turn_part h k l e R Q = welds_as (ap (λ (b : Bool). sides ++ cond b [] ends) (sym e)) (welds_then sides ends h k l R Q)

pub rotpoly_runs : (a q normal : ℕ) (swap : Bool) (v p : List Float) (start stop : Float) (segments : ℕ) (h k : Welding) → q ≡ radial_axis a normal → swap ≡ swaps a normal
    → p ≡ prepared swap v → Welds (rotated_from a q p (cap_triangles p) start stop segments) h k → Welds (rotpoly a normal v start stop segments) h k
unfolding rotpoly prepared
rotpoly_runs a q normal swap v p start stop segments h k x y z R =
    welds_as
    (ap (λ (r : ℕ). rotated_from a r p (cap_triangles p) start stop segments) x
    ∙ ap (λ (r : List Float). rotated_from a (radial_axis a normal) r (cap_triangles r) start stop segments) z
    ∙ ap (λ (b : Bool). rotated_from a (radial_axis a normal) (prepared b v) (cap_triangles (prepared b v)) start stop segments) y) R

-- the corners are swapped unless the axes are equal
pub swaps_not : (a normal u q : ℕ) (x : Axes) → x ≡ plane_axes normal → u ≡ x.u → q ≡ radial_axis a normal → u ≡ q → false ≡ swaps a normal
unfolding swaps
swaps_not a normal u q x e f g h =
    let d : (plane_axes normal).u ≡ radial_axis a normal = sym (ap (λ (y : Axes). y.u) e) ∙ sym f ∙ h ∙ g in
    ap not (sym (eq-eqb (plane_axes normal).u (radial_axis a normal) d))

pub swaps_so : (a normal u q : ℕ) (x : Axes) → x ≡ plane_axes normal → u ≡ x.u → q ≡ radial_axis a normal → (u ≡ q → ⊥) → true ≡ swaps a normal
unfolding swaps
swaps_so a normal u q x e f g h =
    ap not (sym (ne_eqb (plane_axes normal).u (radial_axis a normal) (λ d. h (f ∙ ap (λ (y : Axes). y.u) e ∙ d ∙ sym g))))
