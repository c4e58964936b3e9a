-- Points after `+ 0.0`: they are clean, and two clean points that are equal as floats are equal as data; and a point that equals a clean one. Assumes nothing.
use mathlib.Core.Path.{◌≡◌, sym, ap, ◌∙◌, subst}
use mathlib.Core.Bool.{true, ◌&&◌}
use lib.Dec.{T}
use lib.Ieee.{Float, nan, inf, fin, fits, eq, add, of_bits, binary64}
use lib.Ieee.Fits.{add-fits, and_l, and_r}
use lib.Ieee.Scale.{finite}
use Rattle.ieee.specs.Same.{canon, plus_zero_lem, canon_finite, canon_canon, same→canon, eq→same, true_T, T_true, finite_not_nan, eq_refl}
use Rattle.math.specs.declared.Vec3.{Vec3}
use Rattle.math.specs.Vec.{v_finite}
use Rattle.math.specs.Laws.{finite_x, finite_y, finite_z, finite_all}
use Rattle.mesh_spec.specs.Mesh.{same_point, plus_zero_v}
use Rattle.mesh_spec.specs.SelfSame.{zero_bits}
use Rattle.weld_vertex.specs.Points.{CleanFloat, Clean}

pub eq_data : (x y : Float) → CleanFloat x → CleanFloat y → T (eq x y) → x ≡ y
eq_data x y a b e = sym a.canonical ∙ same→canon x y (eq→same binary64 x y a.fit b.fit e) ∙ b.canonical

pub same_data : (p q : Vec3) → Clean p → Clean q → same_point p q ≡ true → p ≡ q
unfolding same_point
same_data p q a b h =
    let t : T (same_point p q) = true_T (same_point p q) h in
    let xy : T (eq p.x q.x && eq p.y q.y) = and_l (eq p.x q.x && eq p.y q.y) (eq p.z q.z) t in
    λ i. record {
      x = eq_data p.x q.x a.cx b.cx (and_l (eq p.x q.x) (eq p.y q.y) xy) i;
      y = eq_data p.y q.y a.cy b.cy (and_r (eq p.x q.x) (eq p.y q.y) xy) i;
      z = eq_data p.z q.z a.cz b.cz (and_r (eq p.x q.x && eq p.y q.y) (eq p.z q.z) t) i;
    }

plus_clean : (x : Float) → T (fits binary64 x) → T (finite x) → CleanFloat (add binary64 x (of_bits binary64 0))
plus_clean x f t =
    let e : add binary64 x (of_bits binary64 0) ≡ canon x = ap (add binary64 x) zero_bits ∙ plus_zero_lem binary64 x f in
    record {
      fit = add-fits binary64 x (of_bits binary64 0);
      finitely = subst (λ (y : Float). T (finite y)) (sym e) (canon_finite x t);
      canonical = ap canon e ∙ canon_canon x ∙ sym e;
    }

pub clean_after : (p : Vec3) → T (fits binary64 p.x) → T (fits binary64 p.y) → T (fits binary64 p.z) → v_finite p ≡ true → Clean (plus_zero_v p)
unfolding plus_zero_v
clean_after p a b c h =
    let t : T (v_finite p) = true_T (v_finite p) h in
    record { cx = plus_clean p.x a (finite_x p t); cy = plus_clean p.y b (finite_y p t); cz = plus_clean p.z c (finite_z p t) }

-- a clean point equals itself
pub clean_self : (p : Vec3) → Clean p → same_point p p ≡ true
unfolding same_point
clean_self p c =
    let e : (x : Float) → CleanFloat x → eq x x ≡ true = λ x h. T_true (eq x x) (eq_refl x (finite_not_nan x h.finitely)) in
    λ i. e p.x c.cx i && e p.y c.cy i && e p.z c.cz i

-- ---- a point that equals a clean one: it is finite, and `+ 0.0` makes it that point
uncanon : (x : Float) → T (finite (canon x)) → T (finite x)
uncanon nan t = t
uncanon (inf s) t = t
uncanon (fin s m e) t = tt

module _ (v x : Float) (c : CleanFloat v) (f : T (fits binary64 x)) (e : T (eq v x)) where
  canon_equal : canon x ≡ v
  canon_equal = sym (same→canon v x (eq→same binary64 v x c.fit f e)) ∙ c.canonical

  finite_equal : T (finite x)
  finite_equal = uncanon x (subst (λ (y : Float). T (finite y)) (sym canon_equal) c.finitely)

  plus_equal : add binary64 x (of_bits binary64 0) ≡ v
  plus_equal = ap (add binary64 x) zero_bits ∙ plus_zero_lem binary64 x f ∙ canon_equal

pub equal_clean : (v p : Vec3) → Clean v → T (fits binary64 p.x) → T (fits binary64 p.y) → T (fits binary64 p.z) → same_point v p ≡ true → (v_finite p ≡ true) × (plus_zero_v p ≡ v)
unfolding same_point plus_zero_v
equal_clean v p cv fx fy fz h =
    let t : T (same_point v p) = true_T (same_point v p) h in
    let xy : T (eq v.x p.x && eq v.y p.y) = and_l (eq v.x p.x && eq v.y p.y) (eq v.z p.z) t in
    let ex : T (eq v.x p.x) = and_l (eq v.x p.x) (eq v.y p.y) xy in
    let ey : T (eq v.y p.y) = and_r (eq v.x p.x) (eq v.y p.y) xy in
    let ez : T (eq v.z p.z) = and_r (eq v.x p.x && eq v.y p.y) (eq v.z p.z) t in
    let tx : T (finite p.x) = finite_equal v.x p.x cv.cx fx ex in
    let ty : T (finite p.y) = finite_equal v.y p.y cv.cy fy ey in
    let tz : T (finite p.z) = finite_equal v.z p.z cv.cz fz ez in (
      T_true (v_finite p) (finite_all p tx ty tz),
      (λ i. record {
        x = plus_equal v.x p.x cv.cx fx ex i;
        y = plus_equal v.y p.y cv.cy fy ey i;
        z = plus_equal v.z p.z cv.cz fz ez i;
      }),
    )
