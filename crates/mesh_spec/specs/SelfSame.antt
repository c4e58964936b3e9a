-- A finite point after `+ 0.0` equals itself: no coordinate is a NaN. Assumes nothing.
use Rattle.std.specs.Prelude.{◌≡◌, refl, Bool, true, false, not, ◌&&◌, cond, ℕ, zero, suc, ◌+◌, ◌-◌, ◌*◌, ◌^◌, T, ltb, Float}
use Rattle.std.proofs.Common.{sym, subst}
use Rattle.std.specs.Bool.{beq}
use Rattle.std.specs.Float.{nan, inf, fin, Format, binary64}
use Rattle.std.specs.Float.Ieee.{is_nan, eq, add, sum, round, units, odd, of_bits, of_fields, prec, low, emax}
use Rattle.std.specs.Float.Ieee.Fits.{and_l, and_r, and_i}
use Rattle.std.specs.Float.Ieee.Scale.{finite}
use Rattle.ieee.specs.Number.{plus_zero}
use Rattle.ieee.specs.Same.{eq_refl, true_T, T_true}
use Rattle.math.specs.declared.Vec3.{Vec3}
use Rattle.math.specs.Vec.{v_finite}
use Rattle.math.specs.Laws.{finite_x, finite_y, finite_z}
use Rattle.mesh_spec.specs.Mesh.{plus_zero_v, same_point}

pub zero_bits : of_bits binary64 0 ≡ plus_zero
unfolding of_bits of_fields odd
zero_bits = refl

cond_real : (b : Bool) (x y : Float) → T (not (is_nan x)) → T (not (is_nan y)) → T (not (is_nan (cond b x y)))
cond_real true x y h k = h
cond_real false x y h k = k

odd_real : (d : ℕ) (s : Bool) (q k l : ℕ) → T (not (is_nan (odd d s q k l)))
unfolding odd is_nan
odd_real d s zero k l = tt
odd_real d s (suc q) k l = tt

units_real : (f : Format) (s : Bool) (q k : ℕ) → T (not (is_nan (units f s q k)))
unfolding units is_nan
units_real f s q k =
    cond_real (ltb (q * 2 ^ k) (2 ^ (low f + suc (emax f)))) (odd (suc (prec f)) s q k (low f)) (inf s) (odd_real (suc (prec f)) s q k (low f)) tt

round_real : (f : Format) (s : Bool) (n d : ℕ) → T (not (is_nan (round f s n d)))
unfolding round
round_real f s n d = units_real f s _ _

sum_real : (f : Format) (s : Bool) (a : ℕ) (t : Bool) (b c : ℕ) → T (not (is_nan (sum f s a t b c)))
unfolding sum
sum_real f s a t b c =
    cond_real (beq s t) (round f s (a + b) c) (cond (ltb a b) (round f t (b - a) c) (round f (s && ltb b a) (a - b) c)) (round_real f s (a + b) c)
    (cond_real (ltb a b) (round f t (b - a) c) (round f (s && ltb b a) (a - b) c) (round_real f t (b - a) c) (round_real f (s && ltb b a) (a - b) c))

plus_real : (f : Format) (x : Float) → T (finite x) → T (not (is_nan (add f x plus_zero)))
unfolding add
plus_real f nan h = absurd h
plus_real f (inf s) h = absurd h
plus_real f (fin s m e) h = sum_real f s _ false _ _

plus_self : (x : Float) → T (finite x) → T (eq (add binary64 x (of_bits binary64 0)) (add binary64 x (of_bits binary64 0)))
plus_self x h =
    eq_refl (add binary64 x (of_bits binary64 0)) (subst (λ (z : Float). T (not (is_nan (add binary64 x z)))) (sym zero_bits) (plus_real binary64 x h))

pub same_self : (p : Vec3) → v_finite p ≡ true → same_point (plus_zero_v p) (plus_zero_v p) ≡ true
unfolding same_point plus_zero_v
same_self p h =
    let t : T (v_finite p) = true_T (v_finite p) h in
    let q : Vec3 = plus_zero_v p in
    T_true (same_point q q)
    (and_i (eq q.x q.x && eq q.y q.y) (eq q.z q.z)
    (and_i (eq q.x q.x) (eq q.y q.y) (plus_self p.x (finite_x p t)) (plus_self p.y (finite_y p t))) (plus_self p.z (finite_z p t)))
