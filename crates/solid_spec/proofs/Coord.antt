-- The grid lines of an axis: the first is the same number as lo, the last is hi, or lo where the axis is periodic.
use mathlib.Core.Path.{◌≡◌, refl, sym, ap, subst}
use mathlib.Core.Bool.{Bool, true, false, cond}
use Prim.Native.Nat.{ℕ, zero, suc, ◌≤◌}
use native.Mathlib.Omega.{arith}
use lib.IntN.{pos}
use lib.Dec.{T, eqb, eqb→eq, eqb_refl, eqb-zero-suc}
use lib.Ieee.{Float, binary64, sub, mul, div, of_int, fits}
use lib.Ieee.Scale.{finite}
use Rattle.ieee.specs.Number.{Same}
use Rattle.ieee.specs.Finite.{finite_add_r, finite_mul_l, finite_div_l}
use Rattle.ieee.specs.Same.{same_sym, T_true}
use Rattle.ieee.specs.Ends.{point, first_point}
use Rattle.solid_spec.specs.ParamBox.{coord}

-- an axis in n parts, of a low bound that the format holds
pub record AxisWithin (lo : Float) (n : ℕ) : Type 0 where
  pub fit : T (fits binary64 lo)
  pub some : 1 ≤ n
  pub few : n ≤ 1024

zero_line : (lo hi : Float) (n : ℕ) (w : Bool) → 1 ≤ n → coord lo hi n w 0 ≡ point lo hi n 0
unfolding coord
zero_line lo hi (suc n) true h = ap (λ (b : Bool). cond b lo (cond b hi (point lo hi (suc n) 0))) (eqb-zero-suc n)
zero_line lo hi (suc n) false h = ap (λ (b : Bool). cond b hi (point lo hi (suc n) 0)) (eqb-zero-suc n)
zero_line lo hi zero w h = absurd (none h)
  where
    none : 1 ≤ 0 → ⊥
    none h = omega arith

pub coord_start : (lo hi : Float) (n : ℕ) (w : Bool) → AxisWithin lo n → T (finite (sub binary64 hi lo)) → Same lo (coord lo hi n w 0)
coord_start lo hi n w a t = rw (zero_line lo hi n w a.some) (same_sym (point lo hi n 0) lo (first_point lo hi n a.fit t a.some a.few))

pub coord_end : (lo hi : Float) (n : ℕ) → coord lo hi n false n ≡ hi
unfolding coord
coord_end lo hi n = ap (λ (b : Bool). cond b hi (point lo hi n n)) (T_true (eqb n n) (eqb_refl n))

pub coord_wrap : (lo hi : Float) (n : ℕ) → coord lo hi n true n ≡ lo
unfolding coord
coord_wrap lo hi n = ap (λ (b : Bool). cond b lo (cond b hi (point lo hi n n))) (T_true (eqb n n) (eqb_refl n))

-- where the first line is finite, the span is
pub coord_span : (lo hi : Float) (n : ℕ) (w : Bool) → 1 ≤ n → T (finite (coord lo hi n w 0)) → T (finite (sub binary64 hi lo))
coord_span lo hi n w h t =
    let s = sub binary64 hi lo in
    let c = of_int binary64 (pos 0) in
    let d = of_int binary64 (pos n) in
    finite_mul_l binary64 s c
    (finite_div_l binary64 (mul binary64 s c) d (finite_add_r binary64 lo (div binary64 (mul binary64 s c) d) (rw (zero_line lo hi n w h) at t)))

-- ---- by cases, as code tests them
eqb_at : (i n : ℕ) → i ≡ n → eqb i n ≡ true
eqb_at i n e = T_true (eqb i n) (subst (λ (k : ℕ). T (eqb i k)) e (eqb_refl i))

eqb_off : (i n : ℕ) → (i ≡ n → ⊥) → eqb i n ≡ false
eqb_off i n e = go (eqb i n) refl
  where
    go : (b : Bool) → eqb i n ≡ b → eqb i n ≡ false
    go true h = absurd (e (eqb→eq i n (subst T (sym h) tt)))
    go false h = h

pub coord_wrapped : (lo hi : Float) (n : ℕ) (w : Bool) (i : ℕ) → i ≡ n → w ≡ true → lo ≡ coord lo hi n w i
unfolding coord
coord_wrapped lo hi n w i e h = rw (eqb_at i n e, h)

pub coord_last : (lo hi : Float) (n : ℕ) (w : Bool) (i : ℕ) → i ≡ n → w ≡ false → hi ≡ coord lo hi n w i
unfolding coord
coord_last lo hi n w i e h = rw (eqb_at i n e, h)

pub coord_inside : (lo hi : Float) (n : ℕ) (w : Bool) (i : ℕ) → (i ≡ n → ⊥) → point lo hi n i ≡ coord lo hi n w i
unfolding coord
coord_inside lo hi n true i e = rw (eqb_off i n e)
coord_inside lo hi n false i e = rw (eqb_off i n e)
