-- The box of vertices: a box equals itself, the box of two lists is the union of their boxes, and what lies in a box within ±2^400 does so too.
-- Assumes nothing.
use Rattle.std.specs.Prelude.{◌≡◌, Bool, true, false, not, ◌&&◌, List, [], ◌∷◌, ◌++◌, map, ℕ, zero, suc, ◌*◌, pos, length, take, get_or, Float}
use Rattle.std.proofs.Math.Path.{refl, ap}
use Rattle.std.proofs.Common.{sym, ◌∙◌, subst, arith}
use Rattle.std.proofs.lemmas.List.{map-append}
use Rattle.std.proofs.Math.Dec.{T}
use Rattle.std.specs.Float.{nan, inf, fin}
use Rattle.std.specs.Float.Ieee.{binary64, add, eq, le, fits, is_nan}
use Rattle.std.specs.Float.Ieee.Fits.{and_i, and_l, and_r, nan-fits, inf-fits}
use Rattle.std.specs.Float.Ieee.Scale.{finite}
use Rattle.ieee.specs.Number.{plus_zero}
use Rattle.ieee.specs.Same.{eq_refl, finite_not_nan, T_true, true_T}
use Rattle.slice_law.specs.Bools.{and_left, and_right, and_both}
use Rattle.slice.specs.Every.{every}
use Rattle.slice_bounded.specs.Bounded.{within_power, is_bounded}
use Rattle.math.specs.declared.Vec3.{Vec3}
use Rattle.math.specs.declared.BoundingBox.{BoundingBox}
use Rattle.math.specs.Vec.{new, axis, v_min, v_max, v_finite}
use Rattle.math.specs.Box.{empty_box, include, union}
use Rattle.mesh_spec.specs.Mesh.{plus_zero_v, same_point}
use Rattle.mesh_spec.specs.Measures.{including, plus_zero_box, box_of, same_box}
use Rattle.mesh_spec.specs.Slices.{coords, points}
use Rattle.mesh_spec.specs.SelfSame.{zero_bits, same_self}
use Rattle.mesh_box_law.specs.Furthest.{NotNan, beyond, further, furthest, BeyondAll, AllFit, beyond_trans, start_not_nan}
use Rattle.mesh_box_law.specs.Furthest.{furthest_not_nan, furthest_fits, beyond_furthest, plus_beyond, furthest_append}

-- ---- the bounds of a box, by side and axis
abbrev bound : Bool → ℕ → BoundingBox → Float
bound false k b = axis b.min k
bound true k b = axis b.max k

-- the coordinates of points on an axis
abbrev along : ℕ → List Vec3 → List Float
along k ps = map (λ p. axis p k) ps

-- a box is its six bounds
same_bounds : (a b : BoundingBox) → ((s : Bool) (k : ℕ) → bound s k a ≡ bound s k b) → a ≡ b
unfolding axis
same_bounds a b h = λ i. record { min = new (h false 0 i) (h false 1 i) (h false 2 i); max = new (h true 0 i) (h true 1 i) (h true 2 i) }

empty_bound : (s : Bool) (k : ℕ) → bound s k empty_box ≡ inf s
unfolding axis empty_box
empty_bound false zero = refl
empty_bound false (suc zero) = refl
empty_bound false (suc (suc k)) = refl
empty_bound true zero = refl
empty_bound true (suc zero) = refl
empty_bound true (suc (suc k)) = refl

union_bound : (s : Bool) (k : ℕ) (a b : BoundingBox) → bound s k (union a b) ≡ further s (bound s k a) (bound s k b)
unfolding axis union v_min v_max
union_bound false zero a b = refl
union_bound false (suc zero) a b = refl
union_bound false (suc (suc k)) a b = refl
union_bound true zero a b = refl
union_bound true (suc zero) a b = refl
union_bound true (suc (suc k)) a b = refl

-- `include` is the union with the box that has the point for both its corners
include_bound : (s : Bool) (k : ℕ) (b : BoundingBox) (p : Vec3) → bound s k (include b p) ≡ further s (bound s k b) (axis p k)
unfolding include union
include_bound false k b p = union_bound false k b (record { min = p; max = p })
include_bound true k b p = union_bound true k b (record { min = p; max = p })

including_bound : (s : Bool) (k : ℕ) (b : BoundingBox) (ps : List Vec3) → bound s k (including b ps) ≡ furthest s (bound s k b) (along k ps)
unfolding including
including_bound s k b [] = refl
including_bound s k b (p ∷ ps) = including_bound s k (include b p) ps ∙ ap (λ (x : Float). furthest s x (along k ps)) (include_bound s k b p)

plus_axis : (k : ℕ) (p : Vec3) → axis (plus_zero_v p) k ≡ add binary64 (axis p k) plus_zero
unfolding axis plus_zero_v
plus_axis zero p = ap (add binary64 p.x) zero_bits
plus_axis (suc zero) p = ap (add binary64 p.y) zero_bits
plus_axis (suc (suc k)) p = ap (add binary64 p.z) zero_bits

plus_bound : (s : Bool) (k : ℕ) (b : BoundingBox) → bound s k (plus_zero_box b) ≡ add binary64 (bound s k b) plus_zero
unfolding plus_zero_box
plus_bound false k b = plus_axis k b.min
plus_bound true k b = plus_axis k b.max

module _ (s : Bool) (k : ℕ) (ps : List Vec3) where
  -- the bound without + 0.0
  abbrev raw : Float
  raw = furthest s (inf s) (along k ps)

  box_bound : bound s k (box_of ps) ≡ add binary64 raw plus_zero
  unfolding box_of
  box_bound =
      plus_bound s k (including empty_box ps)
      ∙ ap (λ (x : Float). add binary64 x plus_zero)
      (including_bound s k empty_box ps ∙ ap (λ (x : Float). furthest s x (along k ps)) (empty_bound s k))

  raw_not_nan : NotNan raw
  raw_not_nan = furthest_not_nan s (inf s) (along k ps) (start_not_nan s)

pub empty_box_lem : box_of [] ≡ empty_box
empty_box_lem = same_bounds (box_of []) empty_box (λ s k. box_bound s k [] ∙ plus_start s ∙ sym (empty_bound s k))
  where
    plus_start : (s : Bool) → add binary64 (inf s) plus_zero ≡ inf s
    plus_start s = unfold add in refl

-- ---- a box equals itself
x_self : (p : Vec3) → T (same_point p p) → T (eq p.x p.x)
unfolding same_point
x_self p h = and_l (eq p.x p.x) (eq p.y p.y) (and_l (eq p.x p.x && eq p.y p.y) (eq p.z p.z) h)

plus_self : (x : Float) → NotNan x → T (eq (add binary64 x plus_zero) (add binary64 x plus_zero))
unfolding axis v_finite
plus_self nan h = absurd (unfold is_nan in h)
plus_self (inf s) h = eq_refl (add binary64 (inf s) plus_zero) (unfold add is_nan in tt)
plus_self (fin s m e) h =
    let p = new (fin s m e) (fin s m e) (fin s m e) in
    subst (λ (x : Float). T (eq x x)) (plus_axis 0 p)
    (x_self (plus_zero_v p) (true_T (same_point (plus_zero_v p) (plus_zero_v p)) (same_self p refl)))

bound_self : (ps : List Vec3) (s : Bool) (k : ℕ) → T (eq (bound s k (box_of ps)) (bound s k (box_of ps)))
bound_self ps s k = subst (λ (x : Float). T (eq x x)) (sym (box_bound s k ps)) (plus_self (raw s k ps) (raw_not_nan s k ps))

point_same : (p : Vec3) → ((k : ℕ) → T (eq (axis p k) (axis p k))) → T (same_point p p)
unfolding axis same_point
point_same p h =
    and_i (eq p.x p.x && eq p.y p.y) (eq p.z p.z) (and_i (eq p.x p.x) (eq p.y p.y) (h 0) (h 1)) (h 2)

pub box_same : (ps : List Vec3) → T (same_box (box_of ps) (box_of ps))
unfolding same_box
box_same ps =
    let b = box_of ps in
    and_i (same_point b.min b.min) (same_point b.max b.max) (point_same b.min (bound_self ps false)) (point_same b.max (bound_self ps true))

-- ---- the box of two lists together
axis_has : (P : Float → Type 0) (x y z : Float) → P x → P y → P z → (k : ℕ) → P (axis (new x y z) k)
unfolding axis
axis_has P x y z a b c zero = a
axis_has P x y z a b c (suc zero) = b
axis_has P x y z a b c (suc (suc k)) = c

pub take_fit : (n : ℕ) (vs : List Float) → ((i : ℕ) → T (fits binary64 (get_or vs i nan))) → (i : ℕ) → T (fits binary64 (get_or (take n vs) i nan))
take_fit zero vs h i = nan-fits binary64
take_fit (suc n) [] h i = nan-fits binary64
take_fit (suc n) (x ∷ vs) h zero = h 0
take_fit (suc n) (x ∷ vs) h (suc i) = take_fit n vs (λ j. h (suc j)) i

points_fit : (vs : List Float) → ((i : ℕ) → T (fits binary64 (get_or vs i nan))) → (k : ℕ) → AllFit binary64 (along k (points vs))
points_fit [] h k = tt
points_fit (x ∷ []) h k = tt
points_fit (x ∷ y ∷ []) h k = tt
points_fit (x ∷ y ∷ z ∷ r) h k =
    (axis_has (λ (v : Float). T (fits binary64 v)) x y z (h 0) (h 1) (h 2) k, points_fit r (λ i. h (suc (suc (suc i)))) k)

points_append : (ps qs : List Vec3) → ((k : ℕ) → AllFit binary64 (along k ps)) → ((k : ℕ) → AllFit binary64 (along k qs))
    → box_of (ps ++ qs) ≡ union (box_of ps) (box_of qs)
points_append ps qs h l = same_bounds (box_of (ps ++ qs)) (union (box_of ps) (box_of qs)) at
  where
    at : (s : Bool) (k : ℕ) → bound s k (box_of (ps ++ qs)) ≡ bound s k (union (box_of ps) (box_of qs))
    at s k =
        box_bound s k (ps ++ qs)
        ∙ ap (λ (xs : List Float). add binary64 (furthest s (inf s) xs) plus_zero) (map-append (λ p. axis p k) ps qs)
        ∙ furthest_append binary64 s (along k ps) (along k qs) (h k) (l k)
        ∙ sym (λ i. further s (box_bound s k ps i) (box_bound s k qs i))
        ∙ sym (union_bound s k (box_of ps) (box_of qs))

pub box_append : (n k : ℕ) (vs ws : List Float) → ((i : ℕ) → T (fits binary64 (get_or vs i nan))) → ((i : ℕ) → T (fits binary64 (get_or ws i nan)))
    → box_of (points (take n vs) ++ points (take k ws)) ≡ union (box_of (points (take n vs))) (box_of (points (take k ws)))
box_append n k vs ws h l =
    points_append (points (take n vs)) (points (take k ws)) (points_fit (take n vs) (take_fit n vs h)) (points_fit (take k ws) (take_fit k ws l))

-- ---- what lies in a box within ±2^400
module _ (test : Float → Bool) (p : Vec3) (r : List Float) where
  every_coords : ((k : ℕ) → T (test (axis p k))) → every test r ≡ true → every test (coords p ++ r) ≡ true
  unfolding every axis
  every_coords h e =
      and_both (test p.x) (test p.y && (test p.z && every test r)) (T_true (test p.x) (h 0))
      (and_both (test p.y) (test p.z && every test r) (T_true (test p.y) (h 1))
      (and_both (test p.z) (every test r) (T_true (test p.z) (h 2)) e))

  coords_every : every test (coords p ++ r) ≡ true → (k : ℕ) → T (test (axis p k))
  unfolding every
  coords_every e =
      let yz = and_right (test p.x) (test p.y && (test p.z && every test r)) e in
      axis_has (λ (v : Float). T (test v)) p.x p.y p.z
      (true_T (test p.x) (and_left (test p.x) (test p.y && (test p.z && every test r)) e))
      (true_T (test p.y) (and_left (test p.y) (test p.z && every test r) yz))
      (true_T (test p.z) (and_left (test p.z) (every test r) (and_right (test p.y) (test p.z && every test r) yz)))

  rest_every : every test (coords p ++ r) ≡ true → every test r ≡ true
  unfolding every
  rest_every e =
      and_right (test p.z) (every test r)
      (and_right (test p.y) (test p.z && every test r) (and_right (test p.x) (test p.y && (test p.z && every test r)) e))

-- -2^400, and 2^400
abbrev limit : Bool → Float
limit s = fin (not s) 1 (pos 400)

-- `is_bounded`, side by side
bounded_limit : (x : Float) → T (is_bounded x) → (s : Bool) → T (beyond s (limit s) x)
unfolding is_bounded within_power
bounded_limit x h false = and_l (le (limit false) x) (le x (limit true)) h
bounded_limit x h true = and_r (le (limit false) x) (le x (limit true)) h

limit_bounded : (x : Float) → ((s : Bool) → T (beyond s (limit s) x)) → T (is_bounded x)
unfolding is_bounded within_power
limit_bounded x h = and_i (le (limit false) x) (le x (limit true)) (h false) (h true)

in_limits : (n : ℕ) (vs : List Float) → length vs ≡ 3 * n → every finite vs ≡ true → ((s : Bool) (k : ℕ) → BeyondAll s (limit s) (along k (points vs)))
    → every is_bounded vs ≡ true
in_limits n [] e t h = unfold every in refl
in_limits n (x ∷ []) e t h = absurd (omega arith)
in_limits n (x ∷ y ∷ []) e t h = absurd (omega arith)
in_limits zero (x ∷ y ∷ z ∷ r) e t h = absurd (omega arith)
in_limits (suc n) (x ∷ y ∷ z ∷ r) e t h =
    let p = new x y z in
    every_coords is_bounded p r
    (λ k. limit_bounded (axis p k) (λ s. (h s k).0 (finite_not_nan (axis p k) (coords_every finite p r t k))))
    (in_limits n r (omega arith) (rest_every finite p r t) (λ s k. (h s k).1))

pub box_bounded : (n : ℕ) (vs : List Float) → length vs ≡ 3 * n → ((i : ℕ) → T (fits binary64 (get_or vs i nan))) → every finite vs ≡ true
    → every is_bounded (coords (box_of (points vs)).min ++ coords (box_of (points vs)).max) ≡ true → every is_bounded vs ≡ true
box_bounded n vs e f t h = in_limits n vs e t (λ s k. (beyond_furthest s (limit s) (inf s) (along k ps) (start_not_nan s) (past s k)).1)
  where
    ps : List Vec3
    ps = points vs

    b : BoundingBox
    b = box_of ps

    bounded : (s : Bool) (k : ℕ) → T (is_bounded (bound s k b))
    bounded false k = coords_every is_bounded b.min (coords b.max) h k
    bounded true k = coords_every is_bounded b.max [] (rest_every is_bounded b.min (coords b.max) h) k

    past : (s : Bool) (k : ℕ) → T (beyond s (limit s) (raw s k ps))
    past s k =
        let a = raw s k ps in
        beyond_trans s (limit s) (add binary64 a plus_zero) a
        (subst (λ (x : Float). T (beyond s (limit s) x)) (box_bound s k ps) (bounded_limit (bound s k b) (bounded s k) s))
        (plus_beyond binary64 a (raw_not_nan s k ps)
        (furthest_fits s binary64 (inf s) (along k ps) (start_not_nan s) (inf-fits binary64 s) (points_fit vs f k)) s)
