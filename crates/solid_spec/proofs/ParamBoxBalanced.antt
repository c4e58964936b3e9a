-- `param_box` is balanced after + 0.0 where its points are finite and the bounds unequal: with six faces where no axis is periodic, with four where the middle
-- one is. For a map that respects the same numbers and sends only finite points to finite points.
use mathlib.Core.Path.{◌≡◌, refl, sym, ap, ap₂, ◌∙◌}
use mathlib.Core.Logic.{inl}
use mathlib.Core.List.{List, [], ◌++◌, map, append-nil}
use mathlib.Core.Bool.{Bool, true, false}
use Prim.Native.Nat.{ℕ, ◌≤◌}
use lib.Dec.{T}
use lib.Ieee.{Float, binary64, sub, eq}
use lib.Ieee.Scale.{finite}
use Rattle.math.specs.declared.Vec3.{Vec3}
use Rattle.math.specs.Vec.{new}
use Rattle.mesh_balance_spec.specs.Soup.{Tri, map_tri}
use Rattle.mesh_balance_spec.specs.Box as Box
use Rattle.mesh_balance_spec.specs.Box.{box, four_faces, axis0, axis1, axis2}
use Rattle.mesh_balance_spec.proofs.BoxLaws.{box_balanced, four_faces_balanced}
use Rattle.mesh_spec.specs.Mesh.{plus_zero_v}
use Rattle.solid_spec.specs.Grid.{Soup, grid}
use Rattle.solid_spec.specs.ParamBox.{Axis, along, coord, face, faces, param_box}
use Rattle.solid_spec.proofs.Points.{SameV, plus_zeroV_same}
use Rattle.solid_spec.proofs.Every.{Sound, every_left, every_right, every_grid, map_append, map_plain, map_turned}
use Rattle.solid_spec.proofs.Closes.{Closes}
use Rattle.solid_spec.proofs.Coord.{AxisWithin, coord_start, coord_end, coord_wrap, coord_span}
use Rattle.solid_spec.specs.Fits.{FiniteV}

-- points that are the same are sent to points that are the same
abbrev pub Respects : (Vec3 → Vec3) → Type 0
Respects m = (p q : Vec3) → SameV p q → SameV (m p) (m q)

-- where a mapped point is finite, the point is
abbrev pub Shows : (Vec3 → Vec3) → Type 0
Shows m = (p : Vec3) → FiniteV (m p) → FiniteV p

-- both faces of an axis
two_faces : {P Q : Type 0} (h : P → Q) (d nu nv : ℕ) (f g : ℕ → ℕ → P) (G : ℕ → ℕ → ℕ → Q)
    → ((i j : ℕ) → h (f i j) ≡ G 0 i j) → ((i j : ℕ) → h (g i j) ≡ G d i j)
    → map (map_tri h) (grid nu nv true f ++ grid nu nv false g) ≡ Box.axis_faces d nu nv G
two_faces h d nu nv f g G p q =
    map_append h (grid nu nv true f) (grid nu nv false g)
    ∙ ap₂ (λ (x y : List (Tri _)). x ++ y) (map_turned h nu nv f (G 0) p) (map_plain h nu nv g (G d) q)

-- a parameter box of which at most the middle axis is periodic, and the faces of its three axes
module _ (lo hi : Vec3) (d0 d1 d2 : ℕ) (w : Bool) (m : Vec3 → Vec3) where
  abbrev X : Axis
  X = along lo.x hi.x d0 false

  abbrev Y : Axis
  Y = along lo.y hi.y d1 w

  abbrev Z : Axis
  Z = along lo.z hi.z d2 false

  abbrev pub boxed : Soup
  boxed = param_box X Y Z m

  abbrev faces_x : Soup
  faces_x = faces X Y Z (λ p a b. m (new p a b))

  abbrev faces_y : Soup
  faces_y = faces Y Z X (λ p a b. m (new b p a))

  abbrev faces_z : Soup
  faces_z = faces Z X Y (λ p a b. m (new a b p))

module _ (lo hi : Vec3) (d0 d1 d2 : ℕ) (m : Vec3 → Vec3) (resp : Respects m) where
  -- the points as one function of three indices
  abbrev corner : Bool → ℕ → ℕ → ℕ → Vec3
  corner w i j k = plus_zero_v (m (new (coord lo.x hi.x d0 false i) (coord lo.y hi.y d1 w j) (coord lo.z hi.z d2 false k)))

  module _ (a0 : AxisWithin lo.x d0) (a1 : AxisWithin lo.y d1) (a2 : AxisWithin lo.z d2)
      (s0 : T (finite (sub binary64 hi.x lo.x))) (s1 : T (finite (sub binary64 hi.y lo.y))) (s2 : T (finite (sub binary64 hi.z lo.z)))
      (n0 : eq hi.x lo.x ≡ false) (n2 : eq hi.z lo.z ≡ false) where
    faces0 : (w : Bool) → map (map_tri plus_zero_v) (faces_x lo hi d0 d1 d2 w m) ≡ Box.axis_faces d0 d1 d2 (axis0 (corner w))
    unfolding faces face
    faces0 w = rw n0 (two_faces plus_zero_v d0 d1 d2 _ _ (axis0 (corner w))
        (λ i j. plus_zeroV_same _ _ (resp _ _ (record { x = coord_start lo.x hi.x d0 false a0 s0; y = inl refl; z = inl refl })))
        (λ i j. ap (λ (x : Float). plus_zero_v (m (new x (coord lo.y hi.y d1 w i) (coord lo.z hi.z d2 false j)))) (sym (coord_end lo.x hi.x d0))))

    faces1 : eq hi.y lo.y ≡ false → map (map_tri plus_zero_v) (faces_y lo hi d0 d1 d2 false m) ≡ Box.axis_faces d1 d2 d0 (axis1 (corner false))
    unfolding faces face
    faces1 n1 = rw n1 (two_faces plus_zero_v d1 d2 d0 _ _ (axis1 (corner false))
        (λ i j. plus_zeroV_same _ _ (resp _ _ (record { x = inl refl; y = coord_start lo.y hi.y d1 false a1 s1; z = inl refl })))
        (λ i j. ap (λ (y : Float). plus_zero_v (m (new (coord lo.x hi.x d0 false j) y (coord lo.z hi.z d2 false i)))) (sym (coord_end lo.y hi.y d1))))

    faces2 : (w : Bool) → map (map_tri plus_zero_v) (faces_z lo hi d0 d1 d2 w m) ≡ Box.axis_faces d2 d0 d1 (axis2 (corner w))
    unfolding faces face
    faces2 w = rw n2 (two_faces plus_zero_v d2 d0 d1 _ _ (axis2 (corner w))
        (λ i j. plus_zeroV_same _ _ (resp _ _ (record { x = inl refl; y = inl refl; z = coord_start lo.z hi.z d2 false a2 s2 })))
        (λ i j. ap (λ (z : Float). plus_zero_v (m (new (coord lo.x hi.x d0 false i) (coord lo.y hi.y d1 w j) z))) (sym (coord_end lo.z hi.z d2))))

    -- the faces of the middle axis, where it is periodic
    no_faces1 : faces_y lo hi d0 d1 d2 true m ≡ []
    unfolding faces
    no_faces1 = refl

    six_box : eq hi.y lo.y ≡ false → map (map_tri plus_zero_v) (boxed lo hi d0 d1 d2 false m) ≡ box d0 d1 d2 (corner false)
    unfolding param_box
    six_box n1 =
        let f = faces_x lo hi d0 d1 d2 false m in
        let g = faces_y lo hi d0 d1 d2 false m in
        map_append plus_zero_v (f ++ g) (faces_z lo hi d0 d1 d2 false m)
        ∙ ap₂ (λ (x y : Soup). x ++ y) (map_append plus_zero_v f g ∙ ap₂ (λ (x y : Soup). x ++ y) (faces0 false) (faces1 n1)) (faces2 false)

    four_tube : map (map_tri plus_zero_v) (boxed lo hi d0 d1 d2 true m) ≡ four_faces d0 d1 d2 (corner true)
    unfolding param_box
    four_tube =
        let f = faces_x lo hi d0 d1 d2 true m in
        map_append plus_zero_v (f ++ faces_y lo hi d0 d1 d2 true m) (faces_z lo hi d0 d1 d2 true m)
        ∙ ap₂ (λ (x y : Soup). x ++ y)
        (ap (λ (x : Soup). map (map_tri plus_zero_v) (f ++ x)) no_faces1 ∙ ap (λ (x : Soup). map (map_tri plus_zero_v) x) (append-nil f) ∙ faces0 true) (faces2 true)

    six_closes : eq hi.y lo.y ≡ false → Closes (boxed lo hi d0 d1 d2 false m)
    six_closes n1 = rw (six_box n1) (box_balanced d0 d1 d2 (corner false))

    four_closes : Closes (boxed lo hi d0 d1 d2 true m)
    four_closes = rw four_tube (four_faces_balanced d0 d1 d2 (corner true) (λ i k p q. plus_zeroV_same _ _ (resp _ _ (record {
      x = inl refl;
      y = rw (coord_wrap lo.y hi.y d1) (coord_start lo.y hi.y d1 true a1 s1);
      z = inl refl;
    }))))

-- the first points of two faces, which tell of the spans
module _ (lo hi : Vec3) (d0 d1 d2 : ℕ) (w : Bool) (m : Vec3 → Vec3) (sound : Sound (boxed lo hi d0 d1 d2 w m))
    (s0 : 1 ≤ d0) (s1 : 1 ≤ d1) (s2 : 1 ≤ d2) (n0 : eq hi.x lo.x ≡ false) (n2 : eq hi.z lo.z ≡ false) where
  sound0 : Sound (faces_x lo hi d0 d1 d2 w m)
  unfolding param_box
  sound0 =
      let f = faces_x lo hi d0 d1 d2 w m in
      let g = faces_y lo hi d0 d1 d2 w m in
      every_left FiniteV f g (every_left FiniteV (f ++ g) (faces_z lo hi d0 d1 d2 w m) sound)

  sound2 : Sound (faces_z lo hi d0 d1 d2 w m)
  unfolding param_box
  sound2 = every_right FiniteV (faces_x lo hi d0 d1 d2 w m ++ faces_y lo hi d0 d1 d2 w m) (faces_z lo hi d0 d1 d2 w m) sound

  first0 : FiniteV (m (new lo.x (coord lo.y hi.y d1 w 0) (coord lo.z hi.z d2 false 0)))
  unfolding faces face
  first0 =
      let H = face (Y lo hi d0 d1 d2 w m) (Z lo hi d0 d1 d2 w m) (λ p a b. m (new p a b)) in
      (every_grid FiniteV d1 d2 true (λ i j. m (new lo.x (coord lo.y hi.y d1 w i) (coord lo.z hi.z d2 false j)))
      (every_left FiniteV (H false lo.x) (H true hi.x) (rw n0 at sound0)) 0 0 s1 s2).0

  first2 : FiniteV (m (new (coord lo.x hi.x d0 false 0) (coord lo.y hi.y d1 w 0) lo.z))
  unfolding faces face
  first2 =
      let H = face (X lo hi d0 d1 d2 w m) (Y lo hi d0 d1 d2 w m) (λ p a b. m (new a b p)) in
      (every_grid FiniteV d0 d1 true (λ i j. m (new (coord lo.x hi.x d0 false i) (coord lo.y hi.y d1 w j) lo.z))
      (every_left FiniteV (H false lo.z) (H true hi.z) (rw n2 at sound2)) 0 0 s0 s1).0

module _ (lo hi : Vec3) (d0 d1 d2 : ℕ) (m : Vec3 → Vec3) (resp : Respects m) (shows : Shows m)
    (a0 : AxisWithin lo.x d0) (a1 : AxisWithin lo.y d1) (a2 : AxisWithin lo.z d2) (n0 : eq hi.x lo.x ≡ false) (n2 : eq hi.z lo.z ≡ false) where
  span0 : (w : Bool) → Sound (boxed lo hi d0 d1 d2 w m) → T (finite (sub binary64 hi.x lo.x))
  span0 w h = coord_span lo.x hi.x d0 false a0.some (shows _ (first2 lo hi d0 d1 d2 w m h a0.some a1.some a2.some n0 n2)).x

  span1 : (w : Bool) → Sound (boxed lo hi d0 d1 d2 w m) → T (finite (sub binary64 hi.y lo.y))
  span1 w h = coord_span lo.y hi.y d1 w a1.some (shows _ (first0 lo hi d0 d1 d2 w m h a0.some a1.some a2.some n0 n2)).y

  span2 : (w : Bool) → Sound (boxed lo hi d0 d1 d2 w m) → T (finite (sub binary64 hi.z lo.z))
  span2 w h = coord_span lo.z hi.z d2 false a2.some (shows _ (first0 lo hi d0 d1 d2 w m h a0.some a1.some a2.some n0 n2)).z

  -- three unequal pairs of bounds, no periodic axis
  pub six_faces : eq hi.y lo.y ≡ false → Sound (boxed lo hi d0 d1 d2 false m) → Closes (boxed lo hi d0 d1 d2 false m)
  six_faces n1 h = six_closes lo hi d0 d1 d2 m resp a0 a1 a2 (span0 false h) (span1 false h) (span2 false h) n0 n2 n1

  -- the middle axis periodic
  pub four_faces_lem : Sound (boxed lo hi d0 d1 d2 true m) → Closes (boxed lo hi d0 d1 d2 true m)
  four_faces_lem h = four_closes lo hi d0 d1 d2 m resp a0 a1 a2 (span0 true h) (span1 true h) (span2 true h) n0 n2
