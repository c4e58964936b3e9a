-- The faces of a parameter box of n parts on the middle axis, welded one after the other. Assumes nothing.
use mathlib.Core.Path.{◌≡◌, refl, sym, ap, ◌∙◌, subst}
use mathlib.Core.Bool.{Bool, true, false, cond, not, true≢false}
use mathlib.Core.List.{List, [], ◌++◌, append-nil, append_assoc}
use Prim.Native.Nat.{ℕ, zero, suc, ◌+◌, ◌/◌, ◌%◌, ◌≤◌, ◌<◌}
use native.Mathlib.Omega.{arith}
use lib.Ieee.{Float, eq}
use Rattle.trig_spec.specs.declared.SinCos.{SinCos}
use Rattle.weld.specs.declared.Welding.{Welding}
use Rattle.weld.specs.Rep.{Ready}
use Rattle.weld.specs.Welding.{held_by, Welds, welds_none, welds_then, welds_as}
use Rattle.math.specs.declared.Vec3.{Vec3}
use Rattle.math.specs.Vec.{axis, with_axis}
use Rattle.surface.specs.Within.{FaceWithin}
use Rattle.surface.specs.declared.turns.Turns.TheVariants.{OnLine}
use Rattle.surface.specs.Turns.{Filled, Tabled}
use Rattle.surface.proofs.Surfaces.{face_tabled}
use Rattle.surface_spec.specs.declared.Line.{Line}
use Rattle.surface_spec.specs.declared.Surface.TheVariants.{Face}
use Rattle.solid_spec.specs.Grid.{Soup, grid}
use Rattle.solid_spec.specs.ParamBox.{along, face, faces, param_box}
use Rattle.surface_spec.specs.Faces.{three, face_point, numbered_face}
use Rattle.surface_spec.specs.Surface.{mapped, line_of, surface_at}
use Rattle.surface_spec.proofs.SurfaceGrids.{face_surface}
use Rattle.mesh_balance_spec.specs.Grid.{upto}
use Rattle.mesh_balance_spec.specs.Buffer.{upto_more}
use Rattle.surface_box.specs.Faces.{is_high, has_face}
use Rattle.solid_box.specs.Box.{BoxWithin, face_of}
use Rattle.solid_box.specs.declared.ParamBox.{ParamBox}

few : (n k : ℕ) → n ≤ 1024 → three 1 n 1 k ≤ 1024
few n zero h = omega arith
few n (suc zero) h = h
few n (suc (suc k)) h = omega arith

guessed : (n k g : ℕ) → 1 < g → n < g → three 1 n 1 k < g
guessed n zero g a b = a
guessed n (suc zero) g a b = b
guessed n (suc (suc k)) g a b = a

-- the table of a line that is the middle axis
pub line_tabled : (l m : Line) (n : ℕ) (tab : List SinCos) → l ≡ m → Filled (OnLine l) n tab → Filled (OnLine m) n tab
line_tabled l m n tab e w = subst (λ (x : Line). Filled (OnLine x) n tab) e w

-- places for guesses stay as many
pub guesses_kept : {x : ParamBox} {tab : List SinCos} {g h : ℕ} → g ≡ h → BoxWithin x tab h → BoxWithin x tab g
guesses_kept {x} {tab} e B = subst (BoxWithin x tab) (sym e) B

module _ (b : ParamBox) where
  -- what `weld_grid` asks of a face
  pub face_asks : (k : ℕ) (val : Float) (u v : Line) (tab : List SinCos) (guesses : ℕ) → k < 3 → BoxWithin b tab guesses
      → u ≡ line_of b.lo b.hi (three 1 b.n 1) (three false b.turns false) ((k + 1) % 3) → v ≡ line_of b.lo b.hi (three 1 b.n 1) (three false b.turns false) ((k + 2) % 3)
      → (u.n ≤ 1024) × (v.n ≤ 1024) × (v.n < guesses) × (FaceWithin k u v u.n v.n × Tabled (Face b.chart k val u v) tab tab u.n v.n)
  face_asks k val u v tab guesses h B p q =
      let a : u.n ≤ 1024 = omega (arith, ap (λ (l : Line). l.n) p, few b.n ((k + 1) % 3) B.few) in
      let e : v.n ≤ 1024 = omega (arith, ap (λ (l : Line). l.n) q, few b.n ((k + 2) % 3) B.few) in
      let g : v.n < guesses = omega (arith, ap (λ (l : Line). l.n) q, guessed b.n ((k + 2) % 3) guesses B.one B.long) in (
        a,
        e,
        g,
        (record { axis = h; ufew = a; vfew = e; ulast = omega arith; vlast = omega arith }, face_tabled (line_of b.lo b.hi (three 1 b.n 1) (three false b.turns false)) b.chart k val u v tab h p q B.tabled),
      )

  pub face_runs : (p : List Float) (k : ℕ) (side : Bool) (u v : Line) (val : Float) (h r : Welding)
      → u ≡ line_of b.lo b.hi (three 1 b.n 1) (three false b.turns false) ((k + 1) % 3) → v ≡ line_of b.lo b.hi (three 1 b.n 1) (three false b.turns false) ((k + 2) % 3)
      → val ≡ cond side (axis b.hi k) (axis b.lo k) → Welds (grid u.n v.n (not side) (surface_at p (Face b.chart k val u v))) h r
      → Welds (numbered_face b.lo b.hi (three 1 b.n 1) (three false b.turns false) (mapped b.chart) k side) h r
  face_runs p k side u v val h r eu ev e R =
      let U : Line = line_of b.lo b.hi (three 1 b.n 1) (three false b.turns false) ((k + 1) % 3) in
      let W : Line = line_of b.lo b.hi (three 1 b.n 1) (three false b.turns false) ((k + 2) % 3) in
      let x : Float = cond side (axis b.hi k) (axis b.lo k) in
      welds_as
      (ap (λ (y : Line). grid y.n v.n (not side) (surface_at p (Face b.chart k val y v))) eu
      ∙ ap (λ (y : Line). grid U.n y.n (not side) (surface_at p (Face b.chart k val U y))) ev
      ∙ ap (λ (y : Float). grid U.n W.n (not side) (surface_at p (Face b.chart k y U W))) e
      ∙ sym (face_surface p b.lo b.hi (three 1 b.n 1) (three false b.turns false) b.chart k side)) R

module _ (lo hi : Vec3) (divs : ℕ → ℕ) (periodic : ℕ → Bool) (map : Vec3 → Vec3) where
  -- a face that is not there, and one that is
  pub face_gone : (f : ℕ) (b : Bool) (h : Welding) → Ready (held_by h) → not b ≡ true → b ≡ has_face lo hi periodic f → Welds (face_of lo hi divs periodic map f) h h
  unfolding face_of
  face_gone f true h R n e = absurd (true≢false (sym n))
  face_gone f false h R n e = welds_as (ap (λ (b : Bool). cond b (numbered_face lo hi divs periodic map (f / 2) (is_high f)) []) e) (welds_none h R)

  pub face_there : (f : ℕ) (b : Bool) (h r : Welding) → not b ≡ false → b ≡ has_face lo hi periodic f → Welds (numbered_face lo hi divs periodic map (f / 2) (is_high f)) h r
      → Welds (face_of lo hi divs periodic map f) h r
  unfolding face_of
  face_there f true h r n e R = welds_as (ap (λ (b : Bool). cond b (numbered_face lo hi divs periodic map (f / 2) (is_high f)) []) e) R
  face_there f false h r n e R = absurd (true≢false n)

  -- one more face
  pub faces_more : (f : ℕ) (h k l : Welding) → Welds (upto f (face_of lo hi divs periodic map)) h k → Welds (face_of lo hi divs periodic map f) k l
      → Welds (upto (f + 1) (face_of lo hi divs periodic map)) h l
  faces_more f h k l R Q =
      welds_as (sym (upto_more f (face_of lo hi divs periodic map))) (welds_then (upto f (face_of lo hi divs periodic map)) (face_of lo hi divs periodic map f) h k l R Q)

  -- the faces of one axis after others
  two_faces : (t e : Bool) (xs low high : Soup) →
      (xs ++ cond (cond t false true) low []) ++ cond (cond t false (not e)) high [] ≡ xs ++ cond t [] (low ++ cond e [] high)
  two_faces true e xs low high = append-nil (xs ++ [])
  two_faces false true xs low high = append_assoc xs low []
  two_faces false false xs low high = append_assoc xs low high

  -- the faces of the axis k
  both : ℕ → Soup
  both k = cond (periodic k) [] (numbered_face lo hi divs periodic map k false ++ cond (eq (axis hi k) (axis lo k)) [] (numbered_face lo hi divs periodic map k true))

  -- the box, with its axes by name
  abbrev named : Soup
  named = param_box (along lo.x hi.x (divs 0) (periodic 0)) (along lo.y hi.y (divs 1) (periodic 1)) (along lo.z hi.z (divs 2) (periodic 2)) map

  -- its axes are those of the numbers 0, 1 and 2
  by_name : both 0 ++ both 1 ++ both 2 ≡ named
  unfolding both param_box faces face numbered_face face_point with_axis axis
  by_name = refl

  -- the six faces are the box
  six_faces : upto 6 (face_of lo hi divs periodic map) ≡ named
  unfolding both face_of has_face
  six_faces =
      let side : ℕ → Soup = face_of lo hi divs periodic map in
      let e : (k : ℕ) (xs : Soup) → (xs ++ cond (cond (periodic k) false true) (numbered_face lo hi divs periodic map k false) [])
      ++ cond (cond (periodic k) false (not (eq (axis hi k) (axis lo k)))) (numbered_face lo hi divs periodic map k true) [] ≡ xs ++ both k =
      λ k xs. two_faces (periodic k) (eq (axis hi k) (axis lo k)) xs (numbered_face lo hi divs periodic map k false) (numbered_face lo hi divs periodic map k true) in
      ap (λ (xs : Soup). (((xs ++ side 2) ++ side 3) ++ side 4) ++ side 5) (e 0 []) ∙ ap (λ (xs : Soup). (xs ++ side 4) ++ side 5) (e 1 (both 0)) ∙ e 2 (both 0 ++ both 1)
      ∙ by_name

  pub box_runs : (f : ℕ) (h r : Welding) → f ≡ 6 → Welds (upto f (face_of lo hi divs periodic map)) h r → Welds named h r
  box_runs f h r e R = welds_as (ap (λ (n : ℕ). upto n (face_of lo hi divs periodic map)) e ∙ six_faces) R
