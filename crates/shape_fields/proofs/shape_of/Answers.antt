-- `shape_fields::shape_of` meets its contract. Assumes nothing.
use borrow.Author.Rules.{rules}
use mathlib.Core.Path.{refl}
use Prim.Native.Nat.{ℕ}
use Rattle.slice_law.specs.Arms.{of_kind}
use Rattle.shape_fields.specs.Fields.{shape_of}
use Rattle.shape_fields.proofs.Others.{other_shape}
use Rattle.shape_fields.proofs.shape_of.Goals as goal

pub with_points-requires : goal.with_points-requires
with_points-requires c = tt

pub returns-in-1 : goal.returns-in-1
unfolding shape_of
returns-in-1 c =
    let s = c.args in
    of_kind (λ (k : ℕ). shape_of k s.norm_dir s.rot_axis_dir s.n.now) 1 c.in-1.is refl

pub returns-in-6 : goal.returns-in-6
unfolding shape_of
returns-in-6 c =
    let s = c.args in
    of_kind (λ (k : ℕ). shape_of k s.norm_dir s.rot_axis_dir s.n.now) 6 c.in-6.is refl

pub returns-in-7 : goal.returns-in-7
unfolding shape_of
returns-in-7 c =
    let s = c.args in
    of_kind (λ (k : ℕ). shape_of k s.norm_dir s.rot_axis_dir s.n.now) 7 c.in-7.is refl

pub returns-in-8 : goal.returns-in-8
unfolding shape_of
returns-in-8 c =
    let s = c.args in
    of_kind (λ (k : ℕ). shape_of k s.norm_dir s.rot_axis_dir s.n.now) 8 c.in-8.is refl

pub returns-in-9 : goal.returns-in-9
unfolding shape_of
returns-in-9 c =
    let s = c.args in
    of_kind (λ (k : ℕ). shape_of k s.norm_dir s.rot_axis_dir s.n.now) 9 c.in-9.is refl

pub returns-in_default : goal.returns-in_default
returns-in_default c =
    let s = c.args in
    other_shape s.norm_dir s.rot_axis_dir s.n.now c.in_default.in_default-own.rest c.with_points.ensures
