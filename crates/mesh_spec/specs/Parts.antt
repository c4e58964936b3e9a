-- A soup, and the parts of a mesh that are welded each by itself. Definitions, and their laws for lists that are joined. Assumes nothing.
use Rattle.std.specs.Prelude.{◌≡◌, refl, Bool, true, ◌&&◌, List, [], ◌∷◌, ◌++◌}
use Rattle.std.proofs.Common.{sym, ap, ◌∙◌}
use Rattle.math.specs.declared.Vec3.{Vec3}
use Rattle.mesh_balance_spec.specs.Soup.{Tri}
use Rattle.mesh_spec.specs.Mesh.{Mesh, no_mesh, append, from_soup, every_finite, append_parts, from_parts}
use Rattle.mesh_spec.specs.Closed.{all_of, AllThere}
use Rattle.slice_law.specs.Bools.{and_assoc}
use Rattle.mesh_spec.specs.WeldLaws.{none_append}

-- the Rust's `struct Soup`, by its list
abbrev pub Soup : Type 0
Soup = List (Tri Vec3)

-- `Vec3::is_finite` of every point of every part
unfoldable pub parts_finite : List Soup → Bool
parts_finite [] = true
parts_finite (s ∷ ss) = every_finite s && parts_finite ss

pub parts_finite_append : (xs ys : List Soup) → parts_finite (xs ++ ys) ≡ (parts_finite xs && parts_finite ys)
unfolding parts_finite
parts_finite_append [] ys = refl
parts_finite_append (x ∷ xs) ys =
    ap (λ (b : Bool). every_finite x && b) (parts_finite_append xs ys) ∙ sym (and_assoc (every_finite x) (parts_finite xs) (parts_finite ys))

pub append_parts_append : (D : Mesh) (xs ys : List Soup) → append_parts D (xs ++ ys) ≡ append_parts (append_parts D xs) ys
unfolding append_parts
append_parts_append D [] ys = refl
append_parts_append D (x ∷ xs) ys = append_parts_append (append D (from_soup x)) xs ys
