-- A soup closes where its points, after + 0.0, are balanced. The empty soup does, and so do two that close, put together.
use mathlib.Core.Path.{◌≡◌, refl}
use mathlib.Core.List.{[], ◌++◌, map}
use mathlib.Core.Bool.{Bool, true, false, cond}
use Rattle.mesh_balance_spec.specs.Soup.{Balanced, map_tri, balanced_append}
use Rattle.mesh_spec.specs.Mesh.{plus_zero_v}
use Rattle.solid_spec.specs.Grid.{Soup}
use Rattle.solid_spec.proofs.Every.{Sound, every_left, every_right, map_append}
use Rattle.solid_spec.specs.Fits.{FiniteV}

abbrev pub Closes : Soup → Type 0
Closes ts = Balanced (map (map_tri plus_zero_v) ts)

pub nothing_closes : Closes []
nothing_closes w = refl

pub both_close : (xs ys : Soup) → Closes xs → Closes ys → Closes (xs ++ ys)
both_close xs ys p q = rw (map_append plus_zero_v xs ys) (balanced_append (map (map_tri plus_zero_v) xs) (map (map_tri plus_zero_v) ys) p q)

-- one, and another one or not
pub with_another : (xs ys : Soup) (t : Bool) → (Sound xs → Closes xs) → (Sound ys → Closes ys) → Sound (xs ++ cond t ys []) → Closes (xs ++ cond t ys [])
with_another xs ys true p q h = both_close xs ys (p (every_left FiniteV xs ys h)) (q (every_right FiniteV xs ys h))
with_another xs ys false p q h = both_close xs [] (p (every_left FiniteV xs [] h)) nothing_closes

-- nothing, or a soup
pub unless : (ys : Soup) (t : Bool) → (t ≡ false → Sound ys → Closes ys) → Sound (cond t [] ys) → Closes (cond t [] ys)
unless ys true p h = nothing_closes
unless ys false p h = p refl h
