-- Ray A of the bench grid cut inside voxel 0, at α = 3/10: both pieces list that voxel, and the ray lists it once. Assumes nothing.
use mathlib.Core.Path.{◌≡◌, refl}
use mathlib.Core.List.{[], ◌∷◌}
use native.Mathlib.Omega.{arith}
use lib.IntN.{pos, negsuc, ◌-ℤ◌, ◌*ℤ◌}
use Rattle.ray.specs.Axes.{End}
use Rattle.ray.specs.declared.Ray.{Ray}
use Rattle.ray.specs.declared.axes.Side.{Side}
use Rattle.ray.specs.declared.axes.Side.TheVariants.{X, Y, Z}
use Rattle.ray.specs.Length.{leg, volume, part_of, insert, list_to, list_of}
use Rattle.ray.proofs.Bench.{grid, ray}
use Rattle.ray.proofs.CutBox.{coordinate, Between, near, far}
use Rattle.ray.proofs.Seam.{past, joined}

abbrev a : Ray
a = ray (negsuc 9) (pos 5) (pos 5) (pos 40) (pos 5) (pos 5)

abbrev m : End
m = record { x = pos 5; y = pos 5; z = pos 5 }

at : (s : Side) → pos 10 *ℤ (coordinate m s -ℤ (leg a s).p) ≡ pos 3 *ℤ ((leg a s).q -ℤ (leg a s).p)
at X = refl
at Y = refl
at Z = refl

pub between : Between a m
between = record { n = 3; d = 10; some = omega arith; less = omega arith; at = at }

pub seam : (list_of (volume grid) (near a m) ≡ 0 ∷ []) × (list_of (volume grid) (far a m) ≡ 0 ∷ 1 ∷ 2 ∷ []) × (joined (0 ∷ []) (0 ∷ 1 ∷ 2 ∷ []) ≡ 0 ∷ 1 ∷ 2 ∷ [])
unfolding part_of insert list_to list_of past joined
seam = (refl, refl, refl)
