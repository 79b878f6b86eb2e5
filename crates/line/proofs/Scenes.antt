-- ray's definitions at a scene: the voxel that a tick is in, axis by axis. Assumes nothing.
use Prim.Native.Nat.{ℕ, ◌+◌, ◌-◌, ◌<◌}
use mathlib.Core.Path.{◌≡◌, refl}
use mathlib.Core.Bool.{Bool, true, false, cond}
use native.Mathlib.Omega.{arith}
use borrow.Author.Tests.{le-leb}
use Rattle.ray.proofs.Tests.{all_of}
use Rattle.ray.proofs.Planes.{Rise}
use Rattle.ray.specs.declared.Ray.{Ray}
use Rattle.ray.specs.declared.axes.Side.{Side}
use Rattle.ray.specs.declared.axes.Side.TheVariants.{X, Y, Z}
use Rattle.ray.specs.Length.{leg, rest, Volume, array, index, voxel, holds, start, stop, part_of}
use Rattle.line.specs.Scene.{Scene}
use Rattle.line.specs.Scene.{leg_n, plane, line, volume_of, ray_of, enters_at, leaves_at, held_at}
use Rattle.ray.proofs.Way.{Way}
use Rattle.line.proofs.Three.{each}
use Rattle.line.proofs.Stretch.{plane_mono, way_of}

module _ (s : Scene) where
  abbrev pub vol : Volume
  vol = volume_of s

  abbrev pub ray : Ray
  ray = ray_of s

  abbrev pub way : Side → Way
  way o = way_of (line s o)

  pub leg_is : (o : Side) → leg ray o ≡ leg_n (line s o).p (line s o).q
  leg_is = each _ refl refl refl

  pub scene_rise : Rise vol
  scene_rise o i h = le-leb (plane (line s o) i) (plane (line s o) (i + 1)) (plane_mono (line s o) (omega arith))

  -- the ticks of αmin and αmax
  abbrev pub from_of : ℕ
  from_of = start ray (array vol)

  abbrev pub to_of : ℕ
  to_of = stop ray (array vol)

  -- where the ray goes out between two planes of an axis, in ticks
  abbrev pub leave : Side → ℕ → ℕ → ℕ
  leave o i j = leaves_at (line s o) (rest ray o) i j

  -- where it comes in and goes out of the voxel `at`, and of the array; start and stop are the greatest and the least of these
  abbrev pub enter_in : (Side → ℕ) → Side → ℕ
  enter_in at o = enters_at (line s o) (rest ray o) (at o) (at o + 1)

  abbrev pub leave_in : (Side → ℕ) → Side → ℕ
  leave_in at o = leave o (at o) (at o + 1)

  abbrev pub enter_all : Side → ℕ
  enter_all o = enters_at (line s o) (rest ray o) 0 (line s o).n

  abbrev pub leave_all : Side → ℕ
  leave_all o = leave o 0 (line s o).n

  abbrev pub Held : Side → ℕ → Type 0
  Held o i = held_at (line s o) i (i + 1) ≡ true

  -- ---- a part above zero, taken apart
  pub record Met (m : ℕ) : Type 0 where
    pub whole : (o : Side) → Held o (index vol m o)
    pub proper : start ray (voxel vol m) < stop ray (voxel vol m)

  met_by : (m : ℕ) (b : Bool) → holds ray (voxel vol m) ≡ b → 0 < cond b (stop ray (voxel vol m) - start ray (voxel vol m)) 0 → Met m
  met_by m true e h = record { whole = all_of (λ o. held_at (line s o) (index vol m o) (index vol m o + 1)) e; proper = omega arith }
  met_by m false e h = absurd (omega arith)

  pub met : (m : ℕ) → 0 < part_of vol ray m → Met m
  unfolding part_of
  met m h = met_by m (holds ray (voxel vol m)) refl h

  pub part_met : (m : ℕ) → ((o : Side) → Held o (index vol m o)) → part_of vol ray m ≡ stop ray (voxel vol m) - start ray (voxel vol m)
  unfolding part_of
  part_met m h = rw (h X, h Y, h Z) refl
