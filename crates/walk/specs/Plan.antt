-- What is worked out of a scene before the walk. Definitions only. Assumes nothing.
use Rattle.std.specs.Prelude.{◌≡◌, ℕ, ◌+◌, ◌*◌, ◌^◌, ◌<◌, ◌≤◌, not, map}
use Rattle.ray.specs.declared.axes.Side.{Side}
use Rattle.ray.specs.declared.axes.Side.TheVariants.{X, Y, Z}
use Rattle.ray.specs.Length.{Volume, rest, d_of, array, start, stop, misses, part_of, list_of, crossed_of}
use Rattle.line.specs.Scene.{Scene}
use Rattle.ray.specs.declared.axes.Axes.{Axes}
use Rattle.ray.specs.Side.{of_side}
use Rattle.line.specs.Beyond.{First}
use Rattle.line.specs.Scene.{line, volume_of, ray_of, leaves_at, Within}
use Rattle.walk.specs.declared.steps.Walk.{Walk}
use Rattle.walk.specs.declared.steps.Strides.{Strides}
use Rattle.walk.specs.declared.plan.Frame.{Frame}
use Rattle.walk.specs.declared.plan.Plan.{Plan}
use Rattle.walk.specs.Model.{leave_of, step_of, jump_of, voxels, parts, entries, planes_by, Forward}

abbrev pub rest_of : Frame → Side → ℕ
rest_of f o = of_side f.rest o

-- D, αmin and αmax times D, and whether the ray hits
pub record Framed (s : Scene) (f : Frame) : Type 0 where
  pub rests : (o : Side) → rest_of f o ≡ rest (ray_of s) o
  pub denominator_is : f.denominator ≡ d_of (ray_of s)
  pub from_is : f.from ≡ start (ray_of s) (array (volume_of s))
  pub to_is : f.to ≡ stop (ray_of s) (array (volume_of s))
  pub hit_is : f.hit ≡ not (misses (volume_of s) (ray_of s))

-- on each axis the ticks from plane to plane, and what a plane crossed adds: a plane, and `unit` more or less for the voxel
abbrev pub unit : Volume → Side → ℕ
unit v X = 1
unit v Y = (v X).n
unit v Z = (v Y).n * (v X).n

pub record Strided (s : Scene) (f : Frame) (t : Strides) : Type 0 where
  pub ticks : (o : Side) → step_of t o ≡ (line s o).d * rest_of f o
  pub upward : (o : Side) → (line s o).p < (line s o).q → jump_of t o ≡ 2 ^ 32 + unit (volume_of s) o
  pub downward : (o : Side) → (line s o).q ≤ (line s o).p → jump_of t o + unit (volume_of s) o ≡ 2 ^ 32

-- on each axis the first plane after αmin
pub record Facing (s : Scene) (f : Frame) (a : Axes ℕ) : Type 0 where
  pub first : (o : Side) → First (line s o) (rest_of f o) f.from (of_side a o)

-- the walk's first voxel, at `at` on each axis
pub record Begun (s : Scene) (f : Frame) (w : Walk) : Type 0 where
  pub at : Side → ℕ
  pub within : (o : Side) → Within (line s o) (rest_of f o) f.from (at o)
  pub leaves_at_lem : (o : Side) → leave_of w o ≡ leaves_at (line s o) (rest_of f o) (at o) (at o + 1)
  pub leaves_size : (o : Side) → leave_of w o ≤ 2 ^ 60
  pub number : w.v ≡ (at Z * s.y.n + at Y) * s.x.n + at X
  pub tick : w.t ≡ f.from

-- a walk whose entries are the list with its parts
pub record Planned (s : Scene) (to : ℕ) (p : Plan) : Type 0 where
  pub forward : Forward p.strides to p.walk
  pub voxels_are : voxels (entries p.strides to p.walk) ≡ list_of (volume_of s) (ray_of s)
  pub parts_are : parts (entries p.strides to p.walk) ≡ map (part_of (volume_of s) (ray_of s)) (list_of (volume_of s) (ray_of s))
  pub crossed_is : planes_by 0 (entries p.strides to p.walk) ≡ crossed_of (volume_of s) (ray_of s)
