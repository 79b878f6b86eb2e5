-- The walk as a function on numbers, with nothing of the geometry: what the code does, turn by turn. Definitions only. Assumes nothing.
use Rattle.std.specs.Prelude.{◌≡◌, ℕ, zero, suc, ◌+◌, ◌-◌, ◌*◌, ◌/◌, ◌%◌, ◌^◌, ◌<◌, ◌≤◌, min, cond, List, [], ◌∷◌, ◌++◌, map, length, drop, ◌==◌, nat_le, slice_index}
use Rattle.ray.specs.declared.axes.Side.{Side}
use Rattle.ray.specs.declared.axes.Side.TheVariants.{X, Y, Z}
use Rattle.ray.specs.Side.{of_side, with_side}
use Rattle.walk.specs.declared.steps.Walk.{Walk}
use Rattle.walk.specs.declared.steps.Strides.{Strides}
use Rattle.walk.specs.declared.entries.Tally.{Tally}

-- the walk's fields by side
abbrev pub leave_of : Walk → Side → ℕ
leave_of w o = of_side w.leave o

abbrev pub step_of : Strides → Side → ℕ
step_of t o = of_side t.step o

abbrev pub jump_of : Strides → Side → ℕ
jump_of t o = of_side t.jump o

-- the tick at which the walk leaves its voxel
abbrev pub soonest : Walk → ℕ
soonest w = min w.leave.x (min w.leave.y w.leave.z)

-- the tick of the plane after the one by which the walk leaves its voxel on a side: planes lie at equal steps, and nothing else here says so
abbrev pub next : Strides → Walk → Side → ℕ
next s w o = leave_of w o + step_of s o

-- the walk one plane on by a side, at u
abbrev pub over_of : Strides → ℕ → Side → Walk → Walk
over_of s u o w = record { leave = with_side w.leave o (next s w o); v = (w.v + jump_of s o) % 2 ^ 64; t = u }

-- a leave tick, and v, where a side is left at u
abbrev pub further : Strides → Walk → ℕ → Side → ℕ
further s w u o = cond (leave_of w o == u) (next s w o) (leave_of w o)

abbrev pub hop : Strides → Walk → ℕ → Side → ℕ → ℕ
hop s w u o v = cond (leave_of w o == u) ((v + jump_of s o) % 2 ^ 64) v

unfoldable pub stepped : Strides → Walk → Walk
stepped s w =
    let u : ℕ = soonest w in
    record {
      leave = record { x = further s w u X; y = further s w u Y; z = further s w u Z };
      v = hop s w u Z (hop s w u Y (hop s w u X w.v));
      t = u;
    }

-- what a turn lists: the voxel, and the ticks up to its end or the ray's; and the planes crossed before it
pub record Entry : Type 0 where
  pub voxel : ℕ
  pub part : ℕ
  pub planes : ℕ

abbrev pub entry : Walk → ℕ → Entry
entry w end = record { voxel = w.v % 2 ^ 32; part = end - w.t; planes = w.v / 2 ^ 32 }

abbrev pub voxels : List Entry → List ℕ
voxels es = map (λ (e : Entry). e.voxel) es

abbrev pub parts : List Entry → List ℕ
parts es = map (λ (e : Entry). e.part) es

-- the entries of a walk up to the tick `to`, in at most `turns` turns
unfoldable pub go : ℕ → Strides → ℕ → Walk → List Entry
go zero s to w = []
go (suc turns) s to w = cond (nat_le to (soonest w)) (entry w to ∷ []) (entry w (soonest w) ∷ go turns s to (stepped s w))

-- a turn costs a tick at least, so this many turns are enough
abbrev pub entries : Strides → ℕ → Walk → List Entry
entries s to w = go (to - w.t) s to w

-- the planes crossed before the last of some entries, n where there is none
abbrev pub planes_by : ℕ → List Entry → ℕ
planes_by n [] = n
planes_by n (e ∷ es) = planes_by e.planes es

-- the sum of part·density, and that every voxel has a density
abbrev pub weight : List ℕ → List Entry → ℕ
weight densities [] = 0
weight densities (e ∷ es) = e.part * slice_index densities e.voxel + weight densities es

abbrev pub Dense : List ℕ → List Entry → Type 0
Dense densities [] = Unit {0}
Dense densities (e ∷ es) = (e.voxel < length densities) × Dense densities es

-- what is told of entries that are listed
abbrev pub tally_of : List ℕ → List Entry → Tally
tally_of densities es = record { entries = length es; crossed = planes_by 0 es; sum = weight densities es }

-- what keeps the ticks within 64 bits and the walk going forward
pub record Forward (s : Strides) (to : ℕ) (w : Walk) : Type 0 where
  pub steps_some : (o : Side) → 0 < step_of s o
  pub steps_size : (o : Side) → step_of s o ≤ 2 ^ 60
  pub leaves_size : (o : Side) → leave_of w o ≤ 2 ^ 61
  pub to_size : to ≤ 2 ^ 60
  pub later : w.t < soonest w
  pub before : w.t < to

-- the entries in front of two lists, and what stood behind them stands there still
pub record Filled (es : List Entry) (vs ps vs₀ ps₀ : List ℕ) : Type 0 where
  pub voxels_now : vs ≡ voxels es ++ drop (length es) vs₀
  pub parts_now : ps ≡ parts es ++ drop (length es) ps₀
