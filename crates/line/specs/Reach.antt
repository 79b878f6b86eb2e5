-- One axis against the whole array, in ticks. Definitions only. Assumes nothing.
use Rattle.std.specs.Prelude.{ℕ, ◌+◌, ◌*◌, ◌^◌, ◌≤◌, ◌≡◌, Bool, ◌&&◌, cond, pos, ltb}
use Rattle.axis.specs.Leg.{moving, run}
use Rattle.ray.specs.Length.{total}
use Rattle.line.specs.declared.line.Line.{Line}
use Rattle.line.specs.declared.reach.Reach.{Reach}
use Rattle.line.specs.Scene.{leg_n, plane, enters_at, leaves_at, held_at}

-- one axis against its first and last plane
pub record Reached (a : Line) (c : ℕ) (r : Reach) : Type 0 where
  pub from_is : r.from ≡ enters_at a c 0 a.n
  pub to_is : r.to ≡ leaves_at a c 0 a.n
  pub held_is : r.held ≡ held_at a 0 a.n
  pub from_size : r.from ≤ 2 ^ 60
  pub to_size : r.to ≤ 2 ^ 60

-- the tick at which the ray meets plane i, 0 where that lies behind the start
abbrev pub meets_at : Line → (c i : ℕ) → ℕ
meets_at a c i = run (leg_n a.p a.q) (pos (plane a i)) * c

-- the tick at which it leaves a voxel by that plane; a still axis is left by none, and leaves the ray whole
abbrev pub left_at : Line → (c i : ℕ) → ℕ
left_at a c i = cond (moving (leg_n a.p a.q)) (meets_at a c i) c

-- an axis' planes with a tick strictly between two
abbrev pub cross_at : Line → (c from to i : ℕ) → Bool
cross_at a c from to i = moving (leg_n a.p a.q) && (ltb from (meets_at a c i) && ltb (meets_at a c i) to)

abbrev pub crossed_on : Line → (c from to : ℕ) → ℕ
crossed_on a c from to = total (λ i. cond (cross_at a c from to i) 1 0) (a.n + 1)
