-- The plane by which a voxel is left, and a stretch that no plane cuts. Definitions only. Assumes nothing.
use Rattle.std.specs.Prelude.{ℕ, ◌+◌, ◌≤◌, ◌<◌, ◌≡◌, cond, ltb}
use Rattle.line.specs.declared.line.Line.{Line}
use Rattle.line.specs.Scene.{leaves_at, Within}

-- one of three, by the way that the ray goes on the axis: up, down, not at all
abbrev pub by_way : Line → (up down still : ℕ) → ℕ
by_way a up down still = cond (ltb a.p a.q) up (cond (ltb a.q a.p) down still)

-- the plane by which the ray leaves voxel i; a still axis is left by none, and is told 0
abbrev pub beyond : Line → ℕ → ℕ
beyond a i = by_way a (i + 1) i 0

-- plane i is the one by which the ray leaves the voxel of the tick t
pub record First (a : Line) (c t i : ℕ) : Type 0 where
  pub ahead : (k : ℕ) → Within a c t k → i ≡ beyond a k
  pub few : i ≤ a.n

-- some ticks of the ray, and no plane of the axis between them
pub record Stretch (a : Line) (c from next : ℕ) : Type 0 where
  pub some : from < next
  pub clear : (i : ℕ) → Within a c from i → next ≤ leaves_at a c i (i + 1)
