-- The rounded quotients of equations (6) and (12), in ticks of k to a unit. Definitions only. Assumes nothing.
use Rattle.std.specs.Prelude.{ℕ, ◌+◌, ◌-◌, ◌*◌, ◌/◌}
use Rattle.line.specs.declared.line.Line.{Line}
use Rattle.line.specs.Beyond.{by_way}

-- where the ray is at the tick t: equation (2)
abbrev pub spot_of : Line → (k t : ℕ) → ℕ
spot_of a k t = by_way a (a.p * k + t) (a.p * k - t) (a.p * k)

-- how many whole voxels lie between the first plane and a place
abbrev pub quotient_of : Line → (k x : ℕ) → ℕ
quotient_of a k x = (x - a.b * k) / (a.d * k)

-- 1 where the ray goes down
abbrev pub back_of : Line → ℕ
back_of a = by_way a 0 1 0
