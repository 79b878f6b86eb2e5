-- A grid and a ray told from the lower limit up. Definitions only. Assumes nothing.
use Rattle.std.specs.Prelude.{ℕ, ◌+◌, ◌*◌, ◌^◌, ◌≤◌, ◌<◌, ℤ, pos, ◌+ℤ◌}
use Rattle.axis.specs.declared.Axis.{Axis}
use Rattle.axis.specs.Leg.{natural}
use Rattle.axis.specs.declared.Limits.{Limits}
use Rattle.ray.specs.Axes.{Grid}
use Rattle.ray.specs.declared.Ray.{Ray}
use Rattle.line.specs.declared.line.Line.{Line}
use Rattle.line.specs.Scene.{Scene}

-- limits that the walk takes: a coordinate told from below is at most 2^20
pub record Small (m : Limits) : Type 0 where
  pub coord_some : 0 < m.coord
  pub coord_size : m.coord + m.coord ≤ 2 ^ 20
  pub d_size : m.d ≤ 2 ^ 20
  pub n_size : m.n ≤ 2 ^ 9

-- D of a ray from corner to corner is the cube of twice the greatest coordinate
abbrev pub cube : ℕ → ℕ
cube x = x * (x * x)

-- an axis and the ray on it, every coordinate told from the lower limit up
abbrev pub line_of : Limits → Axis → ℤ → ℤ → Line
line_of m a p q = record {
  p = natural (p +ℤ pos m.coord);
  q = natural (q +ℤ pos m.coord);
  b = natural (a.b +ℤ pos m.coord);
  d = a.d;
  n = a.n;
}

abbrev pub scene_of : Limits → Grid → Ray → Scene
scene_of m g r = record {
  x = line_of m g.x r.p.x r.q.x;
  y = line_of m g.y r.p.y r.q.y;
  z = line_of m g.z r.p.z r.q.z;
}
