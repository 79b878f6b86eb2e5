-- A scene read as a volume and a ray of crate ray, and what its sizes may be. Definitions only. Assumes nothing.
use Rattle.std.specs.Prelude.{ℕ, ◌+◌, ◌*◌, ◌^◌, ◌≤◌, ◌<◌, ◌≡◌, Bool, true, pos}
use Rattle.axis.specs.Leg.{Planes, Leg, Slab, slab, held, enters, leaves}
use Rattle.ray.specs.declared.Ray.{Ray}
use Rattle.ray.specs.declared.axes.Axes.{Axes}
use Rattle.ray.specs.Side.{of_side}
use Rattle.ray.specs.declared.axes.Side.{Side}
use Rattle.ray.specs.Length.{Volume}
use Rattle.line.specs.declared.line.Line.{Line}

abbrev pub leg_n : ℕ → ℕ → Leg
leg_n p q = record { p = pos p; q = pos q }

abbrev pub slab_n : (lo hi : ℕ) → Bool → Slab
slab_n lo hi closed = record { lo = pos lo; hi = pos hi; closed = closed }

abbrev pub plane : Line → ℕ → ℕ
plane a i = a.b + i * a.d

abbrev pub planes_of : Line → Planes
planes_of a = record { n = a.n; at = λ i. pos (plane a i) }

-- a line for each axis
abbrev pub Scene : Type 0
Scene = Axes Line

abbrev pub line : Scene → Side → Line
line = of_side

abbrev pub volume_of : Scene → Volume
volume_of s side = planes_of (line s side)

abbrev pub ray_of : Scene → Ray
ray_of s = record {
  p = record { x = pos s.x.p; y = pos s.y.p; z = pos s.z.p };
  q = record { x = pos s.x.q; y = pos s.y.q; z = pos s.z.q };
}

-- coordinates up to 2^20, so that every product of three differences fits 64 bits twice over
pub record Sized (a : Line) : Type 0 where
  pub some : 0 < a.n
  pub wide : 0 < a.d
  pub p_size : a.p ≤ 2 ^ 20
  pub q_size : a.q ≤ 2 ^ 20
  pub d_size : a.d ≤ 2 ^ 20
  pub n_size : a.n ≤ 2 ^ 9
  pub far_size : plane a a.n ≤ 2 ^ 20

pub record Able (s : Scene) : Type 0 where
  pub sized : (side : Side) → Sized (line s side)

-- where the ray comes in between the planes i and j of an axis, in ticks of c to a unit, where it goes out, and whether
-- they hold a still one
abbrev pub enters_at : Line → (c i j : ℕ) → ℕ
enters_at a c i j = enters c (leg_n a.p a.q) (slab (planes_of a) i j)

abbrev pub leaves_at : Line → (c i j : ℕ) → ℕ
leaves_at a c i j = leaves c (leg_n a.p a.q) (slab (planes_of a) i j)

abbrev pub held_at : Line → (i j : ℕ) → Bool
held_at a i j = held (leg_n a.p a.q) (slab (planes_of a) i j)

-- the tick t is within the array's planes on an axis
pub record Window (a : Line) (c t : ℕ) : Type 0 where
  pub some : 0 < c
  pub holds : held_at a 0 a.n ≡ true
  pub since : enters_at a c 0 a.n ≤ t
  pub until : t < leaves_at a c 0 a.n

-- and within the planes of its voxel i
pub record Within (a : Line) (c t i : ℕ) : Type 0 where
  pub inside : i < a.n
  pub holds : held_at a i (i + 1) ≡ true
  pub since : enters_at a c i (i + 1) ≤ t
  pub until : t < leaves_at a c i (i + 1)
