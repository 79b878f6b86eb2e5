-- Every scene that is hit has a walk, which sets out where the ray comes into the array. So what walks are known to give holds of
-- ray's definitions, with no walk in the statement; and on its way the ray crosses fewer planes of an axis than there are voxels.
-- Assumes nothing.
use Rattle.std.proofs.Common.{◌≡◌, ℕ, ◌+◌, ◌-◌, ◌*◌, ◌^◌, ◌<◌, ◌≤◌, true, false, cond, not, ltb, refl, ap, ◌∙◌, arith, le-ltb, lt-ltb}
use Rattle.ray.specs.declared.axes.Side.{Side}
use Rattle.ray.specs.declared.axes.Side.TheVariants.{X, Y, Z}
use Rattle.ray.specs.Length.{rest, d_of, misses, crossed_of}
use Rattle.line.specs.Scene.{Scene}
use Rattle.line.specs.Scene.{line, volume_of, ray_of, Able, leaves_at, Within}
use Rattle.line.specs.Reach.{crossed_on}
use Rattle.line.proofs.Three.{each}
use Rattle.line.proofs.Rounded.{voxel_of}
use Rattle.line.proofs.Sizes.{leave_ticks}
use Rattle.line.proofs.Crossing.{crossed_is}
use Rattle.line.proofs.Scenes.{from_of, to_of}
use Rattle.walk.specs.declared.steps.Walk.{Walk}
use Rattle.walk.specs.declared.steps.Strides.{Strides}
use Rattle.walk.specs.declared.plan.Frame.{Frame}
use Rattle.walk.specs.Model.{Forward}
use Rattle.walk.specs.Plan.{rest_of, Framed, unit, Strided, Begun}
use Rattle.walk.proofs.Walking.{Paced, Walking}
use Rattle.walk.proofs.Found.{crossed_by}
use Rattle.walk.proofs.Plans.{unit_few, few, windows, proper, walking, paced, forward, crossed_all}

pub record SetOut (s : Scene) : Type 0 where
  pub walk : Walk
  pub at : Side → ℕ
  pub strides : Strides
  pub on : Walking s walk at
  pub pace : Paced s strides
  pub ahead : Forward strides (to_of s) walk
  pub tick : walk.t ≡ from_of s

-- the definitions themselves make a frame
abbrev frame : Scene → Frame
frame s = record {
  rest = record { x = rest (ray_of s) X; y = rest (ray_of s) Y; z = rest (ray_of s) Z };
  denominator = d_of (ray_of s);
  from = from_of s;
  to = to_of s;
  hit = not (misses (volume_of s) (ray_of s));
}

framed : (s : Scene) → Framed s (frame s)
framed s = record { rests = each _ refl refl refl; denominator_is = refl; from_is = refl; to_is = refl; hit_is = refl }

-- a plane, and one voxel on, or one back
abbrev jump : Scene → Side → ℕ
jump s o = cond (ltb (line s o).p (line s o).q) (2 ^ 32 + unit (volume_of s) o) (2 ^ 32 - unit (volume_of s) o)

module _ {s : Scene} (able : Able s) where
  abbrev strides : Strides
  strides = record {
    step = record { x = s.x.d * (frame s).rest.x; y = s.y.d * (frame s).rest.y; z = s.z.d * (frame s).rest.z };
    jump = record { x = jump s X; y = jump s Y; z = jump s Z };
  }

  on_up : (o : Side) → (line s o).p < (line s o).q → jump s o ≡ 2 ^ 32 + unit (volume_of s) o
  on_up o k = rw (lt-ltb (line s o).p (line s o).q k) refl

  on_down : (o : Side) → (line s o).q ≤ (line s o).p → jump s o + unit (volume_of s) o ≡ 2 ^ 32
  on_down o k = rw (le-ltb (line s o).p (line s o).q k) (omega (arith, unit_few able o))

  pacing : Strided s (frame s) strides
  pacing = record { ticks = each _ refl refl refl; upward = each _ (on_up X) (on_up Y) (on_up Z); downward = each _ (on_down X) (on_down Y) (on_down Z) }

  module _ (hit : misses (volume_of s) (ray_of s) ≡ false) where
    hits : (frame s).hit ≡ true
    hits = rw hit refl

    from_to : (frame s).from < (frame s).to
    from_to = proper able (framed s) hits

    -- on each axis the voxel of a tick at which the ray is in the array
    voxel : (t : ℕ) → (frame s).from ≤ t → t < (frame s).to → (o : Side) → (i : ℕ) × Within (line s o) (rest_of (frame s) o) t i
    voxel t a b o = voxel_of (line s o) (rest_of (frame s) o) t (windows able (framed s) hits o t a b) (able.sized o)

    abbrev at : Side → ℕ
    at o = (voxel (frame s).from (omega arith) from_to o).0

    first_within : (o : Side) → Within (line s o) (rest_of (frame s) o) (frame s).from (at o)
    first_within o = (voxel (frame s).from (omega arith) from_to o).1

    abbrev leave : Side → ℕ
    leave o = leaves_at (line s o) (rest_of (frame s) o) (at o) (at o + 1)

    leave_few : (o : Side) → leave o ≤ 2 ^ 60
    leave_few o = leave_ticks (line s o) (able.sized o) (omega arith) (omega (arith, (first_within o).inside)) (few able (framed s) o)

    first : Begun s (frame s) (record { leave = record { x = leave X; y = leave Y; z = leave Z }; v = (at Z * s.y.n + at Y) * s.x.n + at X; t = (frame s).from })
    first = record {
      at = at;
      within = first_within;
      leaves_at_lem = each _ refl refl refl;
      leaves_size = each _ (leave_few X) (leave_few Y) (leave_few Z);
      number = refl;
      tick = refl;
    }

    pub set_out : SetOut s
    set_out = record {
      walk = _;
      at = first.at;
      strides = strides;
      on = walking able (framed s) hits first;
      pace = paced able (framed s) hits first pacing;
      ahead = forward able (framed s) hits first pacing;
      tick = refl;
    }

    -- ---- between the voxel that the ray comes in by and the one it goes out by, an axis has fewer planes than voxels
    apart : (i j k n : ℕ) → i < n → j < n → (i - j) + (j - i) ≡ k → k + 1 ≤ n
    apart i j k n a b e = omega arith

    on_few : (o : Side) → crossed_by s o + 1 ≤ (line s o).n
    on_few o =
        let some = from_to in
        let last = (voxel ((frame s).to - 1) (omega arith) (omega arith) o).1 in
        apart _ _ (crossed_by s o) (line s o).n (first_within o).inside last.inside
        (crossed_is (line s o) (rest_of (frame s) o) (able.sized o) (frame s).from (frame s).to _ _ (first_within o) last some
        ∙ ap (λ (c : ℕ). crossed_on (line s o) c (from_of s) (to_of s)) ((framed s).rests o))

    pub few_planes : crossed_of (volume_of s) (ray_of s) + 3 ≤ s.x.n + s.y.n + s.z.n
    few_planes = omega (arith, on_few X, on_few Y, on_few Z, crossed_all s hit)
