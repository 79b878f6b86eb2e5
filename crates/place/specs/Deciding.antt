-- Which axis decides αmin or αmax, by fractions over its own difference.
-- Definitions only. Assumes nothing.
use Rattle.std.specs.Prelude.{ℕ, cond, eqb, Option, Some, None, Result, Ok, Err}
use Rattle.axis.specs.Leg.{Leg, factor, Slab, slab, held, enters, leaves}
use Rattle.axis.specs.declared.Limits.{Limits}
use Rattle.axis.specs.declared.refusal.Refusal.{Refusal}
use Rattle.axis.specs.Refusal.{number}
use Rattle.ray.specs.Axes.{Grid}
use Rattle.ray.specs.declared.Ray.{Ray}
use Rattle.line.specs.declared.line.Line.{Line}
use Rattle.line.specs.Scene.{Scene}
use Rattle.line.specs.Scene.{leg_n, planes_of}
use Rattle.line.specs.Raised.{scene_of}
use Rattle.place.specs.Ratio.{Ratio, over, below, greater, lesser}
use Rattle.place.specs.declared.crossing.Stretch.{Stretch}
use Rattle.place.specs.Answers.{refusal_of}

-- α at the lesser and at the greater plane of one axis, each over the axis' own difference
abbrev pub stretch_at : Line → Stretch
stretch_at a =
    let l : Leg = leg_n a.p a.q in
    let s : Slab = slab (planes_of a) 0 a.n in
    record { enter = over (enters 1 l s) (factor l); leave = over (leaves 1 l s) (factor l) }

-- what one axis leaves of the ray, none where it does not hold it
abbrev pub stretch_of : Line → Option Stretch
stretch_of a = cond (held (leg_n a.p a.q) (slab (planes_of a) 0 a.n)) (Some (stretch_at a)) None

abbrev pub αmin : Stretch → Stretch → Stretch → Ratio
αmin x y z = greater x.enter (greater y.enter z.enter)

abbrev pub αmax : Stretch → Stretch → Stretch → Ratio
αmax x y z = lesser (over 1 1) (lesser x.leave (lesser y.leave z.leave))

-- the three axes together: a miss where one does not hold the ray, or where αmax ≤ αmin
unfoldable pub joined_of : Option Stretch → Option Stretch → Option Stretch → Option Stretch
joined_of None y z = None
joined_of (Some x) None z = None
joined_of (Some x) (Some y) None = None
joined_of (Some x) (Some y) (Some z) =
    let e = αmin x y z in
    let l = αmax x y z in
    cond (below e l) (Some (record { enter = e; leave = l })) None

abbrev pub through_of : Scene → Option Stretch
through_of s = joined_of (stretch_of s.x) (stretch_of s.y) (stretch_of s.z)

-- what is found of a ray: a refusal's number; a miss; or αmin and αmax
abbrev pub Crossing : Type 0
Crossing = Result (Option Stretch) ℕ

abbrev pub numbered : Result (Option Stretch) Refusal → Crossing
numbered (Ok t) = Ok t
numbered (Err r) = Err (number r)

unfoldable pub crossing_of : Limits → Grid → Ray → Crossing
crossing_of m g r = cond (eqb (refusal_of m g r) 0) (Ok (through_of (scene_of m g r))) (Err (refusal_of m g r))
