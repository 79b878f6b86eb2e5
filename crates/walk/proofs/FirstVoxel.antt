-- The walk begins in the voxel of equation (12), in fractions, at the middle of the first stretch: that from αmin to the soonest plane
-- after it, or to αmax where none lies between. Assumes nothing.
use Rattle.std.proofs.Common.{◌≡◌, ℕ, ◌+◌, ◌-◌, ◌*◌, ◌/◌, ◌<◌, ◌≤◌, min, true, pos, sym, ◌∙◌, ap₂, mul_comm, arith}
use Rattle.axis.specs.Leg.{Leg, factor}
use Rattle.ray.specs.declared.axes.Side.{Side}
use Rattle.ray.specs.Length.{leg, d_of, rest, array}
use Rattle.ray.proofs.Capped.{d_side}
use Rattle.ray.proofs.Fraction.{Fraction, Is}
use Rattle.ray.proofs.Formula.{αmin, αmin_is, αmid, equation12}
use Rattle.line.specs.declared.line.Line.{Line}
use Rattle.line.specs.Scene.{Scene}
use Rattle.line.specs.Scene.{leg_n, line, volume_of, ray_of, Able, leaves_at}
use Rattle.line.specs.Quotient.{spot_of}
use Rattle.line.proofs.Three.{least_le}
use Rattle.line.proofs.Scenes.{leg_is}
use Rattle.line.proofs.Equation12.{stretch_equation12}
use Rattle.walk.specs.declared.steps.Walk.{Walk}
use Rattle.walk.specs.declared.plan.Frame.{Frame}
use Rattle.walk.specs.Model.{leave_of, soonest}
use Rattle.walk.specs.Plan.{rest_of, Framed, Begun}
use Rattle.walk.proofs.Walking.{soon_later}
use Rattle.walk.proofs.Plans.{proper, walking}

module _ {s : Scene} (able : Able s) {f : Frame} (framed : Framed s f) (hit : f.hit ≡ true) {w : Walk} (begun : Begun s f w) where
  -- where the first stretch ends
  abbrev next : ℕ
  next = min f.to (soonest w)

  some : f.from < next
  some = omega (arith, proper able framed hit, soon_later able (walking able framed hit begun), begun.tick)

  module _ (o : Side) where
    abbrev a : Line
    a = line s o

    abbrev l : Leg
    l = leg_n a.p a.q

    abbrev k : ℕ
    k = 2 * rest_of f o

    until : next ≤ leaves_at a (rest_of f o) (begun.at o) (begun.at o + 1)
    until = omega (arith, least_le (leave_of w) o, begun.leaves_at_lem o)

    d_is : d_of (ray_of s) ≡ rest_of f o * factor l
    d_is = d_side (ray_of s) o ∙ mul_comm (factor (leg (ray_of s) o)) (rest (ray_of s) o) ∙ ap₂ (λ (c : ℕ) (x : Leg). c * factor x) (sym (framed.rests o)) (leg_is s o)

    -- what the code divides, and by what, is (12) at the middle; its quotient rounded down, capped in the far face, is where the walk begins
    abbrev divided : ℕ
    divided = spot_of a k (f.from + next) - a.b * k

    pub first_equation12 : {y : Fraction} → Is (d_of (ray_of s)) y next
        → Is (a.d * k) (equation12 l (pos a.b) a.d (αmid (αmin (ray_of s) (array (volume_of s))) y)) divided × (min (divided / (a.d * k)) (a.n - 1) ≡ begun.at o)
    first_equation12 y-is =
        let x-is : Is (rest_of f o * factor l) (αmin (ray_of s) (array (volume_of s))) f.from = rw (← d_is, framed.from_is) (αmin_is (ray_of s) (array (volume_of s))) in
        stretch_equation12 a (able.sized o) (rest_of f o) f.from next (begun.within o) some until x-is (rw d_is at y-is)
