-- D, what is left of it without each axis, and the two extremes of equation (5). Assumes nothing.
use Rattle.std.proofs.Common.{◌≡◌, ℕ, ◌*◌, ◌^◌, ◌≤◌, min, max, refl, ap, ◌∙◌, arith}
use Rattle.axis.specs.Leg.{factor}
use Rattle.ray.specs.declared.axes.Axes.{Axes}
use Rattle.ray.specs.declared.axes.Side.{Side}
use Rattle.ray.specs.declared.axes.Side.TheVariants.{X, Y, Z}
use Rattle.ray.specs.Side.{of_side}
use Rattle.ray.specs.Length.{leg, d_of, rest}
use Rattle.line.specs.Scene.{Scene}
use Rattle.line.specs.Scene.{ray_of, Able}
use Rattle.line.proofs.Three.{each}
use Rattle.walk.proofs.Frames.{framed}
use Rattle.walk.proofs.Plans.{rest_few, d_few}
use Rattle.walk.proofs.plan.frame_of.Goals as goal

times : {a b c d : ℕ} → a ≡ c → b ≡ d → a * b ≡ c * d
times e f = rw (e, f) refl

-- where the three factors are known
module _ (s : Scene) (able : Able s) (f : Axes ℕ) (is : (o : Side) → of_side f o ≡ factor (leg (ray_of s) o)) where
  abbrev c_of : Side → ℕ
  c_of = each _ (f.y * f.z) (f.x * f.z) (f.x * f.y)

  rests : (o : Side) → c_of o ≡ rest (ray_of s) o
  rests = each _ (times (is Y) (is Z)) (times (is X) (is Z)) (times (is X) (is Y))

  d_is : f.x * (f.y * f.z) ≡ d_of (ray_of s)
  d_is = times (is X) (rests X)

  few : (o : Side) → c_of o ≤ 2 ^ 40
  few o = rw (rests o) (rest_few able o)

pub overflow_mul-rest : goal.overflow_mul-rest
overflow_mul-rest c = record { fits = omega (arith, few c.args.s c.requires c.factors-f.result c.factors-f.ensures X) }

pub overflow_mul-rest-2 : goal.overflow_mul-rest-2
overflow_mul-rest-2 c = record { fits = omega (arith, few c.args.s c.requires c.factors-f.result c.factors-f.ensures Y) }

pub overflow_mul-rest-3 : goal.overflow_mul-rest-3
overflow_mul-rest-3 c = record { fits = omega (arith, few c.args.s c.requires c.factors-f.result c.factors-f.ensures Z) }

pub overflow_mul-denominator : goal.overflow_mul-denominator
overflow_mul-denominator c = record { fits = omega (arith, d_is c.args.s c.requires c.factors-f.result c.factors-f.ensures, d_few c.requires) }

pub reach-x-requires : goal.reach-x-requires
reach-x-requires c = (c.requires.sized X, few c.args.s c.requires c.factors-f.result c.factors-f.ensures X)

pub reach-y-requires : goal.reach-y-requires
reach-y-requires c = (c.requires.sized Y, few c.args.s c.requires c.factors-f.result c.factors-f.ensures Y)

pub reach-z-requires : goal.reach-z-requires
reach-z-requires c = (c.requires.sized Z, few c.args.s c.requires c.factors-f.result c.factors-f.ensures Z)

pub returns : goal.returns
returns c =
    let rest_is = rests c.args.s c.requires c.factors-f.result c.factors-f.ensures in
    framed (each _ c.reach-x.result c.reach-y.result c.reach-z.result) (each _ (rest_is X) (rest_is Y) (rest_is Z))
    (each _ c.reach-x.ensures c.reach-y.ensures c.reach-z.ensures)
    (d_is c.args.s c.requires c.factors-f.result c.factors-f.ensures)
    (c.max-from.ensures ∙ ap (max c.reach-x.result.from) c.max.ensures)
    (c.min-to.ensures ∙ ap (min _) (c.min-2.ensures ∙ ap (min c.reach-x.result.to) c.min.ensures))
    c.hits-hit.ensures
