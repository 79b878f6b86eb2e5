-- The answers on a hit by the fractions of equation (5) (RULES 8): the two floats are those nearest αmin and αmax, and each coordinate
-- is the float nearest P + α(Q - P) there. Assumes nothing.
use Prim.Native.Nat.{ℕ, ◌≤◌}
use mathlib.Core.Path.{◌≡◌, refl, ap, ◌∙◌}
use mathlib.Core.Bool.{false}
use native.Mathlib.Nat.{le_trans, le_of_lt}
use lib.IntN.{ℤ}
use lib.Ieee.{Float}
use Rattle.axis.specs.Leg.{natural, Slab}
use Rattle.axis.specs.declared.Limits.{Limits}
use Rattle.ray.specs.Axes.{Grid}
use Rattle.ray.specs.declared.Ray.{Ray}
use Rattle.ray.specs.declared.axes.Side.{Side}
use Rattle.ray.specs.declared.axes.Side.TheVariants.{X, Y, Z}
use Rattle.ray.specs.Length.{leg, d_of, volume, array, misses}
use Rattle.ray.proofs.Accepted.{ends_inside}
use Rattle.ray.proofs.Capped.{stop_cap}
use Rattle.ray.proofs.Fraction.{Fraction, Is, at, least0}
use Rattle.ray.proofs.Formula.{along, αmin, αmax, αmin_is}
use Rattle.ray.proofs.HitOrMiss.{αmax_hit, ahead}
use Rattle.place.specs.declared.Place.TheVariants as place
use Rattle.place.specs.declared.Point.{Point}
use Rattle.place.specs.declared.Mark.TheVariants as mark
use Rattle.place.specs.Answers.{nearest, coordinate, refusal_of, place_of, point_at, points_of}
use Rattle.place.proofs.Accepted.{accepted}
use Rattle.place.proofs.Signed.{nearest_is}
use Rattle.place.proofs.OnLeg.{coordinate_is}

abbrev pub nearest_to : Fraction → Float
nearest_to x = nearest x.num x.den

abbrev pub point_to : Ray → Fraction → Point
point_to r α = record { x = nearest_to (along (leg r X) α); y = nearest_to (along (leg r Y) α); z = nearest_to (along (leg r Z) α) }

module _ (m : Limits) (g : Grid) (r : Ray) (ok : refusal_of m g r ≡ 0) (hit : misses (volume g) r ≡ false) where
  abbrev box : Side → Slab
  box = array (volume g)

  pub place_equation5 : place_of m g r ≡ place.Hit (nearest_to (αmin r box)) (nearest_to (αmax r box))
  unfolding place_of
  place_equation5 = rw (ok, hit, nearest_is (αmin_is r box), nearest_is (αmax_hit (volume g) r hit)) refl

  module _ {α : Fraction} {t : ℕ} (p : Is (d_of r) α t) (most : t ≤ d_of r) where
    along_is : (s : Side) → nearest_to (along (leg r s) α) ≡ coordinate (leg r s) t (d_of r)
    along_is s =
        ap (λ (z : ℤ). nearest_to (along (leg r s) (record { num = z; den = α.den }))) (least0 p)
        ∙ coordinate_is m (leg r s) (ends_inside m r (accepted m g r ok).ends s) (natural α.num) α.den t (d_of r) p.den_pos p.d_pos most (at p)

    point_is : point_to r α ≡ point_at r t (d_of r)
    point_is = rw (along_is X, along_is Y, along_is Z)

  pub points_equation5 : points_of m g r ≡ record { mark = mark.Hit; enter = point_to r (αmin r box); leave = point_to r (αmax r box) }
  unfolding points_of
  points_equation5 =
      rw (
        ok,
        hit,
        point_is (αmin_is r box) (le_trans (le_of_lt (ahead (volume g) r hit)) (stop_cap r box)),
        point_is (αmax_hit (volume g) r hit) (stop_cap r box),
      ) refl
