-- Hit and miss, span and planes crossed (RULES 4), told by the fractions αmin and αmax of the array. Assumes nothing.
use Prim.Native.Nat.{ℕ, ◌<◌}
use mathlib.Core.Path.{◌≡◌, sym, ap}
use mathlib.Core.Bool.{Bool, false, ◌&&◌, ◌||◌, not}
use mathlib.Core.Logic.{inl, inr}
use native.Mathlib.Nat.{sub-pos_iff_lt}
use lib.Dec.{leb}
use borrow.Author.Tests.{leb-false}
use Rattle.axis.specs.Leg.{moving}
use Rattle.axis.proofs.Flag.{or_left}
use Rattle.ray.specs.declared.Ray.{Ray}
use Rattle.ray.specs.declared.axes.Side.{Side}
use Rattle.ray.specs.Length.{leg, d_of, Volume, array, holds, start, stop, misses, span_of, crosses}
use Rattle.ray.proofs.Tests.{tested}
use Rattle.ray.proofs.Fraction.{◌≤ᶠ◌, ◌<ᶠ◌, minus, Is, above_zero, le_at, between_at, minus_at}
use Rattle.ray.proofs.Formula.{α, α_at, αmin, αmax, αmin_is, αmax_at, αmax_is}

module _ (v : Volume) (r : Ray) where
  -- A miss is αmax ≤ αmin, or a still coordinate that the array does not hold.
  pub misses_are : misses v r ≡ ((αmax r (array v) ≤ᶠ αmin r (array v)) || not (holds r (array v)))
  unfolding misses
  misses_are = ap (λ (t : Bool). t || not (holds r (array v))) (sym (le_at (αmax_at r (array v)) (αmin_is r (array v))))

  module _ (hit : misses v r ≡ false) where
    pub ahead : start r (array v) < stop r (array v)
    unfolding misses
    ahead = leb-false (stop r (array v)) (start r (array v)) (or_left (leb (stop r (array v)) (start r (array v))) (not (holds r (array v))) hit)

    pub αmax_hit : Is (d_of r) (αmax r (array v)) (stop r (array v))
    αmax_hit = αmax_is r (array v) ahead

    -- Span over D is αmax less αmin; on a miss it is 0.
    pub span_hit : Is (d_of r) (minus (αmax r (array v)) (αmin r (array v))) (span_of v r)
    unfolding span_of
    span_hit = rw hit
        (above_zero (minus_at (αmax_at r (array v)) (αmin_is r (array v))) (sub-pos_iff_lt.1 ahead))

  -- A plane is crossed where its α lies strictly between αmin and αmax.
  pub crosses_are : (s : Side) (i : ℕ)
      → crosses v r s i ≡ (moving (leg r s) && ((αmin r (array v) <ᶠ α (leg r s) ((v s).at i)) && (α (leg r s) ((v s).at i) <ᶠ αmax r (array v))))
  unfolding crosses
  crosses_are s i = elim (tested (moving (leg r s))) [
    | inl h ↦ rw h (sym (between_at (αmin_is r (array v)) (α_at r s ((v s).at i) h) (αmax_at r (array v))))
    | inr h ↦ rw h
  ]
