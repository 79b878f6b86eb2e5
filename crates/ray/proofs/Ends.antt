-- Whether a ray's ends are accepted: turned round as it is, and each piece of an accepted ray. Assumes nothing.
use mathlib.Core.Path.{◌≡◌, refl, sym, ap₂, ◌∙◌}
use mathlib.Core.Bool.{Bool, true, false, not, cond, or_comm}
use mathlib.Core.Logic.{⊎_elim}
use lib.IntN.{ℤ, pos, neg_ℤ}
use lib.Signed.{le_z}
use borrow.Author.Tests.{not-false}
use Rattle.axis.specs.Leg.{moving}
use Rattle.axis.specs.declared.Limits.{Limits}
use Rattle.axis.specs.Codes.{inside, first}
use Rattle.axis.proofs.Flag.{and_left, and_right}
use Rattle.axis.proofs.Table.{off}
use Rattle.ray.specs.Axes.{End}
use Rattle.ray.specs.declared.Ray.{Ray}
use Rattle.ray.specs.declared.axes.Side.{Side}
use Rattle.ray.specs.declared.axes.Side.TheVariants.{X, Y, Z}
use Rattle.ray.specs.Length.{leg}
use Rattle.ray.specs.Codes.{end_rows}
use Rattle.ray.proofs.Tests.{any, any_by, any_of}
use Rattle.ray.proofs.Accepted.{out, moves, ends_are, ends_inside}
use Rattle.ray.proofs.Told.{le_through}
use Rattle.ray.proofs.CutLeg.{ordered}
use Rattle.ray.proofs.Turned.{turned, moving_turned}
use Rattle.ray.proofs.CutBox.{coordinate, Between, cut, near, far, moving_near, moving_far}

module _ (lim : Limits) where
  pub ends_turned : (r : Ray) → first (end_rows lim (turned r)) ≡ first (end_rows lim r)
  ends_turned r = ends_are lim (turned r) ∙ ap₂ (λ (a b : Bool). cond a 5 (cond (not b) 6 0)) outs moved ∙ sym (ends_are lim r)
    where
      swapped : (s : Side) → out lim (turned r) s ≡ out lim r s
      swapped X = or_comm (not (inside lim r.q.x)) _
      swapped Y = or_comm (not (inside lim r.q.y)) _
      swapped Z = or_comm (not (inside lim r.q.z)) _

      outs : any (out lim (turned r)) ≡ any (out lim r)
      outs = rw (swapped X, swapped Y, swapped Z)

      moved : any (moves (turned r)) ≡ any (moves r)
      moved = rw (moving_turned r X, moving_turned r Y, moving_turned r Z)

  within : (x y z : ℤ) → inside lim x ≡ true → inside lim z ≡ true → le_z x y ≡ true → le_z y z ≡ true → inside lim y ≡ true
  within x y z hx hz a b =
      rw (
        le_through (neg_ℤ (pos lim.coord)) x y (and_left (le_z (neg_ℤ (pos lim.coord)) x) (le_z x (pos lim.coord)) hx) a,
        le_through y z (pos lim.coord) b (and_right (le_z (neg_ℤ (pos lim.coord)) z) (le_z z (pos lim.coord)) hz),
      )

  module _ (r : Ray) (accepted : first (end_rows lim r) ≡ 0) where
    -- an accepted ray moves on some axis
    pub moves_on : (s : Side) × (moving (leg r s) ≡ true)
    moves_on = any_of (moves r) (not-false _ (off (end_rows lim r) refl accepted).1.1.1.1.1.1.0)

    p_inside : (s : Side) → inside lim (leg r s).p ≡ true
    p_inside s = (ends_inside lim r accepted s).0

    q_inside : (s : Side) → inside lim (leg r s).q ≡ true
    q_inside s = (ends_inside lim r accepted s).1

    module _ (m : End) (between : Between r m) where
      m_inside : (s : Side) → inside lim (coordinate m s) ≡ true
      m_inside s =
          ⊎_elim
          (λ h. within (leg r s).p (coordinate m s) (leg r s).q (p_inside s) (q_inside s) h.0 h.1)
          (λ h. within (leg r s).q (coordinate m s) (leg r s).p (q_inside s) (p_inside s) h.0 h.1)
          (ordered (cut r m between s))

      moving_piece : (t : Ray) → any (out lim t) ≡ false → ((s : Side) → moving (leg t s) ≡ moving (leg r s)) → first (end_rows lim t) ≡ 0
      moving_piece t h k =
          ends_are lim t ∙ ap₂ (λ (a b : Bool). cond a 5 (cond (not b) 6 0)) h (any_by (moves t) moves_on.0 (k moves_on.0 ∙ moves_on.1))

      -- so the pieces are accepted
      pub ends_near : first (end_rows lim (near r m)) ≡ 0
      ends_near = moving_piece (near r m) (rw (p_inside X, p_inside Y, p_inside Z, m_inside X, m_inside Y, m_inside Z)) (moving_near r m between)

      pub ends_far : first (end_rows lim (far r m)) ≡ 0
      ends_far = moving_piece (far r m) (rw (q_inside X, q_inside Y, q_inside Z, m_inside X, m_inside Y, m_inside Z)) (moving_far r m between)
