-- The point call's answer from what was found, and what RULES 8 says of every hit's two points, for every grid and ray that the
-- call accepts, at any limits that are small enough. Assumes nothing.
use Prim.Native.Nat.{ℕ, ◌≤◌, zero-le}
use mathlib.Core.Path.{◌≡◌, refl, sym, ◌∙◌, subst}
use native.Mathlib.Nat.{le_refl, le_trans, lt_of_lt_of_le, lt_of_le_of_lt, le_of_eq, le_of_lt}
use native.Mathlib.Omega.{arith}
use lib.IntN.{ℤ, pos, ◌*ℤ◌}
use Rattle.std.specs.Prelude.{Some, None, Ok, Err}
use lib.Dec.{T}
use lib.Ieee.{Float, binary64, le, of_int}
use Rattle.axis.specs.Leg.{Slab, slab, planes}
use Rattle.axis.specs.declared.Limits.{Limits}
use Rattle.ray.specs.Axes.{Grid}
use Rattle.ray.specs.declared.Ray.{Ray}
use Rattle.ray.specs.Side.{of_side}
use Rattle.ray.specs.declared.axes.Side.{Side}
use Rattle.ray.specs.declared.axes.Side.TheVariants.{X, Y, Z}
use Rattle.ray.specs.Length.{leg, d_of, volume, array, start, stop}
use Rattle.ray.proofs.Accepted.{axes_ok, ends_inside}
use Rattle.ray.proofs.Capped.{d_pos, stop_cap}
use Rattle.line.specs.declared.line.Line.{Line}
use Rattle.line.specs.Scene.{Scene}
use Rattle.line.specs.Scene.{plane, line}
use Rattle.line.specs.Raised.{Small, line_of, scene_of}
use Rattle.place.specs.declared.Point.{Point}
use Rattle.place.specs.declared.Points.{Points}
use Rattle.place.specs.declared.Mark.TheVariants as mark
use Rattle.place.specs.Ratio.{Ratio}
use Rattle.place.specs.Deciding.{Crossing, crossing_of}
use Rattle.place.specs.Answers.{coordinate, point_at, nowhere, points_of}
use Rattle.place.proofs.Deciding.{Is}
use Rattle.place.proofs.Signed.{exact}
use Rattle.place.proofs.Shown.{ZeroPlain}
use Rattle.place.proofs.Within.{Between, within}
use Rattle.place.proofs.OnLeg.{exactly, coordinate_is, coordinate_plain, planes_hold}
use Rattle.place.proofs.Found.{d_same, start_same, stop_same, holds_same, Hit, hit, answer_is}

-- a point by its axes
abbrev pub on : Point → Side → Float
on p X = p.x
on p Y = p.y
on p Z = p.z

abbrev pub pointed : Ray → Crossing → Points
pointed r (Err c) = nowhere (mark.Refused c)
pointed r (Ok None) = nowhere mark.Miss
pointed r (Ok (Some t)) = record { mark = mark.Hit; enter = point_at r t.enter.num t.enter.den; leave = point_at r t.leave.num t.leave.den }

-- RULES 8, of the point at α = t / D: no coordinate outside the first and far plane of its axis, on a plane the whole number itself,
-- and no -0
pub record Drawn (g : Grid) (r : Ray) (t : ℕ) (p : Point) : Type 0 where
  pub low : (s : Side) → T (le (of_int binary64 (array (volume g) s).lo) (on p s))
  pub high : (s : Side) → T (le (on p s) (of_int binary64 (array (volume g) s).hi))
  pub whole : (s : Side) (c : ℤ) → exactly (leg r s) t (d_of r) ≡ c *ℤ pos (d_of r) → on p s ≡ of_int binary64 c
  pub plain : (s : Side) → ZeroPlain (on p s)

by_axes : (r : Ray) (t d : ℕ) (s : Side) → on (point_at r t d) s ≡ coordinate (leg r s) t d
by_axes r t d X = refl
by_axes r t d Y = refl
by_axes r t d Z = refl

module _ (m : Limits) (g : Grid) (r : Ray) where
  abbrev box : Side → Slab
  box = array (volume g)

  abbrev s : Scene
  s = scene_of m g r

  line_is : (o : Side) → line s o ≡ line_of m (of_side g o) (leg r o).p (leg r o).q
  line_is X = refl
  line_is Y = refl
  line_is Z = refl

  array_is : (o : Side) → array (volume g) o ≡ slab (planes (of_side g o)) 0 (of_side g o).n
  array_is X = refl
  array_is Y = refl
  array_is Z = refl

  module _ {e l : Ratio} (H : Hit m g r e l) where
    -- any place from start to stop, told by a short fraction
    module _ {f : Ratio} {t : ℕ} (F : Is f t (d_of r)) (after : start r box ≤ t) (until : t ≤ stop r box) where
      most : t ≤ d_of r
      most = le_trans until (stop_cap r box)

      abbrev In : Line → ℕ → Type 0
      In x d = Between (plane x 0) (plane x x.n) x.p x.q t d

      between : (o : Side) → In (line_of m (of_side g o) (leg r o).p (leg r o).q) (d_of r)
      between o =
          let to = le_of_eq (sym (stop_same m g r H.ok)) in
          let some = lt_of_lt_of_le (lt_of_le_of_lt zero-le H.strict) to in
          let from = le_trans (le_of_eq (start_same m g r H.ok)) after in
          let here = within s t (holds_same m g r H.ok ∙ H.held) some from (le_trans until to) o in
          subst (λ (x : Line). In x (d_of r)) (line_is o) (subst (λ (d : ℕ). In (line s o) d) (d_same m g r H.ok) here)

      abbrev InPlanes : Side → Slab → Type 0
      InPlanes o b = T (le (of_int binary64 b.lo) (coordinate (leg r o) t (d_of r))) × T (le (coordinate (leg r o) t (d_of r)) (of_int binary64 b.hi))

      in_planes : (o : Side) → InPlanes o (box o)
      in_planes o =
          subst (InPlanes o) (sym (array_is o))
          (planes_hold m (leg r o) (ends_inside m r H.ok.ends o) (of_side g o) (axes_ok m g H.ok.grid o).near t (d_of r) most (d_pos r) (between o))

      drawn : Drawn g r t (point_at r t (d_of r))
      drawn = record {
        low = λ o. rw (by_axes r t (d_of r) o) (in_planes o).0;
        high = λ o. rw (by_axes r t (d_of r) o) (in_planes o).1;
        whole = λ o c h. by_axes r t (d_of r) o ∙ exact (exactly (leg r o) t (d_of r)) c (d_of r) (d_pos r) h;
        plain = λ o. rw (by_axes r t (d_of r) o) (coordinate_plain m (leg r o) (ends_inside m r H.ok.ends o) f t (d_of r) most F);
      }

      short_point : point_at r f.num f.den ≡ point_at r t (d_of r)
      short_point =
          let at : (o : Side) → coordinate (leg r o) f.num f.den ≡ coordinate (leg r o) t (d_of r) = λ o.
          coordinate_is m (leg r o) (ends_inside m r H.ok.ends o) f.num f.den t (d_of r) F.at.den_pos F.at.d_pos most F.at.at in
          rw (at X, at Y, at Z)

    abbrev At : (t : ℕ) → Ratio → Type 0
    At t f = (point_at r f.num f.den ≡ point_at r t (d_of r)) × Drawn g r t (point_at r t (d_of r))

    entering : At (start r box) e
    entering = let h = le_of_lt H.strict in (short_point H.enters (le_refl _) h, drawn H.enters (le_refl _) h)

    leaving : At (stop r box) l
    leaving = let h = le_of_lt H.strict in (short_point H.leaves h (le_refl _), drawn H.leaves h (le_refl _))

  abbrev hitting : Points
  hitting = record { mark = mark.Hit; enter = point_at r (start r box) (d_of r); leave = point_at r (stop r box) (d_of r) }

  module _ (small : Small m) where
    pub points_is : pointed r (crossing_of m g r) ≡ points_of m g r
    unfolding points_of
    points_is = answer_is m g r small (pointed r) hitting (λ t H. rw ((entering H).0, (leaving H).0))

    abbrev Both : Points → Type 0
    Both a = a.mark ≡ mark.Hit → Drawn g r (start r box) a.enter × Drawn g r (stop r box) a.leave

    from_found : (k : Crossing) → crossing_of m g r ≡ k → Both (pointed r k)
    from_found (Err c) h p = let z : ◌≡◌ {A = ℕ} 0 1 = cc in absurd (omega arith)
    from_found (Ok None) h p = let z : ◌≡◌ {A = ℕ} 0 1 = cc in absurd (omega arith)
    from_found (Ok (Some t)) h p = let H = hit m g r small t h in rw ((entering H).0, (leaving H).0) ((entering H).1, (leaving H).1)

    pub points_drawn : (points_of m g r).mark ≡ mark.Hit → Drawn g r (start r box) (points_of m g r).enter × Drawn g r (stop r box) (points_of m g r).leave
    points_drawn = subst Both points_is (from_found (crossing_of m g r) refl)
