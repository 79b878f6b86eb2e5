-- The frame of a scene from what its axes say. Assumes nothing.
use Rattle.std.proofs.Common.{◌≡◌, min, Bool, true, false, not, ◌&&◌, ◌||◌, ltb, leb, refl, ◌∙◌}
use Rattle.axis.proofs.Flag.{lt_not_le}
use Rattle.ray.specs.declared.axes.Side.{Side}
use Rattle.ray.specs.declared.axes.Side.TheVariants.{X, Y, Z}
use Rattle.ray.specs.Length.{rest, d_of, array, holds, misses}
use Rattle.line.specs.Scene.{Scene}
use Rattle.line.specs.declared.reach.Reach.{Reach}
use Rattle.line.specs.Scene.{line, volume_of, ray_of}
use Rattle.line.specs.Reach.{Reached}
use Rattle.line.proofs.Three.{most, least, most_same, least_same}
use Rattle.line.proofs.Scenes.{from_of, to_of, enter_all, leave_all}
use Rattle.walk.specs.declared.plan.Frame.{Frame}
use Rattle.walk.specs.Plan.{rest_of, Framed}

-- not missed: the window is not empty, and the array holds the ray
hit_misses : (s : Scene) → (ltb (from_of s) (to_of s) && holds (ray_of s) (array (volume_of s))) ≡ not (misses (volume_of s) (ray_of s))
unfolding misses
hit_misses s = both _ (leb (to_of s) (from_of s)) _ (lt_not_le (from_of s) (to_of s))
  where
    both : (t u h : Bool) → t ≡ not u → (t && h) ≡ not (u || not h)
    both t true h e = rw e refl
    both t false true e = rw e refl
    both t false false e = rw e refl

module _ {s : Scene} {f : Frame} (r : Side → Reach) (rests : (o : Side) → rest_of f o ≡ rest (ray_of s) o) (reached : (o : Side) → Reached (line s o) (rest_of f o) (r o)) where
  pub framed : f.denominator ≡ d_of (ray_of s) → f.from ≡ most (λ o. (r o).from) → f.to ≡ min f.denominator (least (λ o. (r o).to))
      → f.hit ≡ (ltb f.from f.to && ((r X).held && ((r Y).held && (r Z).held))) → Framed s f
  framed d m l h =
      let from : f.from ≡ from_of s = m ∙ most_same (λ o. (r o).from) (enter_all s) (λ o. rw (← rests o) (reached o).from_is) in
      let to : f.to ≡ to_of s = l ∙ rw (d, least_same (λ o. (r o).to) (leave_all s) (λ o. rw (← rests o) (reached o).to_is)) refl in
      record {
        rests = rests;
        denominator_is = d;
        from_is = from;
        to_is = to;
        hit_is = rw (h, from, to, (reached X).held_is, (reached Y).held_is, (reached Z).held_is) (hit_misses s);
      }
