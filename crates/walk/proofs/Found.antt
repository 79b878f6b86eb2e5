-- What the walk's entries are, once it is known to be walking: ray's list, with its parts, which add up to what is left of the
-- span, and the planes crossed. One induction over the turns carries each. Assumes nothing.
use Rattle.std.proofs.Common.{◌≡◌, ℕ, zero, suc, ◌+◌, ◌-◌, ◌<◌, ◌≤◌, List, [], ◌∷◌, ◌++◌, map, sym, refl, ◌∙◌, subst, append_assoc, arith}
use mathlib.Core.List.{sum}
use native.Mathlib.Decide.{dec_le}
use Rattle.ray.specs.declared.axes.Side.{Side}
use Rattle.ray.specs.declared.axes.Side.TheVariants.{X, Y, Z}
use Rattle.ray.specs.Length.{rest, count, part_of, list_of}
use Rattle.ray.proofs.Apart.{starts_apart}
use Rattle.ray.proofs.Total.{sum_list}
use Rattle.ray.proofs.Listing.{Listed, SoFar, starts, one_more, none_yet, all_found, list_is}
use Rattle.line.specs.Scene.{Scene}
use Rattle.line.specs.Scene.{line, Able, Within}
use Rattle.line.specs.Reach.{crossed_on}
use Rattle.line.proofs.Three.{least_le}
use Rattle.line.proofs.Crossing.{crossed_is}
use Rattle.line.proofs.Scenes.{vol, ray, scene_rise, met, from_of, to_of}
use Rattle.walk.specs.declared.steps.Walk.{Walk}
use Rattle.walk.specs.declared.steps.Strides.{Strides}
use Rattle.walk.specs.Model.{leave_of, soonest, stepped, Entry, entry, voxels, parts, entries, planes_by, Forward}
use Rattle.walk.proofs.Turns.{forward_on, step_tick, entries_last, entries_more}
use Rattle.ray.proofs.Indices.{number}
use Rattle.walk.proofs.Walking.{Paced, gap, between, Walking, start_late, stop_soon, here_below, here_start, here_only, soon_later, part_more, part_last, number_kept, planes_kept, walking_on}

fewer : (to t u m : ℕ) → to - t ≤ suc m → t < u → to - u ≤ m
fewer to t u m h k = omega arith

-- what a turn adds, where u is its end and v the sum of what comes after
adds_up : (to t u v x : ℕ) → t < u → u < to → x ≡ u → v ≡ to - x → (u - t) + v ≡ to - t
adds_up to t u v x a b c d = omega arith

-- the planes that the ray crosses on an axis
abbrev pub crossed_by : Scene → Side → ℕ
crossed_by s o = crossed_on (line s o) (rest (ray s) o) (from_of s) (to_of s)

module _ {s : Scene} (able : Able s) {t : Strides} (paced : Paced s t) where
  -- what holds of a last turn, and of a turn wherever it holds of what comes after, holds of a walk
  module _ (P : Walk → List Entry → Type 0)
      (last : (w : Walk) (at : Side → ℕ) → Walking s w at → w.t < to_of s → to_of s ≤ soonest w → P w (entry w (to_of s) ∷ []))
      (more : (w : Walk) (at : Side → ℕ) → Walking s w at → soonest w < to_of s → (es : List Entry) → P (stepped t w) es → P w (entry w (soonest w) ∷ es)) where
    walk_within : (m : ℕ) {w : Walk} {at : Side → ℕ} → Walking s w at → Forward t (to_of s) w → to_of s - w.t ≤ m → P w (entries t (to_of s) w)
    walk_within zero on f h = absurd (omega (arith, f.before))
    walk_within (suc m) {w} on f h = elim (dec_le (to_of s) (soonest w)) [
      | yes e ↦ subst (P w) (sym (entries_last f e)) (last w _ on f.before e)
      | no e ↦ let k : soonest w < to_of s = omega arith in
          let less = fewer (to_of s) w.t (stepped t w).t m h (subst (λ (u : ℕ). w.t < u) (sym (step_tick t w)) f.later) in
          subst (P w) (sym (entries_more f k)) (more w _ on k _ (walk_within m (walking_on able on paced k) (forward_on f k) less))
    ]

    pub walk_all : {w : Walk} {at : Side → ℕ} → Walking s w at → Forward t (to_of s) w → P w (entries t (to_of s) w)
    walk_all {w} on f = walk_within (to_of s - w.t) on f (omega arith)

  abbrev Ends : List ℕ → Type 0
  Ends vs = Listed (starts (vol s) (ray s)) (part_of (vol s) (ray s)) (count (vol s)) vs

  abbrev Until : ℕ → List ℕ → Type 0
  Until x vs = SoFar (starts (vol s) (ray s)) (part_of (vol s) (ray s)) (count (vol s)) x vs

  starts_before : (m : ℕ) → m < count (vol s) → 0 < part_of (vol s) (ray s) m → starts (vol s) (ray s) m < to_of s
  starts_before m h p = let a = (met s m p).proper in let b = stop_soon s m h in omega arith

  -- the list so far and the entries are the list
  module _ (w : Walk) (at : Side → ℕ) (on : Walking s w at) where
    one_found : (u : ℕ) → w.t < u → u ≤ soonest w → 0 < part_of (vol s) (ray s) (number (vol s) at) → (vs : List ℕ) → Until w.t vs → Until u (vs ++ (number (vol s) at ∷ []))
    one_found u b h p vs so =
        one_more so (here_below able on) p
        (omega (arith, here_start able on)) (omega (arith, here_start able on)) (λ m i q a c. here_only able on m i q a (omega arith))

    list_last : w.t < to_of s → to_of s ≤ soonest w → (vs : List ℕ) → Until w.t vs → Ends (vs ++ voxels (entry w (to_of s) ∷ []))
    list_last b h vs so = rw (number_kept able on) (all_found starts_before (one_found (to_of s) b h (omega (arith, part_last able on h)) vs so))

    list_more : soonest w < to_of s → (es : List Entry) → ((vs : List ℕ) → Until (stepped t w).t vs → Ends (vs ++ voxels es))
        → (vs : List ℕ) → Until w.t vs → Ends (vs ++ voxels (entry w (soonest w) ∷ es))
    list_more h es rest vs so =
        let l = soon_later able on in
        rw (number_kept able on)
        (rw append_assoc at (rest (vs ++ (number (vol s) at ∷ [])) (rw (step_tick t w) (one_found (soonest w) l (omega arith) (omega (arith, part_more able on h)) vs so))))

  module _ {w : Walk} {at : Side → ℕ} (on : Walking s w at) (b : w.t < to_of s) (h : to_of s ≤ soonest w) where
    -- the last voxel is that of the last tick
    last_within : (o : Side) → Within (line s o) (rest (ray s) o) (to_of s - 1) (at o)
    last_within o = record {
      inside = (on.within o).inside;
      holds = (on.within o).holds;
      since = omega (arith, (on.within o).since);
      until = omega (arith, least_le (leave_of w) o, on.leaves o);
    }

    since_first : from_of s < to_of s
    since_first = omega (arith, start_late s (number (vol s) at) (here_below able on), here_start able on)

    all_sides : between on.first at ≡ crossed_by s X + crossed_by s Y + crossed_by s Z
    all_sides =
        let one : (o : Side) → gap on.first at o ≡ crossed_by s o = λ o. crossed_is (line s o) (rest (ray s) o) (able.sized o) (from_of s) (to_of s) (on.first o) (at o) (on.began o) (last_within o) since_first in
        omega (arith, one X, one Y, one Z)

  module _ {w : Walk} {at : Side → ℕ} (on : Walking s w at) (f : Forward t (to_of s) w) where
    pub found_list : w.t ≡ from_of s → voxels (entries t (to_of s) w) ≡ list_of (vol s) (ray s)
    found_list e =
        list_is (vol s) (ray s) (starts_apart (vol s) (scene_rise s) (ray s)) (voxels (entries t (to_of s) w))
        (walk_all (λ w es. (vs : List ℕ) → Until w.t vs → Ends (vs ++ voxels es)) list_last list_more on f [] (none_yet (λ m i p. omega (arith, start_late s m i))))

    -- each with its part
    pub found_parts : parts (entries t (to_of s) w) ≡ map (part_of (vol s) (ray s)) (voxels (entries t (to_of s) w))
    found_parts =
        walk_all (λ w es. parts es ≡ map (part_of (vol s) (ray s)) (voxels es))
        (λ w at on b h. rw (number_kept able on, part_last able on h) refl) (λ w at on h es rest. rw (number_kept able on, part_more able on h, rest) refl) on f

    -- the parts add up
    pub found_total : sum_list (parts (entries t (to_of s) w)) ≡ to_of s - w.t
    unfolding sum
    found_total =
        walk_all (λ w es. sum_list (parts es) ≡ to_of s - w.t)
        (λ w at on b h. omega arith) (λ w at on h es rest. adds_up (to_of s) w.t (soonest w) _ _ (soon_later able on) h (step_tick t w) rest) on f

    -- the planes crossed before the last entry are those between αmin and αmax
    pub found_planes : planes_by 0 (entries t (to_of s) w) ≡ crossed_by s X + crossed_by s Y + crossed_by s Z
    found_planes = walk_all (λ w es. (n : ℕ) → planes_by n es ≡ crossed_by s X + crossed_by s Y + crossed_by s Z) (λ w at on b h n. planes_kept able on ∙ all_sides on b h) (λ w at on h es rest n. rest _) on f 0
