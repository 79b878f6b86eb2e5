-- A turn ends at the next plane: no plane's α lies within it, and where it is not the last it ends at one. So the entries are one
-- more than the different α ahead. Assumes nothing.
use Rattle.std.proofs.Common.{◌≡◌, ℕ, ◌+◌, ◌<◌, ◌≤◌, Bool, true, false, length, sym, refl, ◌∙◌, arith}
use native.Mathlib.Decide.{dec_lt}
use Rattle.axis.specs.Leg.{moving}
use Rattle.ray.specs.declared.axes.Side.{Side}
use Rattle.ray.specs.Length.{rest, d_of}
use Rattle.ray.proofs.Different.{alpha_of, crossed_at, crosses_means, means_crosses, crossed_yes, crossed_no, crossed_until}
use Rattle.ray.proofs.After.{after, none_after, one_after}
use Rattle.line.specs.declared.line.Line.{Line}
use Rattle.line.specs.Scene.{Scene}
use Rattle.line.specs.Scene.{leg_n, line, Able}
use Rattle.line.specs.Reach.{meets_at}
use Rattle.line.specs.Beyond.{beyond}
use Rattle.line.proofs.Units.{moves}
use Rattle.line.proofs.Three.{least_le, least_one}
use Rattle.line.proofs.Stretch.{going, Left}
use Rattle.line.proofs.Beyond.{beyond_most, meet_beyond, not_before}
use Rattle.line.proofs.Scenes.{vol, ray, way, leg_is, from_of, to_of, leave_in}
use Rattle.walk.specs.declared.steps.Walk.{Walk}
use Rattle.walk.specs.declared.steps.Strides.{Strides}
use Rattle.walk.specs.Model.{leave_of, soonest, entries, Forward}
use Rattle.ray.proofs.Way.{Way, up, down, still, Goes}
use Rattle.walk.proofs.Turns.{step_tick}
use Rattle.ray.proofs.Indices.{number}
use Rattle.walk.proofs.Walking.{Paced, Walking, start_late, here_below, here_start, soon_later, to_d, next_at}
use Rattle.walk.proofs.Found.{walk_all}

left_moves : (a : Line) (w : Way) (i : ℕ) → Goes w a.p a.q → Left w i → moving (leg_n a.p a.q) ≡ true
left_moves a up i g l = moves a.p a.q (λ e. omega arith)
left_moves a down i g l = moves a.p a.q (λ e. omega arith)
left_moves a still i g l = absurd l

module _ {s : Scene} (able : Able s) where
  abbrev crossed : ℕ → Bool
  crossed = crossed_at (vol s) (ray s)

  alpha_is : (o : Side) (m : ℕ) → alpha_of (vol s) (ray s) o m ≡ meets_at (line s o) (rest (ray s) o) m
  alpha_is o m = rw (leg_is s o) refl

  module _ {w : Walk} {at : Side → ℕ} (on : Walking s w at) where
    -- no α within the turn
    quiet : (x : ℕ) → w.t < x → x < soonest w → crossed x ≡ false
    quiet x a b = crossed_no (vol s) (ray s) x (λ o i h c e.
        let met : leave_in s at o ≤ meets_at (line s o) (rest (ray s) o) i = not_before (line s o) (rest (ray s) o) (way s o) (at o) i w.t (going (line s o))
        (rw (leg_is s o) at (crosses_means (vol s) (ray s) o i c).0) (on.within o) (omega (arith, alpha_is o i)) in
        omega (arith, alpha_is o i, on.leaves o, least_le (leave_of w) o))

    -- and after the last turn none
    last_quiet : to_of s ≤ soonest w → (x : ℕ) → w.t < x → crossed x ≡ false
    last_quiet h x a = elim (dec_lt x (soonest w)) [ yes b ↦ quiet x a b | no b ↦ crossed_until (vol s) (ray s) x (omega arith) ]

    since_start : from_of s ≤ w.t
    since_start = omega (arith, start_late s (number (vol s) at) (here_below able on), here_start able on)

    end_crossed : {t : Strides} → Paced s t → soonest w < to_of s → crossed (soonest w) ≡ true
    end_crossed paced more =
        let o : Side = (least_one (leave_of w)).0 in
        let u : leave_of w o ≡ soonest w = (least_one (leave_of w)).1 in
        let m : ℕ = beyond (line s o) (at o) in
        let moves = left_moves (line s o) (way s o) (at o) (going (line s o)) (next_at able on paced more o u).left in
        let e : alpha_of (vol s) (ray s) o m ≡ soonest w = alpha_is o m ∙ meet_beyond (line s o) (rest (ray s) o) (at o) moves ∙ sym (on.leaves o) ∙ u in
        crossed_yes (vol s) (ray s) (soonest w) o m (omega (arith, beyond_most (line s o) (on.within o).inside))
        (means_crosses (vol s) (ray s) o m (rw (leg_is s o) moves) (omega (arith, since_start, soon_later able on)) (omega arith)) e

  pub found_alphas : {t : Strides} (paced : Paced s t) {w : Walk} {at : Side → ℕ} → Walking s w at → Forward t (to_of s) w
      → length (entries t (to_of s) w) ≡ 1 + after crossed (d_of (ray s)) w.t
  found_alphas {t} paced =
      walk_all able paced (λ w es. length es ≡ 1 + after crossed (d_of (ray s)) w.t)
      (λ w at on b h. omega (arith, none_after crossed (d_of (ray s)) w.t (last_quiet on h)))
      (λ w at on h es rest.
      let e : length es ≡ 1 + after crossed (d_of (ray s)) (soonest w) = rw (step_tick t w) at rest in
      omega (arith, one_after crossed (d_of (ray s)) w.t (soonest w) (soon_later able on) (omega (arith, to_d able on)) (end_crossed on paced h) (quiet on)))
