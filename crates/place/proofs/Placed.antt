-- The place call's answer from what was found, and what RULES 8 says of every hit's two floats, for every grid and ray that the
-- call accepts, at any limits that are small enough. Assumes nothing.
use Prim.Native.Nat.{ℕ, ◌*◌, ◌≤◌, ◌<◌}
use mathlib.Core.Path.{◌≡◌, refl, ◌∙◌}
use native.Mathlib.Omega.{arith}
use native.Mathlib.Nat.{le_trans, le_of_lt}
use lib.Ieee.{Float, binary64, round}
use Rattle.std.specs.Prelude.{Some, None, Ok, Err}
use mathlib.Core.Bool.{false}
use borrow.Author.Tests.{lt-ltb, ltb-true}
use Rattle.axis.specs.declared.Limits.{Limits}
use Rattle.ray.specs.Axes.{Grid}
use Rattle.ray.specs.declared.Ray.{Ray}
use Rattle.ray.specs.Length.{d_of, volume, array, start, stop}
use Rattle.ray.proofs.Capped.{stop_cap}
use Rattle.ray.proofs.Fraction.{exact}
use Rattle.line.specs.Raised.{Small}
use Rattle.place.specs.declared.Place.{Place}
use Rattle.place.specs.declared.Place.TheVariants as place
use Rattle.place.specs.Ratio.{Ratio}
use Rattle.place.specs.Deciding.{Crossing, crossing_of}
use Rattle.place.specs.Answers.{place_of}
use Rattle.place.proofs.Deciding.{Is, below_is, up_to_one}
use Rattle.place.proofs.Shown.{Shown, shown}
use Rattle.place.proofs.Signed.{nearest_is}
use Rattle.place.proofs.Found.{Hit, hit, answer_is}

abbrev pub placed : Crossing → Place
placed (Err c) = place.Refused c
placed (Ok None) = place.Miss
placed (Ok (Some t)) = place.Hit (round binary64 false t.enter.num t.enter.den) (round binary64 false t.leave.num t.leave.den)

on_ray : {f : Ratio} {n d : ℕ} → Is f n d → n ≤ d → f.num ≤ f.den
on_ray {f} {n} {d} F h = up_to_one f.num f.den n d F.at.d_pos F.at.at h

module _ {m : Limits} {g : Grid} {r : Ray} {e l : Ratio} (H : Hit m g r e l) where
  pub enter_on : e.num ≤ e.den
  enter_on = on_ray H.enters (le_trans (le_of_lt H.strict) (stop_cap r (array (volume g))))

  pub leave_on : l.num ≤ l.den
  leave_on = on_ray H.leaves (stop_cap r (array (volume g)))

  hit_shown : Shown (round binary64 false e.num e.den) (round binary64 false l.num l.den)
  hit_shown =
      let apart : e.num * l.den < l.num * e.den = ltb-true _ _ (below_is H.enters H.leaves ∙ lt-ltb _ _ H.strict) in
      let x = H.enters.short in
      let y = H.leaves.short in
      shown e.num e.den l.num l.den x.some y.some x.den_size y.den_size enter_on leave_on apart

module _ (m : Limits) (g : Grid) (r : Ray) (small : Small m) where
  abbrev hitting : Place
  hitting = place.Hit (round binary64 false (start r (array (volume g))) (d_of r)) (round binary64 false (stop r (array (volume g))) (d_of r))

  pub place_is : placed (crossing_of m g r) ≡ place_of m g r
  unfolding place_of
  place_is = answer_is m g r small placed hitting (λ t H. rw (nearest_is (exact H.enters.at refl), nearest_is (exact H.leaves.at refl)))

  from_found : (k : Crossing) (enter leave : Float) → crossing_of m g r ≡ k → placed k ≡ place.Hit enter leave → Shown enter leave
  from_found (Err c) enter leave h p = let z : ◌≡◌ {A = ℕ} 0 1 = cc in absurd (omega arith)
  from_found (Ok None) enter leave h p = let z : ◌≡◌ {A = ℕ} 0 1 = cc in absurd (omega arith)
  from_found (Ok (Some t)) enter leave h p =
      let a : round binary64 false t.enter.num t.enter.den ≡ enter = cc in
      let b : round binary64 false t.leave.num t.leave.den ≡ leave = cc in
      rw (a, b) at (hit_shown (hit m g r small t h))

  pub place_shown : (enter leave : Float) → place_of m g r ≡ place.Hit enter leave → Shown enter leave
  place_shown enter leave h = from_found (crossing_of m g r) enter leave refl (place_is ∙ h)
