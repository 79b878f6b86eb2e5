-- Equation (6): the first plane after a tick, by the rounded quotient. Assumes nothing.
use Prim.Native.Nat.{ℕ, ◌+◌, ◌-◌, ◌*◌, ◌≤◌, ◌<◌}
use mathlib.Core.Path.{◌≡◌, refl, sym, ap, ◌∙◌}
use mathlib.Core.Bool.{true}
use native.Mathlib.Omega.{arith}
use native.Mathlib.Nat.{le_trans, le_of_eq}
use Rattle.axis.specs.Leg.{moving}
use Rattle.line.specs.declared.line.Line.{Line}
use Rattle.line.specs.Scene.{leg_n, plane, Sized, Window}
use Rattle.line.specs.Reach.{meets_at}
use Rattle.line.specs.Beyond.{First}
use Rattle.line.specs.Quotient.{spot_of, quotient_of, back_of}
use Rattle.ray.proofs.Way.{Way, up, down, still, Goes}
use Rattle.line.proofs.Stretch.{way_of, going, pick, way_is}
use Rattle.line.proofs.Beyond.{beyond_by, beyond_by_lem, beyond_few, meet_beyond, not_before}
use Rattle.line.proofs.Spots.{after_by, In}
use Rattle.line.proofs.Rounded.{near_ticks, uncapped, index_by, in_array, index_within, index_is, voxel_of}

-- 1 where the ray goes down: there the place just after a tick, rounded down, is that of the next tick
abbrev back_by : Way → ℕ
back_by w = pick w 0 1 0

spot_after : (w : Way) (p t : ℕ) → pick w (p + (t + back_by w)) (p - (t + back_by w)) p ≡ after_by w p t
spot_after up p t = omega arith
spot_after down p t = omega arith
spot_after still p t = refl

pub still_ahead : (a : Line) (c t : ℕ) → a.p ≡ a.q → First a c t 0
still_ahead a c t g = record { ahead = λ k v. sym (beyond_by_lem a still g k); few = omega arith }

module _ (a : Line) (c t : ℕ) (window : Window a c t) (sized : Sized a) where
  -- a moving ray is below the far plane, so its quotient needs no cap
  found : {i : ℕ} (w : Way) → (a.p ≡ a.q → ⊥) → Goes w a.p a.q → In w true c a.p (plane a 0) (plane a a.n) t → index_by w a c t ≡ i
      → quotient_of a c (after_by w (a.p * c) t) + (1 - back_by w) ≡ beyond_by w i
  found up m g s e = ap (λ (x : ℕ). x + 1) (uncapped a sized c window.some _ s.low s.high ∙ e)
  found down m g s e = omega (arith, uncapped a sized c window.some (after_by down (a.p * c) t) s.low s.high, e)
  found still m g s e = absurd (m g)

  module _ (back : ℕ) (is : back ≡ back_of a) where
    back_by_lem : back ≡ back_by (way_of a)
    back_by_lem = is ∙ way_is a (way_of a) (going a) 0 1 0

    spot_by : spot_of a c (t + back) ≡ after_by (way_of a) (a.p * c) t
    spot_by = rw back_by_lem (way_is a (way_of a) (going a) _ _ _ ∙ spot_after (way_of a) (a.p * c) t)

    -- that place is in the array
    pub ahead_low : a.b * c ≤ spot_of a c (t + back)
    ahead_low = rw (← near_ticks a c, spot_by) (in_array a c t (way_of a) (going a) window).low

    pub ahead_down : a.q < a.p → t + back ≤ a.p * c
    ahead_down g = omega (arith, is ∙ way_is a down g 0 1 0, (in_array a c t down g window).on)

    pub moving_ahead : (a.p ≡ a.q → ⊥) → (i : ℕ) → i ≡ quotient_of a c (spot_of a c (t + back)) → First a c t (i + (1 - back))
    moving_ahead m i e =
        let w = way_of a in
        let g = going a in
        let array = in_array a c t w g window in
        rw (e, spot_by, back_by_lem) (record {
          ahead = λ k v. found w m g array (index_is a c t v sized w g) ∙ sym (beyond_by_lem a w g k);
          few = le_trans (le_of_eq (found w m g array refl)) (beyond_few w (index_within a c t w g window sized).inside);
        })

  -- on a moving axis the ray meets this plane after the tick, and none before it
  pub first_after : {i : ℕ} → First a c t i → moving (leg_n a.p a.q) ≡ true → (t < meets_at a c i) × ((j : ℕ) → t < meets_at a c j → meets_at a c i ≤ meets_at a c j)
  first_after f on =
      let v = voxel_of a c t window sized in
      let e = ap (meets_at a c) (f.ahead v.0 v.1) ∙ meet_beyond a c v.0 on in
      (omega (arith, e, v.1.until), λ j l. omega (arith, e, not_before a c (way_of a) v.0 j t (going a) on v.1 l))
