-- Equations (12) and (13): a stretch's voxel by its middle. The middle is a tick of half the length, so the law of the division (`Rounded`)
-- serves it too. Assumes nothing.
use Prim.Native.Nat.{ℕ, ◌+◌, ◌-◌, ◌*◌, ◌≤◌, ◌<◌}
use mathlib.Core.Path.{◌≡◌, refl, ap, ◌∙◌}
use mathlib.Core.Bool.{true}
use native.Mathlib.Omega.{arith}
use native.Mathlib.Nat.{two-mul, mul_left_comm, mul-lt-mul_of_pos_right}
use Rattle.line.specs.declared.line.Line.{Line}
use Rattle.line.specs.Scene.{plane, Sized, leaves_at, Within}
use Rattle.line.specs.Quotient.{spot_of, quotient_of}
use Rattle.ray.proofs.Way.{Way, up, down, still, Goes}
use Rattle.line.proofs.Units.{enter_by, leave_by}
use Rattle.line.proofs.Stretch.{way_of, going, pick, way_is, enter_voxel, leave_voxel}
use Rattle.line.proofs.Spots.{after_by, In}
use Rattle.line.proofs.Rounded.{near_ticks, quotient_plane, capped, uncapped, in_array, windowed, index_is}

-- ---- the half ticks of a stretch are in its voxel
twice : (x c : ℕ) → x * (2 * c) ≡ x * c + x * c
twice x c = omega (arith, mul_left_comm x 2 c, two-mul (x * c))

half_within : (a : Line) (c from next h : ℕ) {i : ℕ} → Within a c from i → next ≤ leaves_at a c i (i + 1) → from + from ≤ h → h < next + next → Within a (2 * c) h i
half_within a c from next h {i} v until low high =
    let w = way_of a in
    let g = going a in
    let enter = enter_by w a.p (plane a i) (plane a (i + 1)) in
    let leave = leave_by w a.p (plane a i) (plane a (i + 1)) in
    record {
      inside = v.inside;
      holds = v.holds;
      since = omega (arith, v.since, enter_voxel a c w g i, enter_voxel a (2 * c) w g i, twice enter c);
      until = omega (arith, leave_voxel a c w g i, leave_voxel a (2 * c) w g i, twice leave c);
    }

-- ---- equation (13), over 2D
abbrev middle : (from next : ℕ) → ℕ
middle from next = from + next

-- the half tick just after which the middle lies: going down it is the one before
abbrev half : Way → (from next : ℕ) → ℕ
half w from next = pick w (middle from next) (middle from next - 1) (middle from next)

-- it is one of the stretch, which is never empty
record Half (w : Way) (p from next : ℕ) : Type 0 where
  low : from + from ≤ half w from next
  high : half w from next < next + next
  place : pick w (p + middle from next) (p - middle from next) p ≡ after_by w p (half w from next)

half_of : (w : Way) (p : ℕ) {from next : ℕ} → from < next → Half w p from next
half_of up p h = record { low = omega arith; high = omega arith; place = refl }
half_of down p h = record { low = omega arith; high = omega arith; place = omega arith }
half_of still p h = record { low = omega arith; high = omega arith; place = refl }

-- ---- equation (12)
module _ (a : Line) (sized : Sized a) (c from next : ℕ) {i : ℕ} (v : Within a c from i) (some : from < next) (until : next ≤ leaves_at a c i (i + 1)) where
  module _ (w : Way) (g : Goes w a.p a.q) where
    abbrev h : ℕ
    h = half w from next

    of : Half w (a.p * (2 * c)) from next
    of = half_of w (a.p * (2 * c)) some

    within : Within a (2 * c) h i
    within = half_within a c from next h v until of.low of.high

    in_it : In w true (2 * c) a.p (plane a 0) (plane a a.n) h
    in_it = in_array a (2 * c) h w g (windowed a (2 * c) h within)

    spot_is : spot_of a (2 * c) (middle from next) ≡ after_by w (a.p * (2 * c)) h
    spot_is = way_is a w g (a.p * (2 * c) + middle from next) (a.p * (2 * c) - middle from next) (a.p * (2 * c)) ∙ of.place

  -- the middle lies in the array
  pub middle_low : a.b * (2 * c) ≤ spot_of a (2 * c) (middle from next)
  middle_low = rw (← near_ticks a (2 * c), spot_is (way_of a) (going a)) (in_it (way_of a) (going a)).low

  pub middle_down : a.q < a.p → middle from next ≤ a.p * (2 * c)
  middle_down g = omega (arith, (in_it down g).on)

  -- and its quotient, capped in the far face, is the voxel
  pub middle_is : capped a (2 * c) (spot_of a (2 * c) (middle from next)) ≡ i
  middle_is = ap (capped a (2 * c)) (spot_is (way_of a) (going a)) ∙ index_is a (2 * c) (h (way_of a) (going a)) (within (way_of a) (going a)) sized (way_of a) (going a)

  -- The cap has a say in the far face alone. Anywhere else the bare quotient is the voxel, and for a still ray in that face it is n.
  below_far : (a.p ≡ a.q → a.p < plane a a.n) → (w : Way) (g : Goes w a.p a.q) → after_by w (a.p * (2 * c)) (h w g) < plane a a.n * (2 * c)
  below_far inner up g = (in_it up g).high
  below_far inner down g = (in_it down g).high
  below_far inner still g = mul-lt-mul_of_pos_right (inner g) (windowed a (2 * c) (h still g) (within still g)).some

  pub middle_bare : (a.p ≡ a.q → a.p < plane a a.n) → quotient_of a (2 * c) (spot_of a (2 * c) (middle from next)) ≡ i
  middle_bare inner =
      let w = way_of a in
      let g = going a in
      ap (quotient_of a (2 * c)) (spot_is w g)
      ∙ uncapped a sized (2 * c) (windowed a (2 * c) (h w g) (within w g)).some (after_by w (a.p * (2 * c)) (h w g)) (in_it w g).low (below_far inner w g)
      ∙ index_is a (2 * c) (h w g) (within w g) sized w g

  pub middle_far : a.p ≡ a.q → a.p ≡ plane a a.n → quotient_of a (2 * c) (spot_of a (2 * c) (middle from next)) ≡ a.n
  middle_far g far =
      ap (quotient_of a (2 * c)) (way_is a still g _ _ (a.p * (2 * c)) ∙ ap (λ (x : ℕ). x * (2 * c)) far)
      ∙ quotient_plane a sized (2 * c) (windowed a (2 * c) (h still g) (within still g)).some a.n
