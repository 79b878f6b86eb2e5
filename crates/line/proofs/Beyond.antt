-- The plane by which the ray leaves a voxel is the first that it meets after any tick of the voxel. Of where planes lie only their order
-- is asked. Assumes nothing.
use Prim.Native.Nat.{ℕ, ◌+◌, ◌-◌, ◌*◌, ◌≤◌, ◌<◌}
use mathlib.Core.Path.{◌≡◌, sym, ap, ◌∙◌}
use mathlib.Core.Bool.{Bool, true, cond}
use native.Mathlib.Omega.{arith}
use native.Mathlib.Decide.{dec_le}
use native.Mathlib.Nat.{le_trans, le_of_eq, one-mul, mul-le-mul_right}
use Rattle.axis.specs.Leg.{moving}
use Rattle.axis.proofs.Flag.{off_or_on}
use Rattle.line.specs.declared.line.Line.{Line}
use Rattle.line.specs.Scene.{leg_n, plane, leaves_at, Within}
use Rattle.line.specs.Reach.{meets_at, left_at}
use Rattle.line.specs.Beyond.{beyond}
use Rattle.ray.proofs.Way.{Way, up, down, still, Goes}
use Rattle.line.proofs.Units.{leave_by, moves, stays, run_up, run_down}
use Rattle.line.proofs.Stretch.{plane_mono, way_of, going, pick, way_is, enter_voxel, leave_voxel}

abbrev pub beyond_by : Way → ℕ → ℕ
beyond_by w i = pick w (i + 1) i 0

pub beyond_by_lem : (a : Line) (w : Way) → Goes w a.p a.q → (i : ℕ) → beyond a i ≡ beyond_by w i
beyond_by_lem a w g i = way_is a w g (i + 1) i 0

pub beyond_few : (w : Way) {i n : ℕ} → i < n → beyond_by w i ≤ n
beyond_few up h = omega arith
beyond_few down h = omega arith
beyond_few still h = omega arith

pub beyond_most : (a : Line) {i : ℕ} → i < a.n → beyond a i ≤ a.n
beyond_most a {i} h = le_trans (le_of_eq (beyond_by_lem a (way_of a) (going a) i)) (beyond_few (way_of a) h)

module _ (a : Line) (c : ℕ) where
  left_by : (w : Way) → Goes w a.p a.q → (i : ℕ) → left_at a c (beyond_by w i) ≡ leave_by w a.p (plane a i) (plane a (i + 1)) * c
  left_by up g i = rw (moves a.p a.q (omega arith), run_up a.p a.q (plane a (i + 1)) g)
  left_by down g i = rw (moves a.p a.q (omega arith), run_down a.p a.q (plane a i) (omega arith))
  left_by still g i = rw (stays a.p a.q g) (sym (one-mul c))

  -- it is met where the voxel is left; a still axis is left with the ray
  pub leave_beyond : (i : ℕ) → left_at a c (beyond a i) ≡ leaves_at a c i (i + 1)
  leave_beyond i = ap (left_at a c) (beyond_by_lem a (way_of a) (going a) i) ∙ left_by (way_of a) (going a) i ∙ sym (leave_voxel a c (way_of a) (going a) i)

  pub meet_beyond : (i : ℕ) → moving (leg_n a.p a.q) ≡ true → meets_at a c (beyond a i) ≡ leaves_at a c i (i + 1)
  meet_beyond i on = ap (λ (x : Bool). cond x (meets_at a c (beyond a i)) c) (sym on) ∙ leave_beyond i

  -- ---- the ticks at which planes are met, in their order
  abbrev pub up_key : ℕ → ℕ
  up_key m = (plane a m - a.p) * c

  abbrev pub down_key : ℕ → ℕ
  down_key m = (a.p - plane a m) * c

  pub up_rise : (m n : ℕ) → m ≤ n → up_key m ≤ up_key n
  up_rise m n h = mul-le-mul_right c (omega (arith, plane_mono a h))

  pub down_fall : (m n : ℕ) → m ≤ n → down_key n ≤ down_key m
  down_fall m n h = mul-le-mul_right c (omega (arith, plane_mono a h))

  -- a plane that is met after the ray came into a voxel is not met before the ray leaves it
  pub not_before : (w : Way) (i m t : ℕ) → Goes w a.p a.q → moving (leg_n a.p a.q) ≡ true → Within a c t i → t < meets_at a c m → leaves_at a c i (i + 1) ≤ meets_at a c m
  not_before up i m t g on v l =
      let k : meets_at a c m ≡ (plane a m - a.p) * c = ap (λ (x : ℕ). x * c) (run_up a.p a.q (plane a m) g) in
      let e = enter_voxel a c up g i in
      elim (dec_le m i) [ yes h ↦ absurd (omega (arith, v.since, up_rise m i h)) | no h ↦ omega (arith, leave_voxel a c up g i, up_rise (i + 1) m (omega arith)) ]
  not_before down i m t g on v l =
      let k : meets_at a c m ≡ (a.p - plane a m) * c = ap (λ (x : ℕ). x * c) (run_down a.p a.q (plane a m) (omega arith)) in
      let e = enter_voxel a c down g i in
      elim (dec_le m i) [ yes h ↦ omega (arith, leave_voxel a c down g i, down_fall m i h) | no h ↦ absurd (omega (arith, v.since, down_fall (i + 1) m (omega arith))) ]
  not_before still i m t g on v l = off_or_on (moving (leg_n a.p a.q)) on (stays a.p a.q g)
