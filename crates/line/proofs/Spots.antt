-- Where the ray is on an axis, by the way it goes, in ticks of c to a unit: that a tick is between two planes is told by its place alone.
-- Assumes nothing.
use Prim.Native.Nat.{ℕ, ◌+◌, ◌-◌, ◌*◌, ◌≤◌, ◌<◌}
use mathlib.Core.Bool.{Bool, true, false}
use native.Mathlib.Omega.{arith}
use native.Mathlib.Nat.{zero-mul, one-mul, mul-le-mul_right, mul-lt-mul_of_pos_right, le_of_mul-le-mul_right, lt_of_mul-lt-mul_right}
use Rattle.ray.proofs.Through.{sub_times}
use Rattle.ray.proofs.Way.{Way, up, down, still}
use Rattle.line.proofs.Units.{enter_by, leave_by, Upto, HeldBy, upto_any}

-- ---- up to the upper plane, in ticks
module _ (p hi c : ℕ) (some : 0 < c) where
  upto_ticks : (closed : Bool) → Upto closed p hi → Upto closed (p * c) (hi * c)
  upto_ticks true h = mul-le-mul_right c h
  upto_ticks false h = mul-lt-mul_of_pos_right h some

  ticks_upto : (closed : Bool) → Upto closed (p * c) (hi * c) → Upto closed p hi
  ticks_upto true h = le_of_mul-le-mul_right h some
  ticks_upto false h = lt_of_mul-lt-mul_right c h

-- ---- the place just after that of a tick, rounded down
abbrev pub after_by : Way → ℕ → ℕ → ℕ
after_by up p t = p + t
after_by down p t = p - t - 1
after_by still p t = p

-- that the tick is on the ray's way
abbrev pub OnWay : Way → (p c t : ℕ) → Type 0
OnWay up p c t = Unit {0}
OnWay down p c t = t < p
OnWay still p c t = t < c

-- that a place is below the upper plane; a still one may lie in it where it is held
abbrev pub Below : Way → Bool → ℕ → ℕ → Type 0
Below up closed x hi = x < hi
Below down closed x hi = x < hi
Below still closed x hi = Upto closed x hi

pub below_any : (w : Way) (closed : Bool) {x hi : ℕ} → x < hi → Below w closed x hi
below_any up closed h = h
below_any down closed h = h
below_any still closed h = upto_any closed h

-- enter ≤ t < leave and held, by the place alone
pub record In (w : Way) (closed : Bool) (c p lo hi t : ℕ) : Type 0 where
  pub low : lo * c ≤ after_by w (p * c) t
  pub high : Below w closed (after_by w (p * c) t) (hi * c)
  pub on : OnWay w (p * c) c t

module _ (closed : Bool) (c p lo hi t : ℕ) (some : 0 < c) where
  pub to_in : (w : Way) → HeldBy w closed p lo hi → enter_by w p lo hi * c ≤ t → t < leave_by w p lo hi * c → In w closed c p lo hi t
  to_in up h e l = record { low = omega (arith, sub_times lo p c); high = omega (arith, sub_times hi p c); on = tt }
  to_in down h e l =
      let before : t < p * c - lo * c = omega (arith, sub_times p lo c) in
      record { low = omega arith; high = omega (arith, sub_times p hi c); on = omega arith }
  to_in still h e l = record { low = mul-le-mul_right c h.0; high = upto_ticks p hi c some closed h.1; on = omega (arith, one-mul c) }

  pub from_in : (w : Way) → In w closed c p lo hi t → HeldBy w closed p lo hi × (enter_by w p lo hi * c ≤ t) × (t < leave_by w p lo hi * c)
  from_in up s = (tt, omega (arith, s.low, sub_times lo p c), omega (arith, s.high, sub_times hi p c))
  from_in down s = (tt, omega (arith, s.high, s.on, sub_times p hi c), omega (arith, s.low, s.on, sub_times p lo c))
  from_in still s = ((le_of_mul-le-mul_right s.low some, ticks_upto p hi c some closed s.high), omega (arith, zero-mul c), omega (arith, s.on, one-mul c))
