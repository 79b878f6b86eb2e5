-- One leg of a ray in numbers without a sign: it goes up, down or not at all. Assumes nothing.
use Prim.Native.Nat.{ℕ, ◌+◌, ◌-◌, ◌<◌, min}
use mathlib.Core.Path.{◌≡◌}
use mathlib.Core.Bool.{Bool, true, false}
use mathlib.Core.Logic.{inl, inr}
use native.Mathlib.Omega.{arith}
use native.Mathlib.Decide.{dec_lt}
use lib.IntN.{ℤ, nat_abs}
use Rattle.axis.specs.Leg.{Leg, moving, factor, run, Slab, held}
use Rattle.axis.proofs.Flag.{off_or_on}
use Rattle.ray.proofs.Tests.{tested}
use Rattle.ray.proofs.Told.{low_abs, lt_yes, lt_no, gap_shift, same_shift}
use Rattle.axis.proofs.Shift.{shift, Low, above_shift}

pub data Way : Type 0 where
  up : Way
  down : Way
  still : Way

abbrev pub Goes : Way → ℕ → ℕ → Type 0
Goes up p q = p < q
Goes down p q = q < p
Goes still p q = p ≡ q

pub way : (p q : ℕ) → (w : Way) × Goes w p q
way p q = elim (dec_lt p q) [ yes h ↦ (up, h) | no h ↦ elim (dec_lt q p) [ yes k ↦ (down, k) | no k ↦ (still, omega arith) ] ]

abbrev pub moves : Way → Bool
moves up = true
moves down = true
moves still = false

abbrev pub factor_by : Way → ℕ → ℕ → ℕ
factor_by up p q = q - p
factor_by down p q = p - q
factor_by still p q = 1

abbrev pub run_by : Way → ℕ → ℕ → ℕ
run_by up p c = c - p
run_by down p c = p - c
run_by still p c = p - c

-- A leg with its ends at -k or above: told from there up, it goes the way w.
pub record Going (k : ℕ) (w : Way) (l : Leg) : Type 0 where
  pub low_p : Low k l.p
  pub low_q : Low k l.q
  pub goes : Goes w (shift k l.p) (shift k l.q)

module _ {k : ℕ} {l : Leg} where
  pub moving_by : (w : Way) → Going k w l → moving l ≡ moves w
  moving_by up t = rw (lt_yes k l.p l.q t.low_p t.low_q t.goes)
  moving_by down t = rw (lt_no k l.p l.q t.low_p t.low_q (omega arith), lt_yes k l.q l.p t.low_q t.low_p t.goes)
  moving_by still t = rw (lt_no k l.p l.q t.low_p t.low_q (omega arith), lt_no k l.q l.p t.low_q t.low_p (omega arith))

  pub factor_by_lem : (w : Way) → Going k w l → factor l ≡ factor_by w (shift k l.p) (shift k l.q)
  factor_by_lem up t = rw (moving_by up t) (omega (arith, gap_shift k l.q l.p t.low_q t.low_p))
  factor_by_lem down t = rw (moving_by down t) (omega (arith, gap_shift k l.q l.p t.low_q t.low_p))
  factor_by_lem still t = rw (moving_by still t)

  pub run_by_lem : (c : ℤ) → Low k c → (w : Way) → Going k w l → run l c ≡ run_by w (shift k l.p) (shift k c)
  run_by_lem c hc up t = rw (lt_yes k l.p l.q t.low_p t.low_q t.goes) (above_shift k c l.p hc t.low_p)
  run_by_lem c hc down t = rw (lt_no k l.p l.q t.low_p t.low_q (omega arith)) (above_shift k l.p c t.low_p hc)
  run_by_lem c hc still t = rw (lt_no k l.p l.q t.low_p t.low_q (omega arith)) (above_shift k l.p c t.low_p hc)

-- how far along its leg a ray has come at the place c, at most its whole leg
abbrev pub passed : Leg → ℤ → ℕ
passed l c = min (factor l) (run l c)

-- whatever follows for a leg and two places told without a sign, follows
pub told : (l : Leg) (c m : ℤ) {A : Type 0} → ((k : ℕ) → Low k c → Low k m → (w : Way) → Going k w l → A) → A
told l c m f =
    let k : ℕ = nat_abs l.p + nat_abs l.q + nat_abs c + nat_abs m in
    let w = way (shift k l.p) (shift k l.q) in
    f k (low_abs k c (omega arith)) (low_abs k m (omega arith)) w.0 (record { low_p = low_abs k l.p (omega arith); low_q = low_abs k l.q (omega arith); goes = w.1 })

module _ (l : Leg) where
  pub still_same : moving l ≡ false → l.p ≡ l.q
  still_same h = told l l.p l.p (λ k hc hm w. elim w as (λ v. Going k v l → l.p ≡ l.q) [
    | up ↦ λ t. off_or_on (moving l) (moving_by up t) h
    | down ↦ λ t. off_or_on (moving l) (moving_by down t) h
    | still ↦ λ t. same_shift k l.p l.q t.low_p t.low_q t.goes
  ])

  pub factor_pos : 0 < factor l
  factor_pos = told l l.p l.p (λ k hc hm w. elim w as (λ v. Going k v l → 0 < factor l) [
    | up ↦ λ t. omega (arith, factor_by_lem up t)
    | down ↦ λ t. omega (arith, factor_by_lem down t)
    | still ↦ λ t. omega (arith, factor_by_lem still t)
  ])

-- a leg that moves as l does, from the same coordinate if it is still, is held as l is
pub held_same : (l t : Leg) → moving t ≡ moving l → (moving l ≡ false → t.p ≡ l.p) → (s : Slab) → held t s ≡ held l s
held_same l t e f s = elim (tested (moving l)) [ inl h ↦ rw (e, h) | inr h ↦ rw (e, f h) ]
