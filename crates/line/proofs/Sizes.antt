-- Every product of a scene's numbers fits 64 bits. Assumes nothing.
use Prim.Native.Nat.{ℕ, ◌*◌, ◌^◌, ◌≤◌, ◌<◌}
use native.Mathlib.Omega.{arith}
use native.Mathlib.Decide.{dec_lt}
use native.Mathlib.Nat.{mul-le-mul}
use lib.IntN.{pos}
use Rattle.axis.specs.Leg.{factor, run}
use Rattle.line.specs.declared.line.Line.{Line}
use Rattle.line.specs.Scene.{leg_n, plane, Sized, enters_at, leaves_at}
use Rattle.line.specs.Reach.{meets_at}
use Rattle.ray.proofs.Way.{Way, up, down, still, way as goes, factor_by}
use Rattle.line.proofs.Units.{enter_by, leave_by, factor_is, run_up, run_down}
use Rattle.line.proofs.Stretch.{plane_mono, way_of, going, enters_by, leaves_by}

pub two_sizes : {f g : ℕ} → f ≤ 2 ^ 20 → g ≤ 2 ^ 20 → f * g ≤ 2 ^ 40
two_sizes h k = mul-le-mul {n₂ = 2 ^ 20} {m₂ = 2 ^ 20} h k

pub three_sizes : {f c : ℕ} → f ≤ 2 ^ 20 → c ≤ 2 ^ 40 → f * c ≤ 2 ^ 60
three_sizes h k = mul-le-mul {n₂ = 2 ^ 20} {m₂ = 2 ^ 40} h k

-- the same in half ticks, for the middle of a stretch: two such terms together are below 2^63
pub half_sizes : {f k : ℕ} → f ≤ 2 ^ 20 → k ≤ 2 ^ 41 → f * k ≤ 2 ^ 61
half_sizes h k = mul-le-mul {n₂ = 2 ^ 20} {m₂ = 2 ^ 41} h k

-- a difference is no more than any bound of both ends
pub factor_most : (p q most : ℕ) → p ≤ most → q ≤ most → 0 < most → factor (leg_n p q) ≤ most
factor_most p q most hp hq some = let w = goes p q in rw (factor_is w.0 p q w.1) (by w.0)
  where
    by : (w : Way) → factor_by w p q ≤ most
    by up = omega arith
    by down = omega arith
    by still = omega arith

module _ (a : Line) (sized : Sized a) where
  pub factor_size : factor (leg_n a.p a.q) ≤ 2 ^ 20
  factor_size = factor_most a.p a.q (2 ^ 20) sized.p_size sized.q_size (omega arith)

  module _ {i j : ℕ} (h : i ≤ j) (k : j ≤ a.n) where
    enter_by_lem : (w : Way) → enter_by w a.p (plane a i) (plane a j) ≤ 2 ^ 20
    enter_by_lem up = omega (arith, plane_mono a h, plane_mono a k, sized.far_size)
    enter_by_lem down = omega (arith, sized.p_size)
    enter_by_lem still = omega arith

    leave_by_lem : (w : Way) → leave_by w a.p (plane a i) (plane a j) ≤ 2 ^ 20
    leave_by_lem up = omega (arith, plane_mono a k, sized.far_size)
    leave_by_lem down = omega (arith, sized.p_size)
    leave_by_lem still = omega arith

    pub enter_ticks : {c : ℕ} → c ≤ 2 ^ 40 → enters_at a c i j ≤ 2 ^ 60
    enter_ticks {c} few = rw (enters_by a c (way_of a) (going a) i j h) (three_sizes (enter_by_lem (way_of a)) few)

    pub leave_ticks : {c : ℕ} → c ≤ 2 ^ 40 → leaves_at a c i j ≤ 2 ^ 60
    leave_ticks {c} few = rw (leaves_by a c (way_of a) (going a) i j h) (three_sizes (leave_by_lem (way_of a)) few)

  run_size : (x : ℕ) → x ≤ 2 ^ 20 → run (leg_n a.p a.q) (pos x) ≤ 2 ^ 20
  run_size x few = elim (dec_lt a.p a.q) [
    | yes g ↦ omega (arith, run_up a.p a.q x g)
    | no g ↦ omega (arith, run_down a.p a.q x (omega arith), sized.p_size)
  ]

  pub meet_ticks : {i c : ℕ} → i ≤ a.n → c ≤ 2 ^ 40 → meets_at a c i ≤ 2 ^ 60
  meet_ticks {i} h few = three_sizes (run_size (plane a i) (omega (arith, plane_mono a h, sized.far_size))) few
