-- Equations (2) and (12) in fractions are the whole numbers that the code makes and divides, so that the voxel of a stretch is (12) at its
-- middle, which is (13), rounded down. Assumes nothing.
use Prim.Native.Nat.{ℕ, ◌+◌, ◌-◌, ◌*◌, ◌/◌, ◌≤◌, ◌<◌, min}
use mathlib.Core.Path.{◌≡◌, sym, ap, ap₂, ◌∙◌}
use native.Mathlib.Omega.{arith}
use native.Mathlib.Nat.{mul_comm, mul_assoc, mul_right_comm, add-mul, mul-le-mul_right, le_of_mul-le-mul_right}
use lib.IntN.{ℤ, pos, ◌-ℤ◌, ◌*ℤ◌, +ℤ_idr, +ℤ_invr, *ℤ-zero}
use Rattle.axis.specs.Leg.{natural, factor}
use Rattle.ray.proofs.Through.{sub_times}
use Rattle.ray.proofs.Told.{neg_diff, times_neg}
use Rattle.ray.proofs.Way.{Way, up, down, still, Goes, factor_by}
use Rattle.ray.proofs.Fraction.{Fraction, Is, at, least0}
use Rattle.ray.proofs.Formula.{along, αmid, equation12, over_is, αmid_is}
use Rattle.line.specs.declared.line.Line.{Line}
use Rattle.line.specs.Scene.{leg_n, Sized, leaves_at, Within}
use Rattle.line.specs.Quotient.{spot_of}
use Rattle.line.proofs.Units.{diff_ge, factor_is}
use Rattle.line.proofs.Stretch.{way_of, going, pick, way_is}
use Rattle.line.proofs.Rounded.{windowed}
use Rattle.line.proofs.Middle.{middle_low, middle_down, middle_is}

-- ---- two fractions over e, in units of 1/k
abbrev by : ℤ → ℕ → Fraction
by z e = record { num = z; den = e }

whole_is : {k e : ℕ} (x : ℕ) → 0 < k → 0 < e → Is k (by (pos (x * e)) e) (x * k)
whole_is {k} {e} x h h' = record { d_pos = h; den_pos = h'; is = ap pos (mul_right_comm x e k) }

more_is : {k e n m x y : ℕ} → Is k (by (pos x) e) n → Is k (by (pos y) e) m → Is k (by (pos (x + y)) e) (n + m)
more_is {k} {e} {n} {m} {x} {y} p q = record {
  d_pos = p.d_pos;
  den_pos = p.den_pos;
  is = ap pos (add-mul x y k ∙ ap₂ ◌+◌ (at p) (at q) ∙ sym (add-mul n m e));
}

less_is : {k e n m : ℕ} {x y : ℤ} → Is k (by x e) n → Is k (by y e) m → m ≤ n → Is k (by (x -ℤ y) e) (n - m)
less_is {k} {e} {n} {m} {x} {y} p q h =
    let below : natural y * k ≤ natural x * k = omega (arith, at p, at q, mul-le-mul_right e h) in
    record {
      d_pos = p.d_pos;
      den_pos = p.den_pos;
      is =
          ap (λ (z : ℤ). z *ℤ pos k) (ap₂ ◌-ℤ◌ (least0 p) (least0 q) ∙ diff_ge (natural x) (natural y) (le_of_mul-le-mul_right below p.d_pos))
          ∙ ap pos (sub_times (natural x) (natural y) k ∙ ap₂ ◌-◌ (at p) (at q) ∙ sym (sub_times n m e));
    }

-- ---- equation (2), by the way
module _ (p q k m : ℕ) (α : Fraction) (some : 0 < k) (on : q < p → m ≤ p * k) where
  abbrev n : ℕ
  n = natural α.num

  -- α of a leg of f
  onward : (f : ℕ) → Is (k * f) α m → Is k (by (pos (n * f)) α.den) m
  onward f t = record { d_pos = some; den_pos = t.den_pos; is = ap pos (mul_assoc n f k ∙ ap (λ (x : ℕ). n * x) (mul_comm f k) ∙ at t) }

  along_is : (w : Way) → Goes w p q → Is (k * factor_by w p q) α m → Is k (along (leg_n p q) α) (pick w (p * k + m) (p * k - m) (p * k))
  along_is up g t = rw (least0 t, diff_ge q p (omega arith)) (more_is (whole_is p some t.den_pos) (onward (q - p) t))
  along_is down g t =
      rw (least0 t, ← neg_diff (pos p) (pos q), diff_ge p q (omega arith), times_neg n (pos (p - q)))
      (less_is (whole_is p some t.den_pos) (onward (p - q) t) (on g))
  along_is still g t = rw (g, +ℤ_invr (pos q), *ℤ-zero α.num, +ℤ_idr (pos (q * α.den))) (whole_is q some t.den_pos)

-- Equation (2): the place at m/kf, in ticks of k to a unit, is the start with m ticks more or fewer.
pub spot_is : (a : Line) (k m : ℕ) {α : Fraction} → Is (k * factor (leg_n a.p a.q)) α m → 0 < k → (a.q < a.p → m ≤ a.p * k)
    → Is k (along (leg_n a.p a.q) α) (spot_of a k m)
spot_is a k m {α} t some on =
    let w = way_of a in
    let x : ℕ = a.p * k in
    rw (way_is a w (going a) (x + m) (x - m) x) (along_is a.p a.q k m α some on w (going a) (rw (factor_is w a.p a.q (going a)) at t))

-- Equation (12) there is the place less the first plane, over the spacing, in those ticks.
pub equation12_is : (a : Line) (k m : ℕ) {α : Fraction} → Is (k * factor (leg_n a.p a.q)) α m → 0 < k → 0 < a.d → a.b * k ≤ spot_of a k m → (a.q < a.p → m ≤ a.p * k)
    → Is (a.d * k) (equation12 (leg_n a.p a.q) (pos a.b) a.d α) (spot_of a k m - a.b * k)
equation12_is a k m t some wide low on = over_is a.d wide (less_is (spot_is a k m t some on) (whole_is a.b some t.den_pos) low)

-- The voxel of a stretch is equation (12) at its middle, rounded down; the last one where that is above, for a still ray in the far face.
pub stretch_equation12 : (a : Line) → Sized a → (c from next : ℕ) {i : ℕ} → Within a c from i → from < next → next ≤ leaves_at a c i (i + 1)
    → {x y : Fraction} → Is (c * factor (leg_n a.p a.q)) x from → Is (c * factor (leg_n a.p a.q)) y next
    → Is (a.d * (2 * c)) (equation12 (leg_n a.p a.q) (pos a.b) a.d (αmid x y)) (spot_of a (2 * c) (from + next) - a.b * (2 * c))
    × (min ((spot_of a (2 * c) (from + next) - a.b * (2 * c)) / (a.d * (2 * c))) (a.n - 1) ≡ i)
stretch_equation12 a sized c from next v some until {x} {y} x-is y-is =
    let l = leg_n a.p a.q in
    let t : Is (2 * c * factor l) (αmid x y) (from + next) = rw (mul_assoc 2 c (factor l)) (αmid_is x-is y-is) in
    let low = middle_low a sized c from next v some until in
    let on = middle_down a sized c from next v some until in
    (equation12_is a (2 * c) (from + next) t (omega (arith, (windowed a c from v).some)) sized.wide low on, middle_is a sized c from next v some until)
