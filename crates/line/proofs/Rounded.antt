-- The quotient that equations (6) and (12) round down, for planes at equal distances: the voxel of a tick by one division. Assumes nothing.
use Prim.Native.Nat.{ℕ, ◌+◌, ◌-◌, ◌*◌, ◌/◌, ◌≤◌, ◌<◌, min}
use mathlib.Core.Path.{◌≡◌, refl, sym, ap, ◌∙◌}
use mathlib.Core.Bool.{true}
use native.Mathlib.Omega.{arith}
use native.Mathlib.Decide.{dec_lt}
use native.Mathlib.Nat.{le_trans, lt_of_lt_of_le, add-mul, zero-mul, one-mul, mul_assoc, mul-pos, mul-le-mul_right, div-mul-le_self, mul-div_cancel, lt-div-mul-add, div-eq_of_lt-le, div-lt_iff_lt-mul}
use borrow.Author.Tests.{eq-eqb}
use Rattle.line.specs.declared.line.Line.{Line}
use Rattle.line.specs.Scene.{plane, Sized, Window, Within}
use Rattle.line.specs.Quotient.{quotient_of}
use Rattle.ray.proofs.Way.{Way, Goes}
use Rattle.line.proofs.Units.{leave_by, held_by, by_held}
use Rattle.line.proofs.Stretch.{plane_mono, way_of, going, enters_by, leaves_by, enter_voxel, leave_voxel, closed, held_array, held_whole, enter_whole, leave_whole, one_voxel, both_some}
use Rattle.line.proofs.Spots.{after_by, Below, below_any, In, to_in, from_in}

pub plane_ticks : (a : Line) (k i : ℕ) → plane a i * k ≡ a.b * k + i * (a.d * k)
plane_ticks a k i = omega (arith, add-mul a.b (i * a.d) k, mul_assoc i a.d k)

pub near_ticks : (a : Line) (k : ℕ) → plane a 0 * k ≡ a.b * k
near_ticks a k = omega (arith, plane_ticks a k 0, zero-mul (a.d * k))

pub quotient_plane : (a : Line) → Sized a → (k : ℕ) → 0 < k → (i : ℕ) → quotient_of a k (plane a i * k) ≡ i
quotient_plane a sized k some i = ap (λ (x : ℕ). x / (a.d * k)) (omega (arith, plane_ticks a k i)) ∙ mul-div_cancel i (mul-pos sized.wide some)

-- a number that two products show to be the quotient
pub quotient_near : (a : Line) (k x i : ℕ) → i * (a.d * k) ≤ x - a.b * k → x - a.b * k - i * (a.d * k) < a.d * k → quotient_of a k x ≡ i
quotient_near a k x i low high = div-eq_of_lt-le (a.d * k) low (omega (arith, add-mul i 1 (a.d * k), one-mul (a.d * k)))

-- ---- the quotient; a still place in the far face is in the last voxel, where the quotient is one too high
abbrev pub capped : Line → (k x : ℕ) → ℕ
capped a k x = min (quotient_of a k x) (a.n - 1)

module _ (a : Line) (sized : Sized a) (k : ℕ) (some : 0 < k) (x : ℕ) (low : plane a 0 * k ≤ x) where
  abbrev i : ℕ
  i = quotient_of a k x

  wide : 0 < a.d * k
  wide = mul-pos sized.wide some

  quotient_low : plane a i * k ≤ x
  quotient_low = omega (arith, near_ticks a k, plane_ticks a k i, div-mul-le_self (x - a.b * k) (a.d * k))

  quotient_high : x < plane a (i + 1) * k
  quotient_high = omega (arith, near_ticks a k, plane_ticks a k (i + 1), add-mul i 1 (a.d * k), one-mul (a.d * k), lt-div-mul-add {a = x - a.b * k} wide)

  quotient_inside : x < plane a a.n * k → i < a.n
  quotient_inside high = (div-lt_iff_lt-mul wide).1 (omega (arith, near_ticks a k, plane_ticks a k a.n))

  pub uncapped : x < plane a a.n * k → i ≡ capped a k x
  uncapped high = omega (arith, quotient_inside high)

  -- a place within the array lies between the planes of its voxel
  found : (w : Way) → Below w true x (plane a a.n * k)
      → (plane a (capped a k x) * k ≤ x) × Below w (closed a (capped a k x)) x (plane a (capped a k x + 1) * k) × (capped a k x < a.n)
  found w high = elim (dec_lt i a.n) [
    | yes h ↦ let e : capped a k x ≡ i = omega arith in rw e (quotient_low, below_any w (closed a i) quotient_high, h)
    | no h ↦
        let e : capped a k x ≡ a.n - 1 = omega arith in
        let last : a.n - 1 + 1 ≡ a.n = omega (arith, sized.some) in
        let below : plane a (a.n - 1) * k ≤ x = le_trans (mul-le-mul_right k (plane_mono a {i = a.n - 1} {j = i} (omega arith))) quotient_low in
        rw (e, last, eq-eqb a.n a.n refl) (below, high, omega (arith, sized.some))
  ]

-- ---- the voxel of a tick
abbrev pub index_by : Way → Line → (c t : ℕ) → ℕ
index_by w a c t = capped a c (after_by w (a.p * c) t)

module _ (a : Line) (c t : ℕ) (w : Way) (g : Goes w a.p a.q) (window : Window a c t) where
  pub in_array : In w true c a.p (plane a 0) (plane a a.n) t
  in_array =
      to_in true c a.p (plane a 0) (plane a a.n) t window.some w
      (held_by w true a.p a.q (plane a 0) (plane a a.n) g (sym (held_array a) ∙ window.holds))
      (rw (enters_by a c w g 0 a.n (omega arith)) at window.since)
      (rw (leaves_by a c w g 0 a.n (omega arith)) at window.until)

  pub index_within : Sized a → Within a c t (index_by w a c t)
  index_within sized =
      let i : ℕ = index_by w a c t in
      let k = found a sized c window.some (after_by w (a.p * c) t) in_array.low w in_array.high in
      let s = from_in (closed a i) c a.p (plane a i) (plane a (i + 1)) t window.some w (record { low = k.0; high = k.1; on = in_array.on }) in
      record {
        inside = k.2;
        holds = by_held w (closed a i) a.p a.q (plane a i) (plane a (i + 1)) g s.0;
        since = rw (enter_voxel a c w g i) s.1;
        until = rw (leave_voxel a c w g i) s.2;
      }

-- a tick of a voxel is one of the array, and its quotient is that voxel
module _ (a : Line) (c t : ℕ) {i : ℕ} (v : Within a c t i) where
  pub windowed : Window a c t
  windowed = record {
    some = (both_some (leave_by (way_of a) a.p (plane a i) (plane a (i + 1))) c (omega (arith, v.until, leave_voxel a c (way_of a) (going a) i))).1;
    holds = held_whole a i v.inside v.holds;
    since = le_trans (enter_whole a c i v.inside) v.since;
    until = lt_of_lt_of_le v.until (leave_whole a c i v.inside);
  }

  pub index_is : Sized a → (w : Way) → Goes w a.p a.q → index_by w a c t ≡ i
  index_is sized w g = one_voxel a sized c t (index_within a c t w g windowed sized) v

-- some voxel holds a tick of the array
pub voxel_of : (a : Line) (c t : ℕ) → Window a c t → Sized a → (i : ℕ) × Within a c t i
voxel_of a c t window sized = (index_by (way_of a) a c t, index_within a c t (way_of a) (going a) window sized)
