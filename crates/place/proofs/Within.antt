-- A place of the ray that is in the array is between the planes of every axis: over numbers without a sign. Assumes nothing.
use Prim.Native.Nat.{ℕ, ◌+◌, ◌-◌, ◌*◌, ◌^◌, ◌≤◌, ◌<◌, zero-le}
use mathlib.Core.Path.{◌≡◌, sym, ap, ◌∙◌}
use mathlib.Core.Bool.{true}
use native.Mathlib.Nat.{mul-le-mul_right, mul-le-mul_left, mul_comm, mul_assoc, mul_left_comm, mul-sub, add-mul, le_refl, le_trans, le_of_eq, lt_of_lt_of_le, min-le_left, min-le_right}
use native.Mathlib.Omega.{arith}
use lib.Ieee.Positive.{first_pos}
use Rattle.axis.specs.Leg.{Leg, Slab, factor, held, enters, leaves}
use Rattle.ray.specs.declared.Ray.{Ray}
use Rattle.ray.specs.declared.axes.Side.{Side}
use Rattle.ray.specs.Length.{d_of, rest, array, start, stop, holds}
use Rattle.ray.proofs.Way.{Way, up, down, still, Goes, way, factor_by}
use Rattle.ray.proofs.Through.{sub_times}
use Rattle.ray.proofs.Capped.{d_side}
use Rattle.ray.proofs.Tests.{all_of}
use Rattle.line.specs.Scene.{Scene}
use Rattle.line.specs.Scene.{leg_n, plane, line, volume_of, ray_of}
use Rattle.line.proofs.Units.{enter_by, leave_by, HeldBy, factor_is, enters_is, leaves_is, held_by}
use Rattle.line.proofs.Sizes.{two_sizes}
use Rattle.line.proofs.Three.{le_most, least_le}
use Rattle.line.proofs.Stretch.{plane_mono, held_array}
use Rattle.line.proofs.Scenes.{leg_is}
use Rattle.place.specs.Ratio.{Ratio, Short}

-- the point t / d of the way from p to q, times d
abbrev pub spot : ℕ → ℕ → ℕ → ℕ → ℕ
spot p q t d = p * (d - t) + q * t

split : (p t d : ℕ) → t ≤ d → p * (d - t) + p * t ≡ p * d
split p t d h = omega (arith, mul-sub p d t, mul-le-mul_left p h)

pub spot_most : (p q t d k : ℕ) → p ≤ k → q ≤ k → t ≤ d → spot p q t d ≤ k * d
spot_most p q t d k hp hq h = omega (arith, mul-le-mul_right (d - t) hp, mul-le-mul_right t hq, split k t d h)

pub spot_short : (p q : ℕ) (f : Ratio) → p ≤ 2 ^ 20 → q ≤ 2 ^ 20 → Short f → f.num ≤ f.den → spot p q f.num f.den ≤ 2 ^ 40
spot_short p q f hp hq short most = le_trans (spot_most p q f.num f.den (2 ^ 20) hp hq most) (two_sizes (le_refl (2 ^ 20)) short.den_size)

-- what lies between two planes
abbrev pub Between : (lo hi p q t d : ℕ) → Type 0
Between lo hi p q t d = (lo * d ≤ spot p q t d) × (spot p q t d ≤ hi * d)

-- t is in the stretch of one axis, in units of which d has the axis' factor times n
record In (w : Way) (lo hi p q n t d : ℕ) : Type 0 where
  goes : Goes w p q
  whole : factor_by w p q * n ≡ d
  held : HeldBy w true p lo hi
  some : 0 < leave_by w p lo hi
  after : enter_by w p lo hi * n ≤ t
  until : t ≤ leave_by w p lo hi * n
  most : t ≤ d

-- a plane c units away
away : (c f n d : ℕ) → f * n ≡ d → c * d ≡ f * (c * n)
away c f n d e = ap (λ (k : ℕ). c * k) (sym e) ∙ mul_left_comm c f n

ordered : (a b c : ℕ) → a ≤ b → a * c + (b - a) * c ≡ b * c
ordered a b c h = omega (arith, sub_times b a c, mul-le-mul_right c h)

module _ {lo hi p q n t d : ℕ} where
  from : (w : Way) → In w lo hi p q n t d → enter_by w p lo hi * d ≤ factor_by w p q * t
  from w i = le_trans (le_of_eq (away (enter_by w p lo hi) (factor_by w p q) n d i.whole)) (mul-le-mul_left (factor_by w p q) i.after)

  to : (w : Way) → In w lo hi p q n t d → factor_by w p q * t ≤ leave_by w p lo hi * d
  to w i = le_trans (mul-le-mul_left (factor_by w p q) i.until) (le_of_eq (sym (away (leave_by w p lo hi) (factor_by w p q) n d i.whole)))

  between : (w : Way) → In w lo hi p q n t d → Between lo hi p q t d
  between up i =
      let at : spot p q t d ≡ p * d + (q - p) * t = omega (arith, split p t d i.most, ordered p q t (omega (arith, i.goes))) in
      (omega (arith, at, from up i, sub_times lo p d), omega (arith, at, to up i, ordered p hi d (omega (arith, i.some))))
  between down i =
      let at : spot p q t d + (p - q) * t ≡ p * d = omega (arith, split p t d i.most, ordered q p t (omega (arith, i.goes))) in
      (omega (arith, at, to down i, ordered lo p d (omega (arith, i.some))), omega (arith, at, from down i, sub_times p hi d))
  between still i =
      let at : spot p q t d ≡ p * d = ap (λ (x : ℕ). p * (d - t) + x * t) (sym i.goes) ∙ split p t d i.most in
      (omega (arith, at, mul-le-mul_right d i.held.0), omega (arith, at, mul-le-mul_right d i.held.1))

-- a place of the ray that is in the array
module _ (s : Scene) (t : ℕ) where
  abbrev v : Side → Slab
  v = array (volume_of s)

  abbrev r : Ray
  r = ray_of s

  abbrev l : Side → Leg
  l o = leg_n (line s o).p (line s o).q

  module _ (holding : holds r v ≡ true) (some : 0 < stop r v) (after : start r v ≤ t) (until : t ≤ stop r v) where
    pub within : (o : Side) → Between (plane (line s o) 0) (plane (line s o) (line s o).n) (line s o).p (line s o).q t (d_of r)
    within o =
        let a = line s o in
        let w = way a.p a.q in
        let n = rest r o in
        let rise = plane_mono a {i = 0} {j = a.n} zero-le in
        let in-ticks = enters_is w.0 a.p a.q (plane a 0) (plane a a.n) n w.1 rise in
        let out-ticks = leaves_is w.0 a.p a.q (plane a 0) (plane a a.n) n w.1 rise in
        let out : stop r v ≤ leaves n (l o) (v o) = le_trans (min-le_right (d_of r) _) (least_le (λ o. leaves (rest r o) (l o) (v o)) o) in
        let share : d_of r ≡ factor (l o) * n = rw (leg_is s o) at (d_side r o) in
        between w.0 (record {
          goes = w.1;
          whole = ap (λ (f : ℕ). f * n) (sym (factor_is w.0 a.p a.q w.1)) ∙ sym share;
          held = held_by w.0 true a.p a.q (plane a 0) (plane a a.n) w.1 (sym (held_array a) ∙ all_of (λ o. held (l o) (v o)) holding o);
          some = first_pos _ n (lt_of_lt_of_le some (le_trans out (le_of_eq out-ticks)));
          after = le_trans (le_of_eq (sym in-ticks)) (le_trans (le_most (λ o. enters (rest r o) (l o) (v o)) o) after);
          until = le_trans until (le_trans out (le_of_eq out-ticks));
          most = le_trans until (min-le_left (d_of r) _);
        })

-- the same place of the ray, told over another whole
over : (p q t d c : ℕ) → spot p q t d * c ≡ p * (d * c - t * c) + q * (t * c)
over p q t d c = add-mul (p * (d - t)) (q * t) c ∙ rw (mul_assoc p (d - t) c, mul_assoc q t c, sub_times d t c)

pub same_spot : (p q t d u e : ℕ) → u * d ≡ t * e → spot p q u e * d ≡ spot p q t d * e
same_spot p q t d u e h = over p q u e d ∙ rw (h, mul_comm e d) (sym (over p q t d e))
