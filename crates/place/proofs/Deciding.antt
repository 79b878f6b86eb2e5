-- The fraction that decides αmin is αmin: over the axis' own difference it is what start is over D, and so for αmax. Assumes nothing.
use Prim.Native.Nat.{ℕ, ◌*◌, ◌^◌, ◌≤◌, ◌<◌, min, max, zero-le}
use mathlib.Core.Path.{◌≡◌, refl, sym, ap, ◌∙◌}
use mathlib.Core.Bool.{Bool, true, false, cond}
use native.Mathlib.Nat.{le_of_mul-le-mul_right, mul-le-mul_right, mul_comm, mul_assoc, mul-one, one-mul, zero-mul}
use native.Mathlib.Omega.{arith}
use native.Mathlib.Decide.{dec_lt}
use lib.IntN.{pos}
use lib.Dec.{ltb, lit<, lit≤}
use borrow.Author.Tests.{lt-ltb, le-ltb}
use Rattle.axis.specs.Leg.{Leg, moving, factor, run, Slab, enters, leaves}
use Rattle.ray.specs.declared.axes.Side.{Side}
use Rattle.ray.specs.declared.axes.Side.TheVariants.{X, Y, Z}
use Rattle.ray.specs.Length.{d_of, rest, array, start, stop}
use Rattle.ray.proofs.Way.{Way, up, down, still, way, factor_pos}
use Rattle.ray.proofs.Capped.{d_pos, d_side}
use Rattle.ray.proofs.Fraction as ray
use Rattle.line.specs.declared.line.Line.{Line}
use Rattle.line.specs.Scene.{Scene}
use Rattle.line.specs.Scene.{leg_n, plane, line, ray_of, volume_of, Sized, Able}
use Rattle.line.proofs.Units.{enter_by, leave_by, enters_is, leaves_is}
use Rattle.line.proofs.Stretch.{plane_mono}
use Rattle.line.proofs.Sizes.{factor_size}
use Rattle.line.proofs.Scenes.{leg_is}
use Rattle.place.specs.Ratio.{Ratio, Short, over, below, greater, lesser}
use Rattle.place.specs.Deciding.{stretch_at, αmin, αmax}

abbrev pub signed : Ratio → ray.Fraction
signed f = record { num = pos f.num; den = f.den }

-- f is n / d
pub record Is (f : Ratio) (n d : ℕ) : Type 0 where
  pub at : ray.At d (signed f) n
  pub short : Short f

-- a/b, being t/d, is at most 1
pub up_to_one : (a b t d : ℕ) → 0 < d → a * d ≡ t * b → t ≤ d → a ≤ b
up_to_one a b t d D e h = le_of_mul-le-mul_right (omega (arith, e, mul-le-mul_right b h, mul_comm d b)) D

-- over one d the fractions stand as what they are of it
module _ {f h : Ratio} {a b d : ℕ} (F : Is f a d) (H : Is h b d) where
  pub below_is : below f h ≡ ltb a b
  below_is = ray.lt_at (ray.exact F.at refl) H.at

  greater_is : Is (greater f h) (max a b) d
  greater_is = elim (dec_lt a b) [
    | yes l ↦ let e : max a b ≡ b = omega arith in rw (below_is, lt-ltb a b l, e) H
    | no l ↦ let e : max a b ≡ a = omega arith in rw (below_is, le-ltb a b (omega arith), e) F
  ]

lesser_is : {f h : Ratio} {a b d : ℕ} → Is f a d → Is h b d → Is (lesser f h) (min a b) d
lesser_is {f} {h} {a} {b} {d} F H = elim (dec_lt b a) [
  | yes l ↦ let e : min a b ≡ b = omega arith in rw (below_is H F, lt-ltb b a l, e) H
  | no l ↦ let e : min a b ≡ a = omega arith in rw (below_is H F, le-ltb b a (omega arith), e) F
]

-- in any ticks as many times what it is in units
scale : (t : Bool) (x y z n : ℕ) → z * n ≡ y → cond t (x * 1) z * n ≡ cond t (x * n) y
scale true x y z n e = rw (mul-one x) refl
scale false x y z n e = e

module _ (l : Leg) (s : Slab) (n : ℕ) where
  enters_by : enters 1 l s * n ≡ enters n l s
  enters_by = scale (moving l) (min (run l s.lo) (run l s.hi)) 0 0 n (zero-mul n)

  leaves_by : leaves 1 l s * n ≡ leaves n l s
  leaves_by = scale (moving l) (max (run l s.lo) (run l s.hi)) n 1 n (one-mul n)

-- units of one axis are no more than its coordinates
few : (w : Way) {p lo hi : ℕ} → p ≤ 2 ^ 20 → lo ≤ hi → hi ≤ 2 ^ 20 → (enter_by w p lo hi ≤ 2 ^ 20) × (leave_by w p lo hi ≤ 2 ^ 20)
few up h k m = (omega arith, omega arith)
few down h k m = (omega arith, omega arith)
few still h k m = (omega arith, omega arith)

pub short : (a : Line) → Sized a → Short (stretch_at a).enter × Short (stretch_at a).leave
short a sized =
    let w = way a.p a.q in
    let rise = plane_mono a {i = 0} {j = a.n} zero-le in
    let most = few w.0 sized.p_size rise sized.far_size in
    let from = enters_is w.0 a.p a.q (plane a 0) (plane a a.n) 1 w.1 rise in
    let to = leaves_is w.0 a.p a.q (plane a 0) (plane a a.n) 1 w.1 rise in
    let den = factor_size a sized in
    let some = factor_pos (leg_n a.p a.q) in (
      record { num_size = omega (arith, from, most.0); den_size = den; some = some },
      record { num_size = omega (arith, to, most.1); den_size = den; some = some },
    )

-- αmin and αmax of a scene
abbrev pub enter : Scene → Ratio
enter s = αmin (stretch_at s.x) (stretch_at s.y) (stretch_at s.z)

abbrev pub leave : Scene → Ratio
leave s = αmax (stretch_at s.x) (stretch_at s.y) (stretch_at s.z)

module _ (s : Scene) (able : Able s) where
  abbrev l : Side → Leg
  l o = leg_n (line s o).p (line s o).q

  abbrev b : Side → Slab
  b = array (volume_of s)

  -- units over the axis' own difference are their ticks over D
  units_are : (o : Side) (ticks : ℕ → ℕ) → ((n : ℕ) → ticks 1 * n ≡ ticks n) → Short (over (ticks 1) (factor (l o)))
      → Is (over (ticks 1) (factor (l o))) (ticks (rest (ray_of s) o)) (d_of (ray_of s))
  units_are o ticks each short =
      let n = rest (ray_of s) o in
      let d : d_of (ray_of s) ≡ n * factor (l o) = rw (leg_is s o) at (d_side (ray_of s) o) ∙ mul_comm (factor (l o)) n in
      record {
        at = record {
          d_pos = d_pos (ray_of s);
          den_pos = factor_pos (l o);
          at = ap (λ (x : ℕ). ticks 1 * x) d ∙ sym (mul_assoc (ticks 1) n (factor (l o))) ∙ ap (λ (x : ℕ). x * factor (l o)) (each n);
        };
        short = short;
      }

  enter_is : (o : Side) → Is (stretch_at (line s o)).enter (enters (rest (ray_of s) o) (l o) (b o)) (d_of (ray_of s))
  enter_is o = units_are o (λ n. enters n (l o) (b o)) (enters_by (l o) (b o)) (short (line s o) (able.sized o)).0

  leave_is : (o : Side) → Is (stretch_at (line s o)).leave (leaves (rest (ray_of s) o) (l o) (b o)) (d_of (ray_of s))
  leave_is o = units_are o (λ n. leaves n (l o) (b o)) (leaves_by (l o) (b o)) (short (line s o) (able.sized o)).1

  pub αmin_is : Is (enter s) (start (ray_of s) (array (volume_of s))) (d_of (ray_of s))
  αmin_is = greater_is (enter_is X) (greater_is (enter_is Y) (enter_is Z))

  whole_is : Is (over 1 1) (d_of (ray_of s)) (d_of (ray_of s))
  whole_is = record { at = record { d_pos = d_pos (ray_of s); den_pos = lit< tt; at = mul_comm 1 (d_of (ray_of s)) }; short = record { num_size = lit≤ tt; den_size = lit≤ tt; some = lit< tt } }

  pub αmax_is : Is (leave s) (stop (ray_of s) (array (volume_of s))) (d_of (ray_of s))
  αmax_is = lesser_is whole_is (lesser_is (leave_is X) (lesser_is (leave_is Y) (leave_is Z)))
