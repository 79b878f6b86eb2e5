-- A signed number as a difference of two numbers without a sign: its sum, its multiple, its order. A point on a leg, so. Assumes nothing.
use Prim.Native.Nat.{ℕ, zero, suc, ◌+◌, ◌-◌, ◌*◌, ◌≤◌}
use mathlib.Core.Path.{◌≡◌, refl, sym, ap, ◌∙◌}
use native.Mathlib.Nat.{mul-le-mul_right, mul-le-mul_left, zero-mul, mul-sub}
use native.Mathlib.Omega.{arith}
use native.Mathlib.Decide.{dec_le}
use lib.IntN.{ℤ, pos, neg_ℤ, nat_abs, ◌+ℤ◌, ◌-ℤ◌, ◌*ℤ◌, +ℤ_assoc, +ℤ_comm, +ℤ-neg_ℤ_cancel, -ℤ-+ℤ_cancel, *ℤ_comm}
use lib.Signed.{le_z}
use lib.Dec.{T, le→leb}
use Rattle.axis.specs.Leg.{Leg}
use Rattle.axis.proofs.Shift.{shift, Low, shift_is}
use Rattle.ray.proofs.MovedAxis.{le_on, diff_on}
use Rattle.ray.proofs.Through.{sub_times}
use Rattle.ray.proofs.Told.{neg_diff}
use Rattle.line.proofs.Units.{diff_ge, abs_gap}

diff_le : (a b : ℕ) → a ≤ b → pos a -ℤ pos b ≡ neg_ℤ (pos (b - a))
diff_le a b h = sym (neg_diff (pos b) (pos a)) ∙ ap neg_ℤ (diff_ge b a h)

pub diff_size : (a b : ℕ) → nat_abs (pos a -ℤ pos b) ≤ a + b
diff_size a b = omega (arith, abs_gap b a)

neg_times : (n c : ℕ) → neg_ℤ (pos n) *ℤ pos c ≡ neg_ℤ (pos (n * c))
neg_times zero c = rw (zero-mul c)
neg_times (suc n) c = refl

pub diff_times : (a b c : ℕ) → (pos a -ℤ pos b) *ℤ pos c ≡ pos (a * c) -ℤ pos (b * c)
diff_times a b c = elim (dec_le b a) [
  | yes h ↦ rw (diff_ge a b h, diff_ge (a * c) (b * c) (mul-le-mul_right c h)) (ap pos (sub_times a b c))
  | no h ↦
      let h' : a ≤ b = omega arith in
      rw (diff_le a b h', diff_le (a * c) (b * c) (mul-le-mul_right c h')) (neg_times (b - a) c ∙ ap (λ (n : ℕ). neg_ℤ (pos n)) (sub_times b a c))
]

-- the order of two differences from one number
pub diff_order : {y z : ℤ} (a b c : ℕ) → y ≡ pos a -ℤ pos c → z ≡ pos b -ℤ pos c → a ≤ b → T (le_z y z)
diff_order a b c e f h =
    let o = neg_ℤ (pos c) in
    rw (e, f, le_on o (pos a) (pos b)) (le→leb a b h)

-- a coordinate told from -k up
pub told : (k : ℕ) (z : ℤ) → Low k z → z ≡ pos (shift k z) -ℤ pos k
told k z h = sym (+ℤ-neg_ℤ_cancel z (pos k)) ∙ ap (λ (y : ℤ). y -ℤ pos k) (shift_is k z h)

-- a point on a leg, t / d of the way from p to q
module _ (k : ℕ) (l : Leg) (from : Low k l.p) (to : Low k l.q) (t d : ℕ) (h : t ≤ d) where
  abbrev p : ℕ
  p = shift k l.p

  abbrev q : ℕ
  q = shift k l.q

  -- what is p in units of 1/d, and the way from there
  raised : l.p *ℤ pos d +ℤ pos (k * d) ≡ pos (p * d)
  raised =
      ap (λ (z : ℤ). z *ℤ pos d +ℤ pos (k * d)) (told k l.p from)
      ∙ ap (λ (z : ℤ). z +ℤ pos (k * d)) (diff_times p k d)
      ∙ -ℤ-+ℤ_cancel (pos (p * d)) (pos (k * d))

  onward : pos t *ℤ (l.q -ℤ l.p) ≡ pos (q * t) -ℤ pos (p * t)
  onward =
      *ℤ_comm (pos t) (l.q -ℤ l.p)
      ∙ ap (λ (z : ℤ). z *ℤ pos t) (sym (diff_on (pos k) l.q l.p) ∙ (λ i. shift_is k l.q to i -ℤ shift_is k l.p from i))
      ∙ diff_times q p t

  pub point_is : l.p *ℤ pos d +ℤ pos t *ℤ (l.q -ℤ l.p) ≡ pos (p * (d - t) + q * t) -ℤ pos (k * d)
  point_is =
      let x = l.p *ℤ pos d in
      let y = pos t *ℤ (l.q -ℤ l.p) in
      let z = pos (k * d) in
      let less = mul-le-mul_left p h in
      let e : p * d + q * t - p * t ≡ p * (d - t) + q * t = omega (arith, mul-sub p d t) in
      sym (+ℤ-neg_ℤ_cancel (x +ℤ y) z)
      ∙ ap (λ (w : ℤ). w -ℤ z)
      (+ℤ_assoc x y z
      ∙ ap (λ (w : ℤ). x +ℤ w) (+ℤ_comm y z)
      ∙ sym (+ℤ_assoc x z y)
      ∙ (λ i. raised i +ℤ onward i)
      ∙ sym (+ℤ_assoc (pos (p * d)) (pos (q * t)) (neg_ℤ (pos (p * t))))
      ∙ diff_ge (p * d + q * t) (p * t) (omega arith)
      ∙ ap pos e)
