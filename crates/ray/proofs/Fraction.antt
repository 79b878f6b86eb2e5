-- Fractions of whole numbers: their order, least, greatest, sum and difference, and what those are in units of 1/d. Assumes nothing.
use Prim.Native.Nat.{ℕ, zero, suc, ◌+◌, ◌-◌, ◌*◌, ◌≤◌, ◌<◌, min, max}
use mathlib.Core.Path.{◌≡◌, refl, sym, ap, ap₂, ◌∙◌}
use mathlib.Core.Bool.{Bool, true, false, not, ◌&&◌, cond}
use mathlib.Core.List.{List, [], ◌∷◌}
use mathlib.Core.Logic.{◌⊎◌, inl, inr}
use native.Mathlib.Nat.{mul_assoc, mul_comm, mul_right_comm, add-mul, zero-mul, mul-pos, eq_of_mul-eq-mul_right, mul-le-mul_right, le_of_mul-le-mul_right, min-eq_left, min-eq_right, max-eq_left, max-eq_right}
use native.Mathlib.Omega.{arith}
use native.Mathlib.Decide.{dec_le}
use lib.IntN.{ℤ, pos, negsuc, neg_ℤ, ◌+ℤ◌, ◌-ℤ◌, ◌*ℤ◌, +ℤ_idr, *ℤ_comm, pos-ne-negsuc}
use lib.Signed.{le_z, lt_z}
use lib.Dec.{leb, ltb}
use borrow.Author.Tests.{le-leb, lt-leb, le-ltb}
use Rattle.axis.specs.Leg.{natural}
use Rattle.axis.proofs.Flag.{is_true, lt_not_le, leb_same}
use Rattle.axis.proofs.Shift.{low_pos, above_shift}
use Rattle.ray.proofs.Through.{sub_times}
use Rattle.ray.proofs.Tests.{tested}
use Rattle.ray.proofs.Told.{natural_times, lt_le, level, not_le, natural_rises}

-- a denominator is above zero
pub record Fraction : Type 0 where
  pub num : ℤ
  pub den : ℕ

infix 50 ◌≤ᶠ◌ ◌<ᶠ◌
abbrev pub ◌≤ᶠ◌ : Fraction → Fraction → Bool
x ≤ᶠ y = le_z (x.num *ℤ pos y.den) (y.num *ℤ pos x.den)

abbrev pub ◌<ᶠ◌ : Fraction → Fraction → Bool
x <ᶠ y = lt_z (x.num *ℤ pos y.den) (y.num *ℤ pos x.den)

abbrev pub lesser : Fraction → Fraction → Fraction
lesser x y = cond (x ≤ᶠ y) x y

abbrev pub greater : Fraction → Fraction → Fraction
greater x y = cond (x ≤ᶠ y) y x

abbrev pub minus : Fraction → Fraction → Fraction
minus x y = record { num = x.num *ℤ pos y.den -ℤ y.num *ℤ pos x.den; den = x.den * y.den }

abbrev pub plus : Fraction → Fraction → Fraction
plus x y = record { num = x.num *ℤ pos y.den +ℤ y.num *ℤ pos x.den; den = x.den * y.den }

abbrev pub times : Fraction → ℕ → Fraction
times x k = record { num = x.num *ℤ pos k; den = x.den }

abbrev pub whole : ℕ → Fraction
whole n = record { num = pos n; den = 1 }

-- x, or zero if that is negative
abbrev pub or_zero : Fraction → Fraction
or_zero x = cond (lt_z x.num (pos 0)) (whole 0) x

-- the least of x and the fractions of a list, and the greatest
unfoldable pub least : Fraction → List Fraction → Fraction
least x [] = x
least x (y ∷ ys) = lesser y (least x ys)

unfoldable pub greatest : Fraction → List Fraction → Fraction
greatest x [] = x
greatest x (y ∷ ys) = greater y (greatest x ys)

-- ---- whole numbers, cut off at 0

natural_mul : (z : ℤ) (d : ℕ) → natural (z *ℤ pos d) ≡ natural z * d
natural_mul z d = ap natural (*ℤ_comm z (pos d)) ∙ natural_times d z ∙ mul_comm d (natural z)

le_natural : (a b : ℤ) → le_z a b ≡ true → natural a ≤ natural b
le_natural a b h = rw (+ℤ_idr a, +ℤ_idr b) at (natural_rises a b (pos 0) h)

natural_minus : (a : ℤ) (c : ℕ) → natural (a -ℤ pos c) ≡ natural a - c
natural_minus a c = level a (pos c) (pos 0) (λ k ha hc ho. omega (arith, above_shift k a (pos c) ha hc, rw (+ℤ_idr a) at (above_shift k a (pos 0) ha ho)))

low_times : (a d c : ℕ) → le_z (negsuc a *ℤ pos d) (pos c) ≡ true
low_times a d c = is_true _ (low_pos (suc a * d) c)

below : (x y : Fraction) → x ≤ᶠ y ≡ true → natural x.num * y.den ≤ natural y.num * x.den
below x y h = rw (← natural_mul x.num y.den, ← natural_mul y.num x.den) (le_natural (x.num *ℤ pos y.den) (y.num *ℤ pos x.den) h)

-- ---- not below 0, or below

abbrev pub Least0 : Fraction → Type 0
Least0 x = x.num ≡ pos (natural x.num)

sign : (z : ℤ) → (z ≡ pos (natural z)) ⊎ ((a : ℕ) × (z ≡ negsuc a))
sign (pos a) = inl refl
sign (negsuc a) = inr (a, refl)

-- ---- in units of 1/d

-- x, or 0 where it is below, is n/d
pub record At (d : ℕ) (x : Fraction) (n : ℕ) : Type 0 where
  pub d_pos : 0 < d
  pub den_pos : 0 < x.den
  pub at : natural x.num * d ≡ n * x.den

-- x is n/d
pub record Is (d : ℕ) (x : Fraction) (n : ℕ) : Type 0 where
  pub d_pos : 0 < d
  pub den_pos : 0 < x.den
  pub is : x.num *ℤ pos d ≡ pos (n * x.den)

pub none_is : {d : ℕ} → 0 < d → Is d (whole 0) 0
none_is {d} h = record { d_pos = h; den_pos = omega arith; is = ap pos (zero-mul d) }

module _ {d : ℕ} {x : Fraction} {n : ℕ} (p : Is d x n) where
  pub at : natural x.num * d ≡ n * x.den
  at = sym (natural_mul x.num d) ∙ ap natural p.is

  as_at : At d x n
  as_at = record { d_pos = p.d_pos; den_pos = p.den_pos; at = at }

  pub least0 : Least0 x
  least0 = elim (sign x.num) [ inl z ↦ z | inr z ↦ absurd (not_below_0 (suc z.0 * d) (mul-pos (omega arith) p.d_pos) (sym (ap (λ (t : ℤ). t *ℤ pos d) z.1) ∙ p.is)) ]
    where
      not_below_0 : (k : ℕ) → 0 < k → neg_ℤ (pos k) ≡ pos (n * x.den) → ⊥
      not_below_0 zero h e = omega arith
      not_below_0 (suc k) h e = pos-ne-negsuc (n * x.den) k (sym e)

  pub times_is : (k : ℕ) → Is d (times x k) (n * k)
  times_is k = record {
    d_pos = p.d_pos;
    den_pos = p.den_pos;
    is =
        ap (λ (a : ℤ). a *ℤ pos k *ℤ pos d) least0
        ∙ ap pos (mul_right_comm (natural x.num) k d ∙ ap (λ (t : ℕ). t * k) at ∙ mul_right_comm n x.den k);
  }

module _ {d : ℕ} {x : Fraction} {n : ℕ} (p : At d x n) where
  none : (a : ℕ) → x.num ≡ negsuc a → n ≡ 0
  none a e = eq_of_mul-eq-mul_right x.den p.den_pos n 0 (sym p.at ∙ ap (λ (z : ℤ). natural z * d) e ∙ zero-mul d ∙ sym (zero-mul x.den))

  pub exact : Least0 x → Is d x n
  exact z = record { d_pos = p.d_pos; den_pos = p.den_pos; is = ap (λ (t : ℤ). t *ℤ pos d) z ∙ ap pos p.at }

  pub above_zero : 0 < n → Is d x n
  above_zero h = elim (sign x.num) [ inl z ↦ exact z | inr z ↦ absurd (omega (arith, none z.0 z.1)) ]

  pub or_zero_lem : Is d (or_zero x) n
  or_zero_lem = elim (sign x.num) [
    | inl z ↦ rw (ap (λ (t : ℤ). lt_z t (pos 0)) z ∙ le-ltb (natural x.num) 0 (omega arith)) (exact z)
    | inr z ↦ rw (ap (λ (t : ℤ). lt_z t (pos 0)) z.1, none z.0 z.1) (none_is p.d_pos)
  ]

-- ---- two of them

across : {d : ℕ} {x y : Fraction} {n m : ℕ} → At d x n → At d y m → natural x.num * y.den * d ≡ n * (x.den * y.den)
across {d} {x} {y} {n} p q = mul_right_comm (natural x.num) y.den d ∙ ap (λ (t : ℕ). t * y.den) p.at ∙ mul_assoc n x.den y.den

module _ {d : ℕ} {x y : Fraction} {n m : ℕ} (p : At d x n) (q : At d y m) where
  across_too : natural y.num * x.den * d ≡ m * (x.den * y.den)
  across_too = across q p ∙ ap (λ (t : ℕ). m * t) (mul_comm y.den x.den)

  in_order : natural x.num * y.den ≤ natural y.num * x.den → n ≤ m
  in_order l = le_of_mul-le-mul_right {m = n} {n = m} {k = x.den * y.den} (omega (arith, across p q, across_too, mul-le-mul_right d l)) (mul-pos p.den_pos q.den_pos)

  from_order : n ≤ m → natural x.num * y.den ≤ natural y.num * x.den
  from_order l = le_of_mul-le-mul_right {k = d} (omega (arith, across p q, across_too, mul-le-mul_right (x.den * y.den) l)) p.d_pos

  order : x ≤ᶠ y ≡ true → n ≤ m
  order h = in_order (below x y h)

module _ {d : ℕ} {x y : Fraction} {n m : ℕ} (p : At d x n) (q : At d y m) where
  pub lesser_at : At d (lesser x y) (min n m)
  lesser_at = elim (tested (x ≤ᶠ y)) [
    | inl h ↦ rw (h, min-eq_left (order p q h)) p
    | inr h ↦ rw (h, min-eq_right (order q p (not_le (x.num *ℤ pos y.den) (y.num *ℤ pos x.den) h))) q
  ]

  pub greater_at : At d (greater x y) (max n m)
  greater_at = elim (tested (x ≤ᶠ y)) [
    | inl h ↦ rw (h, max-eq_right (order p q h)) q
    | inr h ↦ rw (h, max-eq_left (order q p (not_le (x.num *ℤ pos y.den) (y.num *ℤ pos x.den) h))) p
  ]

-- the second is not below 0
module _ {d : ℕ} {x y : Fraction} {n m : ℕ} (p : At d x n) (q : Is d y m) where
  pub le_at : x ≤ᶠ y ≡ leb n m
  le_at = elim (sign x.num) [
    | inl z ↦ put z ∙ leb_same (natural x.num * y.den) (natural y.num * x.den) n m (in_order p (as_at q)) (from_order p (as_at q))
    | inr z ↦ put z.1 ∙ low_times z.0 y.den (natural y.num * x.den) ∙ sym (le-leb n m (omega (arith, none p z.0 z.1)))
  ]
    where
      put : {a : ℤ} → x.num ≡ a → x ≤ᶠ y ≡ le_z (a *ℤ pos y.den) (pos (natural y.num) *ℤ pos x.den)
      put e = ap₂ (λ (a c : ℤ). le_z (a *ℤ pos y.den) (c *ℤ pos x.den)) e (least0 q)

  pub greater_is : Is d (greater x y) (max n m)
  greater_is = elim (dec_le n m) [
    | yes h ↦ rw (le_at ∙ le-leb n m h, max-eq_right h) q
    | no h ↦ rw (le_at ∙ lt-leb n m (omega arith), max-eq_left {n = n} {m = m} (omega arith)) (above_zero p (omega arith))
  ]

  pub minus_at : At d (minus x y) (n - m)
  minus_at = record {
    d_pos = p.d_pos;
    den_pos = mul-pos p.den_pos q.den_pos;
    at =
        ap (λ (t : ℕ). t * d)
        (ap (λ (c : ℤ). natural (x.num *ℤ pos y.den -ℤ c *ℤ pos x.den)) (least0 q)
        ∙ natural_minus (x.num *ℤ pos y.den) (natural y.num * x.den)
        ∙ ap (λ (t : ℕ). t - natural y.num * x.den) (natural_mul x.num y.den))
        ∙ sub_times (natural x.num * y.den) (natural y.num * x.den) d
        ∙ ap₂ ◌-◌ (across p (as_at q)) (across_too p (as_at q))
        ∙ sym (sub_times n m (x.den * y.den));
  }

pub lt_at : {d : ℕ} {x y : Fraction} {n m : ℕ} → Is d x n → At d y m → x <ᶠ y ≡ ltb n m
lt_at {d} {x} {y} {n} {m} p q = lt_le (x.num *ℤ pos y.den) (y.num *ℤ pos x.den) ∙ ap not (le_at q p) ∙ sym (lt_not_le n m)

-- strictly between
pub between_at : {d : ℕ} {x y z : Fraction} {n m k : ℕ} → Is d x n → At d y m → At d z k → ((x <ᶠ y) && (y <ᶠ z)) ≡ (ltb n m && ltb m k)
between_at {d} {x} {y} {z} {n} {m} {k} p q s = elim (sign y.num) [
  | inl a ↦ ap₂ ◌&&◌ (lt_at p q) (lt_at (exact q a) s)
  | inr a ↦ let off : ltb n m ≡ false = le-ltb n m (omega (arith, none q a.0 a.1)) in rw (lt_at p q, off)
]

pub plus_is : {d : ℕ} {x y : Fraction} {n m : ℕ} → Is d x n → Is d y m → Is d (plus x y) (n + m)
plus_is {d} {x} {y} {n} {m} p q = record {
  d_pos = p.d_pos;
  den_pos = mul-pos p.den_pos q.den_pos;
  is =
      ap₂ (λ (a c : ℤ). (a *ℤ pos y.den +ℤ c *ℤ pos x.den) *ℤ pos d) (least0 p) (least0 q)
      ∙ ap pos (add-mul (natural x.num * y.den) (natural y.num * x.den) d
      ∙ ap₂ ◌+◌ (across (as_at p) (as_at q)) (across_too (as_at p) (as_at q)) ∙ sym (add-mul n m (x.den * y.den)));
}
