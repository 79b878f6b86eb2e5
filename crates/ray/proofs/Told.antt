-- Whole numbers told from a lower bound of all of them up: their order and differences in numbers without a sign. Assumes nothing.
use Prim.Native.Nat.{ℕ, zero, suc, ◌+◌, ◌-◌, ◌*◌, ◌≤◌, ◌<◌}
use mathlib.Core.Path.{◌≡◌, refl, sym, ap, ◌∙◌}
use mathlib.Core.Bool.{true, false, not}
use native.Mathlib.Nat.{mul-zero}
use native.Mathlib.Omega.{arith}
use lib.IntN.{ℤ, pos, negsuc, neg_ℤ, nat_abs, ◌+ℤ◌, ◌-ℤ◌, ◌*ℤ◌, neg_ℤ-+ℤ, neg_ℤ-neg_ℤ, +ℤ_comm, +ℤ-neg_ℤ_cancel}
use lib.Signed.{le_z, lt_z}
use lib.Dec.{leb, ltb, le→leb}
use borrow.Author.Tests.{le-ltb, lt-ltb, ltb-true, leb-true, leb-false, le-leb}
use Rattle.axis.specs.Leg.{natural}
use Rattle.axis.proofs.Flag.{lt_not_le, leb_same}
use Rattle.axis.proofs.Shift.{shift, Low, low_pos, shift_is, shift_order, shift_add, low_add, above_shift}

pub low_abs : (k : ℕ) (z : ℤ) → nat_abs z ≤ k → Low k z
low_abs k (pos n) h = low_pos k n
low_abs (suc k) (negsuc n) h = le→leb n k (omega arith)
low_abs zero (negsuc n) h = absurd (omega arith)

abs_both : (z : ℤ) → nat_abs z ≡ natural z + natural (neg_ℤ z)
abs_both (pos zero) = refl
abs_both (pos (suc n)) = omega arith
abs_both (negsuc n) = omega arith

pub neg_diff : (x y : ℤ) → neg_ℤ (x -ℤ y) ≡ y -ℤ x
neg_diff x y = neg_ℤ-+ℤ x (neg_ℤ y) ∙ +ℤ_comm (neg_ℤ x) (neg_ℤ (neg_ℤ y)) ∙ ap (λ (z : ℤ). z -ℤ x) (neg_ℤ-neg_ℤ y)

neg_none : (n : ℕ) → natural (neg_ℤ (pos n)) ≡ 0
neg_none zero = refl
neg_none (suc n) = refl

pub natural_times : (d : ℕ) (z : ℤ) → natural (pos d *ℤ z) ≡ d * natural z
natural_times d (pos n) = refl
natural_times d (negsuc n) = neg_none (d * suc n) ∙ sym (mul-zero d)

pub times_neg : (d : ℕ) (z : ℤ) → pos d *ℤ neg_ℤ z ≡ neg_ℤ (pos d *ℤ z)
times_neg d (pos zero) = rw (mul-zero d)
times_neg d (pos (suc n)) = refl
times_neg d (negsuc n) = sym (neg_ℤ-neg_ℤ (pos (d * suc n)))

-- n/d of a whole number: n/d of its part above 0, and of that below
pub share_above : (n d : ℕ) (z w : ℤ) → pos d *ℤ z ≡ pos n *ℤ w → d * natural z ≡ n * natural w
share_above n d z w e = sym (natural_times d z) ∙ ap natural e ∙ natural_times n w

pub share_below : (n d : ℕ) (z w : ℤ) → pos d *ℤ z ≡ pos n *ℤ w → d * natural (neg_ℤ z) ≡ n * natural (neg_ℤ w)
share_below n d z w e = share_above n d (neg_ℤ z) (neg_ℤ w) (times_neg d z ∙ ap neg_ℤ e ∙ sym (times_neg n w))

pub lt_le : (a b : ℤ) → lt_z a b ≡ not (le_z b a)
lt_le (pos a) (pos b) = lt_not_le a b
lt_le (pos a) (negsuc b) = refl
lt_le (negsuc a) (pos b) = refl
lt_le (negsuc a) (negsuc b) = lt_not_le b a

module _ (k : ℕ) (x y : ℤ) (hx : Low k x) (hy : Low k y) where
  lt_told : lt_z x y ≡ ltb (shift k x) (shift k y)
  lt_told = lt_le x y ∙ ap not (shift_order k y x hy hx) ∙ sym (lt_not_le (shift k x) (shift k y))

  pub lt_yes : shift k x < shift k y → lt_z x y ≡ true
  lt_yes h = lt_told ∙ lt-ltb _ _ h

  pub lt_no : shift k y ≤ shift k x → lt_z x y ≡ false
  lt_no h = lt_told ∙ le-ltb _ _ h

  pub le_shift : le_z x y ≡ true → shift k x ≤ shift k y
  le_shift h = leb-true (shift k x) (shift k y) (sym (shift_order k x y hx hy) ∙ h)

  pub shift_le : shift k x ≤ shift k y → le_z x y ≡ true
  shift_le h = shift_order k x y hx hy ∙ le-leb (shift k x) (shift k y) h

  pub lt_shift : lt_z x y ≡ true → shift k x < shift k y
  lt_shift h = ltb-true (shift k x) (shift k y) (sym lt_told ∙ h)

  pub gap_shift : nat_abs (x -ℤ y) ≡ shift k x - shift k y + (shift k y - shift k x)
  gap_shift =
      let a : natural (x -ℤ y) ≡ shift k x - shift k y = above_shift k x y hx hy in
      let b : natural (neg_ℤ (x -ℤ y)) ≡ shift k y - shift k x = ap natural (neg_diff x y) ∙ above_shift k y x hy hx in
      omega (arith, abs_both (x -ℤ y))

  pub same_shift : shift k x ≡ shift k y → x ≡ y
  same_shift e =
      sym (+ℤ-neg_ℤ_cancel x (pos k))
      ∙ ap (λ (z : ℤ). z -ℤ pos k) (shift_is k x hx ∙ ap pos e ∙ sym (shift_is k y hy))
      ∙ +ℤ-neg_ℤ_cancel y (pos k)

-- three whole numbers, told from a lower bound of all up
pub level : (x y z : ℤ) {A : Type 0} → ((k : ℕ) → Low k x → Low k y → Low k z → A) → A
level x y z f =
    let k : ℕ = nat_abs x + nat_abs y + nat_abs z in
    f k (low_abs k x (omega arith)) (low_abs k y (omega arith)) (low_abs k z (omega arith))

-- the order is the sign of the difference
pub le_diff : (x y : ℤ) → le_z x y ≡ leb (natural (x -ℤ y)) 0
le_diff x y = level x y y (λ k hx hy hy'. rw (shift_order k x y hx hy, above_shift k x y hx hy) (leb_same (shift k x) (shift k y) (shift k x - shift k y) 0 (λ h. omega arith) (λ h. omega arith)))

pub le_through : (x y z : ℤ) → le_z x y ≡ true → le_z y z ≡ true → le_z x z ≡ true
le_through x y z h h' = level x y z (λ k hx hy hz. shift_le k x z hx hz (omega (arith, le_shift k x y hx hy h, le_shift k y z hy hz h')))

pub not_le : (x y : ℤ) → le_z x y ≡ false → le_z y x ≡ true
not_le x y h = level x y y (λ k hx hy hy'. shift_le k y x hy hx (omega (arith, leb-false (shift k x) (shift k y) (sym (shift_order k x y hx hy) ∙ h))))

pub natural_rises : (x y z : ℤ) → le_z x y ≡ true → natural (x -ℤ z) ≤ natural (y -ℤ z)
natural_rises x y z h = level x y z (λ k hx hy hz. omega (arith, above_shift k x z hx hz, above_shift k y z hy hz, le_shift k x y hx hy h))

pub natural_falls : (x y z : ℤ) → le_z x y ≡ true → natural (z -ℤ y) ≤ natural (z -ℤ x)
natural_falls x y z h = level x y z (λ k hx hy hz. omega (arith, above_shift k z x hz hx, above_shift k z y hz hy, le_shift k x y hx hy h))

pub le_add : (z : ℤ) (i j : ℕ) → i ≤ j → le_z (z +ℤ pos i) (z +ℤ pos j) ≡ true
le_add z i j h = level z z z (λ k hz hz' hz''. shift_le k (z +ℤ pos i) (z +ℤ pos j) (low_add k z i hz) (low_add k z j hz) (omega (arith, shift_add k z i hz, shift_add k z j hz)))
