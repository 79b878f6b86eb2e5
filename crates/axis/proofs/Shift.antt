-- A coordinate told from the lower limit up, `shift k z` is z + k: differences and the order stay as they are, and from
-- there on the numbers have no sign. k is any limit. Assumes nothing.
use Prim.Native.Nat.{ℕ, zero, suc, ◌+◌, ◌-◌, ◌≤◌, ◌<◌}
use mathlib.Core.Path.{◌≡◌, refl, sym, ap, ◌∙◌}
use native.Mathlib.Omega.{arith}
use native.Mathlib.Decide.{dec_lt}
use lib.IntN.{ℤ, pos, negsuc, neg_ℤ, sub_ℕ, ◌+ℤ◌, ◌-ℤ◌, +ℤ_assoc, +ℤ_comm, +ℤ_invr, +ℤ_idl, neg_ℤ-+ℤ}
use lib.Signed.{le_z}
use lib.Dec.{T, leb, leb→le, le→leb}
use borrow.Author.Tests.{le-ltb, lt-ltb, le-leb, lt-leb}
use Rattle.axis.specs.Leg.{natural}
use Rattle.axis.proofs.Flag.{leb_same}

abbrev pub shift : ℕ → ℤ → ℕ
shift k z = natural (z +ℤ pos k)

-- z is at least -k
abbrev pub Low : ℕ → ℤ → Type 0
Low k z = T (le_z (neg_ℤ (pos k)) z)

pub sub_ge : (a b : ℕ) → b ≤ a → sub_ℕ a b ≡ pos (a - b)
sub_ge a b h = rw (le-ltb a b h)

pub sub_lt : (a b : ℕ) → a < b → sub_ℕ a b ≡ negsuc (b - suc a)
sub_lt a b h = rw (lt-ltb a b h)

-- a difference of naturals, cut off at 0
natural_sub : (a b : ℕ) → natural (sub_ℕ a b) ≡ a - b
natural_sub a b = elim (dec_lt a b) [ yes h ↦ rw (sub_lt a b h) (omega arith) | no h ↦ rw (sub_ge a b (omega arith)) refl ]

pub natural_diff : (a b : ℕ) → natural (pos a -ℤ pos b) ≡ a - b
natural_diff a zero = omega arith
natural_diff a (suc b) = natural_sub a (suc b)

low_negsuc : (k n : ℕ) → Low k (negsuc n) → suc n ≤ k
low_negsuc zero n h = elim h [ ]
low_negsuc (suc k) n h = omega (arith, leb→le n k h)

low_negsuc' : (k n : ℕ) → suc n ≤ k → Low k (negsuc n)
low_negsuc' (suc k) n h = le→leb n k (omega arith)
low_negsuc' zero n h = absurd (omega arith)

pub low_pos : (k n : ℕ) → Low k (pos n)
low_pos zero n = le→leb 0 n (omega arith)
low_pos (suc k) n = tt

pub shift_is : (k : ℕ) (z : ℤ) → Low k z → z +ℤ pos k ≡ pos (shift k z)
shift_is k (pos n) h = refl
shift_is k (negsuc n) h = rw (sub_ge k (suc n) (low_negsuc k n h)) refl

module _ (k : ℕ) where
  pub shift_order : (p q : ℤ) → Low k p → Low k q → le_z p q ≡ leb (shift k p) (shift k q)
  shift_order (pos a) (pos b) hp hq = leb_same a b (a + k) (b + k) (λ h. omega arith) (λ h. omega arith)
  shift_order (pos a) (negsuc b) hp hq = rw (natural_sub k (suc b)) (sym (lt-leb (a + k) (k - suc b) (omega (arith, low_negsuc k b hq))))
  shift_order (negsuc a) (pos b) hp hq = rw (natural_sub k (suc a)) (sym (le-leb (k - suc a) (b + k) (omega arith)))
  shift_order (negsuc a) (negsuc b) hp hq =
      rw (natural_sub k (suc a), natural_sub k (suc b))
      (leb_same b a (k - suc a) (k - suc b) (λ h. omega arith) (λ h. omega (arith, low_negsuc k a hp, low_negsuc k b hq)))

  -- p - q is the difference of the shifted
  shift_diff : (p q : ℤ) → Low k p → Low k q → p -ℤ q ≡ pos (shift k p) -ℤ pos (shift k q)
  shift_diff p q hp hq =
      sym (ap (λ (z : ℤ). z -ℤ pos (shift k q)) (sym (shift_is k p hp))
      ∙ ap (λ (z : ℤ). p +ℤ pos k +ℤ neg_ℤ z) (sym (shift_is k q hq))
      ∙ ap (λ (z : ℤ). p +ℤ pos k +ℤ z) (neg_ℤ-+ℤ q (pos k) ∙ +ℤ_comm (neg_ℤ q) (neg_ℤ (pos k)))
      ∙ +ℤ_assoc p (pos k) (neg_ℤ (pos k) +ℤ neg_ℤ q)
      ∙ ap (λ (z : ℤ). p +ℤ z) (sym (+ℤ_assoc (pos k) (neg_ℤ (pos k)) (neg_ℤ q)) ∙ ap (λ (z : ℤ). z +ℤ neg_ℤ q) (+ℤ_invr (pos k)) ∙ +ℤ_idl (neg_ℤ q)))

  pub above_shift : (p q : ℤ) → Low k p → Low k q → natural (p -ℤ q) ≡ shift k p - shift k q
  above_shift p q hp hq = ap natural (shift_diff p q hp hq) ∙ natural_diff (shift k p) (shift k q)

  -- a whole number of steps on
  pub shift_add : (z : ℤ) (n : ℕ) → Low k z → shift k (z +ℤ pos n) ≡ shift k z + n
  shift_add z n h =
      ap natural (+ℤ_assoc z (pos n) (pos k) ∙ ap (λ (w : ℤ). z +ℤ w) (+ℤ_comm (pos n) (pos k)) ∙ sym (+ℤ_assoc z (pos k) (pos n)))
      ∙ ap (λ (w : ℤ). natural (w +ℤ pos n)) (shift_is k z h)

  pub low_add : (z : ℤ) (n : ℕ) → Low k z → Low k (z +ℤ pos n)
  low_add (pos a) n h = low_pos k (a + n)
  low_add (negsuc a) n h = elim (dec_lt n (suc a)) [
    | yes l ↦ rw (sub_lt n (suc a) l) (low_negsuc' k (suc a - suc n) (omega (arith, low_negsuc k a h)))
    | no l ↦ rw (sub_ge n (suc a) (omega arith)) (low_pos k (n - suc a))
  ]
