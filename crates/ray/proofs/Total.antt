-- Sums: `total` over the numbers below n, and a list's. Assumes nothing.
use Prim.Native.Nat.{ℕ, zero, suc, ◌+◌, ◌*◌, ◌≤◌, ◌<◌}
use mathlib.Core.Path.{◌≡◌, refl, sym, ap}
use mathlib.Core.List.{List, sum}
use native.Mathlib.Omega.{arith}
use native.Mathlib.Decide.{dec_lt}
use native.Mathlib.Nat.{mul-add, mul-zero}
use Rattle.ray.specs.Length.{total}

module _ (f g : ℕ → ℕ) where
  pub total_same : (n : ℕ) → ((m : ℕ) → m < n → f m ≡ g m) → total f n ≡ total g n
  unfolding total
  total_same zero h = refl
  total_same (suc n) h = omega (arith, total_same n (λ m i. h m (omega arith)), h n (omega arith))

  pub total_le : (n : ℕ) → ((m : ℕ) → m < n → f m ≤ g m) → total f n ≤ total g n
  unfolding total
  total_le zero h = omega arith
  total_le (suc n) h = omega (arith, total_le n (λ m i. h m (omega arith)), h n (omega arith))

  pub total_add : (n : ℕ) → total (λ m. f m + g m) n ≡ total f n + total g n
  unfolding total
  total_add zero = refl
  total_add (suc n) = omega (arith, total_add n)

module _ (f : ℕ → ℕ) where
  pub total_zero : (n : ℕ) → ((m : ℕ) → m < n → f m ≡ 0) → total f n ≡ 0
  unfolding total
  total_zero zero h = refl
  total_zero (suc n) h = omega (arith, total_zero n (λ m i. h m (omega arith)), h n (omega arith))

  pub total_times : (c n : ℕ) → total (λ m. c * f m) n ≡ c * total f n
  unfolding total
  total_times c zero = sym (mul-zero c)
  total_times c (suc n) = omega (arith, total_times c n, mul-add c (total f n) (f n))

-- two functions that differ at x alone
pub total_but : (f g : ℕ → ℕ) (x n : ℕ) → x < n → ((m : ℕ) → (m ≡ x → ⊥) → f m ≡ g m) → total f n + g x ≡ total g n + f x
unfolding total
total_but f g x zero h e = absurd (omega arith)
total_but f g x (suc n) h e = elim (dec_lt x n) [
  | yes i ↦ omega (arith, total_but f g x n i e, e n (λ k. omega arith))
  | no i ↦ let k : n ≡ x = omega arith in omega (arith, total_same f g n (λ m j. e m (λ k. omega arith)), ap f k, ap g k)
]

abbrev pub sum_list : List ℕ → ℕ
sum_list xs = sum ◌+◌ 0 xs
