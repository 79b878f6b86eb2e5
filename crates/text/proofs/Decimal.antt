-- Decimal digits: one at a time, and how many. Assumes nothing.
use Prim.Native.Nat.{ℕ, zero, suc, ◌+◌, ◌*◌, ◌/◌, ◌%◌, ◌^◌, ◌≤◌, ◌<◌}
use mathlib.Core.List.{List, [], ◌∷◌, ◌++◌}
use mathlib.Core.Path.{◌≡◌, refl, ap, sym, ◌∙◌}
use lib.ListN.{length, length-append}
use native.Mathlib.Omega.{arith}
use native.Mathlib.Decide.{dec_lt}
use borrow.Author.Tests.{lt-ltb, le-ltb}
use Rattle.text.specs.Decimal.{digits_of, decimal}

digits_one : (k n : ℕ) → n < 10 → digits_of k n ≡ (48 + n) ∷ []
unfolding digits_of
digits_one zero n h = refl
digits_one (suc k) n h = rw (lt-ltb n 10 h) refl

digits_many : (k n : ℕ) → 10 ≤ n → digits_of (suc k) n ≡ digits_of k (n / 10) ++ (48 + n % 10) ∷ []
unfolding digits_of
digits_many k n h = rw (le-ltb n 10 h) refl

pub one_or_many : {P : Type 0} → (n : ℕ) → (n < 10 → P) → (10 ≤ n → P) → P
one_or_many n f g = elim (dec_lt n 10) [ yes h ↦ f h | no h ↦ g (omega arith) ]

-- the bound on n may be any
digits_any : (k j n : ℕ) → n ≤ k → n ≤ j → digits_of k n ≡ digits_of j n
digits_any zero j n h g = digits_one zero n (omega arith) ∙ sym (digits_one j n (omega arith))
digits_any (suc k) zero n h g = digits_one (suc k) n (omega arith) ∙ sym (digits_one zero n (omega arith))
digits_any (suc k) (suc j) n h g =
    one_or_many n
    (λ w. digits_one (suc k) n w ∙ sym (digits_one (suc j) n w))
    (λ w. rw (digits_many k n w, digits_many j n w, digits_any k j (n / 10) (omega arith) (omega arith)))

pub decimal_one : (n : ℕ) → n < 10 → decimal n ≡ (48 + n) ∷ []
unfolding decimal
decimal_one n h = digits_one n n h

pub decimal_many : (n : ℕ) → 10 ≤ n → decimal n ≡ decimal (n / 10) ++ (48 + n % 10) ∷ []
unfolding decimal
decimal_many n h = digits_any n (suc n) n (omega arith) (omega arith) ∙ rw (digits_many n n h, digits_any n (n / 10) (n / 10) (omega arith) (omega arith))

-- what holds of a digit, and of n if of its tens, holds of every number
pub by_tens : (P : ℕ → Type 0) → ((n : ℕ) → n < 10 → P n) → ((n : ℕ) → 10 ≤ n → P (n / 10) → P n) → (n : ℕ) → P n
by_tens P one many n = below n n (omega arith)
  where
    below : (k m : ℕ) → m ≤ k → P m
    below zero m h = one m (omega arith)
    below (suc k) m h = one_or_many m (one m) (λ w. many m w (below k (m / 10) (omega arith)))

pub decimal_snoc : (n d : ℕ) → 0 < n → d < 10 → decimal (n * 10 + d) ≡ decimal n ++ (48 + d) ∷ []
decimal_snoc n d h g =
    let q : (n * 10 + d) / 10 ≡ n = omega arith in
    let r : (n * 10 + d) % 10 ≡ d = omega arith in
    decimal_many (n * 10 + d) (omega arith) ∙ rw (q, r) refl

-- the first digit, which is 0 only of 0
pub record Headed (n : ℕ) : Type 0 where
  pub first : ℕ
  pub others : List ℕ
  pub spelt : decimal n ≡ first ∷ others
  pub digit : 48 ≤ first
  pub leading : 0 < n → 48 < first

pub headed : (n : ℕ) → Headed n
headed = by_tens Headed one many
  where
    one : (n : ℕ) → n < 10 → Headed n
    one n w = record { first = 48 + n; others = []; spelt = decimal_one n w; digit = omega arith; leading = λ p. omega arith }

    many : (n : ℕ) → 10 ≤ n → Headed (n / 10) → Headed n
    many n w r = record { first = r.first; others = r.others ++ (48 + n % 10) ∷ []; spelt = rw (decimal_many n w, r.spelt); digit = r.digit; leading = λ p. r.leading (omega arith) }

pub length_one : (n : ℕ) → n < 10 → length (decimal n) ≡ 1
length_one n h = rw (decimal_one n h) refl

pub length_many : (n : ℕ) → 10 ≤ n → length (decimal n) ≡ length (decimal (n / 10)) + 1
length_many n h = rw (decimal_many n h) (simp length-append)

abbrev tens : ℕ → ℕ
tens zero = 1
tens (suc k) = 10 * tens k

tens_some : (k : ℕ) → 0 < tens k
tens_some zero = omega arith
tens_some (suc k) = omega (arith, tens_some k)

-- at most suc k digits is below 10 ^ suc k
length_below : (k n : ℕ) → n < 10 * tens k → length (decimal n) ≤ suc k
length_below zero n h = omega (arith, length_one n (omega arith))
length_below (suc k) n h = one_or_many n (λ w. omega (arith, length_one n w)) (λ w. omega (arith, length_many n w, length_below k (n / 10) (omega arith)))

below_length : (k n : ℕ) → length (decimal n) ≤ suc k → n < 10 * tens k
below_length zero n h = one_or_many n (λ w. omega arith) (λ w. absurd (omega (arith, length_many n w, ap length (headed (n / 10)).spelt)))
below_length (suc k) n h = one_or_many n (λ w. omega (arith, tens_some k)) (λ w. omega (arith, below_length k (n / 10) (omega (arith, length_many n w))))

-- a number of 64 bits
pub length_word : (n : ℕ) → n < 2 ^ 64 → length (decimal n) ≤ 20
length_word n h = length_below 19 n (omega arith)

-- six digits
pub length_six : (n : ℕ) → n < 1000000 → length (decimal n) ≤ 6
length_six n h = length_below 5 n (omega arith)

pub six_length : (n : ℕ) → length (decimal n) ≤ 6 → n < 1000000
six_length n h = omega (arith, below_length 5 n h)
