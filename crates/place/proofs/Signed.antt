-- The float nearest a signed fraction: equal for equal fractions, in their order, exact on whole numbers, and no negative zero.
-- Assumes nothing.
use mathlib.Core.Path.{◌≡◌, refl, sym, ap, ◌∙◌}
use Prim.Native.Nat.{ℕ, zero, suc, ◌+◌, ◌*◌, ◌^◌, ◌≤◌, ◌<◌, zero-le, suc-le-suc}
use native.Mathlib.Nat.{lt_irrefl, mul-pos, mul-one, zero-lt-suc}
use native.Mathlib.Omega.{arith}
use native.Mathlib.Decide.{dec_lt}
use mathlib.Core.Bool.{Bool, true, false, ◌&&◌, ◌||◌, cond}
use lib.IntN.{ℤ, pos, negsuc, neg_ℤ, nat_abs, ◌*ℤ◌, neg_ℤ-neg_ℤ, pos-ne-negsuc}
use lib.Signed.{le_z}
use lib.Dec.{T, ltb, eqb, leb→le, lit<}
use lib.Count.{count_trailing_zeros}
use lib.Ieee.{Float, nan, inf, fin, Format, binary64, prec, emax, low, up, down, odd, units, size, span, climb, round, neg, lt, eq, le, of_int}
use lib.Ieee.Fits.{round_is, round-fits, and_i, and_l}
use lib.Ieee.Order.{round_mono}
use lib.Ieee.Scale.{round_same}
use borrow.Author.Tests.{lt-ltb, le-ltb, eq-eqb}
use Rattle.ray.proofs.Fraction.{Fraction, Is}
use Rattle.place.specs.Answers.{nearest}
use Rattle.place.proofs.Rounded.{bare, round_bare, lt_or_eq}
use Rattle.place.proofs.Shown.{zero64, ZeroPlain, zero_plain}

-- equal fractions, y / b and z / d
not_same : (m n : ℕ) → 0 < n → pos m ≡ neg_ℤ (pos n) → ⊥
not_same m (suc n) p e = pos-ne-negsuc m n e
not_same m zero p e = lt_irrefl 0 p

neg_same : (m n : ℕ) → neg_ℤ (pos m) ≡ neg_ℤ (pos n) → m ≡ n
neg_same m n e = ap nat_abs (sym (neg_ℤ-neg_ℤ (pos m)) ∙ ap neg_ℤ e ∙ neg_ℤ-neg_ℤ (pos n))

pub nearest_same : (y z : ℤ) (b d : ℕ) → 0 < b → 0 < d → y *ℤ pos d ≡ z *ℤ pos b → nearest y b ≡ nearest z d
nearest_same (pos a) (pos c) b d B D e = round_same binary64 false a b c d B D (let h : a * d ≡ c * b = cc in h)
nearest_same (pos a) (negsuc c) b d B D e = absurd (not_same (a * d) (suc c * b) (mul-pos (zero-lt-suc c) B) e)
nearest_same (negsuc a) (pos c) b d B D e = absurd (not_same (c * b) (suc a * d) (mul-pos (zero-lt-suc a) D) (sym e))
nearest_same (negsuc a) (negsuc c) b d B D e = round_same binary64 true (suc a) b (suc c) d B D (neg_same (suc a * d) (suc c * b) e)

pub nearest_is : {d : ℕ} {x : Fraction} {n : ℕ} → Is d x n → nearest x.num x.den ≡ nearest (pos n) d
nearest_is {d} {x} {n} p = nearest_same x.num (pos n) x.den d p.den_pos p.d_pos p.is

-- a negative value is the positive one negated
odd_neg : (d q k l : ℕ) → odd d true q k l ≡ neg (odd d false q k l)
unfolding odd neg
odd_neg d zero k l = refl
odd_neg d (suc q) k l = refl

units_neg : (f : Format) (q k : ℕ) → units f true q k ≡ neg (units f false q k)
unfolding units neg
units_neg f q k = go (ltb (q * 2 ^ k) (2 ^ (low f + suc (emax f))))
  where
    go : (b : Bool) → cond b (odd (suc (prec f)) true q k (low f)) (inf true) ≡ neg (cond b (odd (suc (prec f)) false q k (low f)) (inf false))
    go true = odd_neg (suc (prec f)) q k (low f)
    go false = refl

round_neg : (f : Format) (a b : ℕ) → round f true a b ≡ neg (round f false a b)
round_neg f a b = round_is f true a b ∙ units_neg f _ _ ∙ ap neg (sym (round_is f false a b))

-- the order, with signs
of_le : (a b : ℕ) → a ≤ b → T (ltb a b || (eqb b a && true))
of_le a b h = elim (dec_lt a b) [
  | yes l ↦ rw (lt-ltb a b l) tt
  | no l ↦ let e : b ≡ a = omega arith in rw (le-ltb a b (omega arith), eq-eqb b a e) tt
]

-- -a ≤ b
apart : (a b : ℕ) → T (ltb 0 (a + b) || (eqb a b && eqb a 0))
apart a b = elim (dec_lt 0 (a + b)) [
  | yes h ↦ rw (lt-ltb 0 (a + b) h) tt
  | no h ↦ let d : a ≡ 0 = omega arith in let e : b ≡ 0 = omega arith in rw (d, e) tt
]

neg_le_neg : (x y : Float) → T (bare x) → T (bare y) → T (le y x) → T (le (neg x) (neg y))
unfolding le neg
neg_le_neg nan y p q h = elim p [ ]
neg_le_neg (inf false) nan p q h = elim q [ ]
neg_le_neg (inf false) (inf true) p q h = elim q [ ]
neg_le_neg (inf false) (fin true n d) p q h = elim q [ ]
neg_le_neg (inf true) y p q h = elim p [ ]
neg_le_neg (fin false m e) nan p q h = elim q [ ]
neg_le_neg (fin false m e) (inf true) p q h = elim q [ ]
neg_le_neg (fin false m e) (fin true n d) p q h = elim q [ ]
neg_le_neg (fin true m e) y p q h = elim p [ ]
neg_le_neg (inf false) (inf false) p q h = tt
neg_le_neg (inf false) (fin false n d) p q h = tt
neg_le_neg (fin false m e) (inf false) p q h = absurd h
neg_le_neg (fin false m e) (fin false n d) p q h = of_le (n * up d * down e) (m * up e * down d) (lt_or_eq (n * up d * down e) (m * up e * down d) h)

neg_le : (x y : Float) → T (bare x) → T (bare y) → T (le (neg x) y)
unfolding le neg
neg_le nan y p q = elim p [ ]
neg_le (inf false) nan p q = elim q [ ]
neg_le (inf false) (inf true) p q = elim q [ ]
neg_le (inf false) (fin true n d) p q = elim q [ ]
neg_le (inf true) y p q = elim p [ ]
neg_le (fin false m e) nan p q = elim q [ ]
neg_le (fin false m e) (inf true) p q = elim q [ ]
neg_le (fin false m e) (fin true n d) p q = elim q [ ]
neg_le (fin true m e) y p q = elim p [ ]
neg_le (inf false) (inf false) p q = tt
neg_le (inf false) (fin false n d) p q = tt
neg_le (fin false m e) (inf false) p q = tt
neg_le (fin false m e) (fin false n d) p q = apart (m * up e * down d) (n * up d * down e)

-- the rounded values keep the order of the fractions y / b ≤ z / d
neg_order : (m n : ℕ) → T (le_z (neg_ℤ (pos m)) (neg_ℤ (pos n))) → n ≤ m
neg_order zero zero h = zero-le
neg_order zero (suc n) h = absurd h
neg_order (suc m) zero h = zero-le
neg_order (suc m) (suc n) h = suc-le-suc (leb→le n m h)

not_above : (m n : ℕ) → 0 < n → T (le_z (pos m) (neg_ℤ (pos n))) → ⊥
not_above m zero p h = lt_irrefl 0 p
not_above m (suc n) p h = h

pub nearest_mono : (y z : ℤ) (b d : ℕ) → 0 < b → 0 < d → T (le_z (y *ℤ pos d) (z *ℤ pos b)) → T (le (nearest y b) (nearest z d))
nearest_mono (pos a) (pos c) b d B D h = round_mono binary64 a b c d B D (leb→le (a * d) (c * b) h)
nearest_mono (pos a) (negsuc c) b d B D h = absurd (not_above (a * d) (suc c * b) (mul-pos (zero-lt-suc c) B) h)
nearest_mono (negsuc a) (pos c) b d B D h =
    rw (round_neg binary64 (suc a) b) (neg_le (round binary64 false (suc a) b) (round binary64 false c d) (round_bare binary64 (suc a) b) (round_bare binary64 c d))
nearest_mono (negsuc a) (negsuc c) b d B D h =
    rw (round_neg binary64 (suc a) b, round_neg binary64 (suc c) d)
    (neg_le_neg (round binary64 false (suc a) b) (round binary64 false (suc c) d) (round_bare binary64 (suc a) b) (round_bare binary64 (suc c) d)
    (round_mono binary64 (suc c) d (suc a) b D B (neg_order (suc a * d) (suc c * b) h)))

of_int_is : (z : ℤ) → of_int binary64 z ≡ nearest z 1
unfolding of_int
of_int_is (pos n) = refl
of_int_is (negsuc n) = refl

times_one : (z : ℤ) → z *ℤ pos 1 ≡ z
times_one (pos n) = ap pos (mul-one n)
times_one (negsuc n) = ap (λ (m : ℕ). neg_ℤ (pos m)) (mul-one (suc n))

-- between two whole numbers where the exact value is
pub at_least : (lo z : ℤ) (d : ℕ) → 0 < d → T (le_z (lo *ℤ pos d) z) → T (le (of_int binary64 lo) (nearest z d))
at_least lo z d D h = rw (of_int_is lo) (nearest_mono lo z 1 d (lit< tt) D (rw (times_one z) h))

pub at_most : (z hi : ℤ) (d : ℕ) → 0 < d → T (le_z z (hi *ℤ pos d)) → T (le (nearest z d) (of_int binary64 hi))
at_most z hi d D h = rw (of_int_is hi) (nearest_mono z hi d 1 D (lit< tt) (rw (times_one z) h))

pub exact : (z c : ℤ) (d : ℕ) → 0 < d → z ≡ c *ℤ pos d → nearest z d ≡ of_int binary64 c
exact z c d D e = nearest_same z c d 1 D (lit< tt) (times_one z ∙ e) ∙ sym (of_int_is c)

-- a negative fraction is too far from 0 to round to it
eq_neg : (x : Float) → T (bare x) → T (eq (neg x) zero64) → T (eq x zero64)
unfolding eq neg
eq_neg nan b h = elim b [ ]
eq_neg (inf true) b h = elim b [ ]
eq_neg (fin true m e) b h = elim b [ ]
eq_neg (inf false) b h = h
eq_neg (fin false m e) b h = let z = eqb (m * up e * 1) (0 * 1 * down e) in and_i z true (and_l z _ h) tt

not_zero : T (le (round binary64 false 1 (2 ^ 20)) zero64) → ⊥
unfolding le lt eq round units odd size span climb count_trailing_zeros
not_zero h = h

pub nearest_plain : (z : ℤ) (d : ℕ) → 0 < d → d ≤ 2 ^ 20 → ZeroPlain (nearest z d)
nearest_plain (pos n) d D h = zero_plain (round binary64 false n d) (round-fits binary64 false n d) (round_bare binary64 n d)
nearest_plain (negsuc n) d D h = λ t.
    let x = round binary64 false (suc n) d in
    let e : x ≡ zero64 = zero_plain x (round-fits binary64 false (suc n) d) (round_bare binary64 (suc n) d) (eq_neg x (round_bare binary64 (suc n) d) (rw (round_neg binary64 (suc n) d) at t)) in
    absurd (not_zero (rw e at (round_mono binary64 1 (2 ^ 20) (suc n) d (lit< tt) D (omega arith))))
