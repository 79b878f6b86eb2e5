-- Of two fractions from 0 to 1, one below the other: their nearest floats keep 0 ≤ enter < leave ≤ 1, and zero is positive zero.
-- Assumes nothing.
use mathlib.Core.Path.{◌≡◌, refl, sym, ap, subst}
use Prim.Native.Nat.{ℕ, zero, suc, ◌*◌, ◌^◌, ◌≤◌, ◌<◌, zero-le}
use native.Mathlib.Nat.{le_trans, le_of_eq, mul-one, one-mul, zero-mul, mul-pos, zero-lt-suc}
use native.Mathlib.Omega.{arith}
use mathlib.Core.Bool.{true, false}
use lib.IntN.{ℤ, pos, negsuc}
use lib.Dec.{T, eqb, eqb→eq, lit<, lit≤}
use lib.Pow.{pow_pos, pow-lt}
use lib.Count.{count_trailing_zeros}
use lib.Ieee.{Float, nan, inf, fin, binary64, low, up, down, odd, units, size, span, climb, round, lt, eq, le, fits}
use lib.Ieee.Fits.{round-fits, up_pos, and_l}
use lib.Ieee.Order.{le_of_values, round_mono}
use lib.Ieee.Scale.{finite, grid}
use Rattle.place.proofs.Rounded.{bare, round_bare, round_finite, round_value, round_strict}

abbrev pub zero64 : Float
zero64 = fin false 0 (pos 0)

abbrev pub one64 : Float
one64 = fin false 1 (pos 0)

one_is : round binary64 false 1 1 ≡ one64
unfolding round units odd size span climb count_trailing_zeros
one_is = refl

-- RULES 8: every zero is +0
abbrev pub ZeroPlain : Float → Type 0
ZeroPlain x = T (eq x zero64) → x ≡ zero64

no_power : (e : ℤ) → T (eqb (up e * down e) 1) → e ≡ pos 0
no_power (pos zero) h = refl
no_power (pos (suc k)) h = absurd (omega (arith, eqb→eq (2 ^ suc k * 1) 1 h, pow-lt {i = 0} {j = suc k} (omega arith)))
no_power (negsuc k) h = absurd (omega (arith, eqb→eq (1 * 2 ^ suc k) 1 h, pow-lt {i = 0} {j = suc k} (omega arith)))

pub zero_plain : (x : Float) → T (fits binary64 x) → T (bare x) → ZeroPlain x
unfolding fits eq
zero_plain nan f b h = absurd b
zero_plain (inf s) f b h = absurd h
zero_plain (fin true m e) f b h = absurd b
zero_plain (fin false zero e) f b h = ap (fin false 0) (no_power e f)
zero_plain (fin false (suc m) e) f b h =
    absurd (omega (arith, eqb→eq (suc m * up e * 1) (0 * 1 * down e) (and_l (eqb (suc m * up e * 1) (0 * 1 * down e)) _ h), mul-pos (zero-lt-suc m) (up_pos e)))

-- RULES 8: what every hit is
pub record Shown (enter leave : Float) : Type 0 where
  pub from_zero : T (le zero64 enter)
  pub strict : T (lt enter leave)
  pub to_one : T (le leave one64)
  pub finite_enter : T (finite enter)
  pub finite_leave : T (finite leave)
  pub plain_enter : ZeroPlain enter
  pub plain_leave : ZeroPlain leave

pub shown : (a b c d : ℕ) → 0 < b → 0 < d → b ≤ 2 ^ 20 → d ≤ 2 ^ 20 → a ≤ b → c ≤ d → a * d < c * b → Shown (round binary64 false a b) (round binary64 false c d)
shown a b c d B D hb hd ab cd h =
    let a1 : a ≤ 1 * b = le_trans ab (le_of_eq (sym (one-mul b))) in
    let c1 : c ≤ 1 * d = le_trans cd (le_of_eq (sym (one-mul d))) in
    let X = round_value a b 1 B (lit≤ tt) a1 in
    record {
      from_zero = le_of_values zero64 (round binary64 false a b) 0 1 (grid binary64 a b) (2 ^ low binary64) (lit< tt) (pow_pos (low binary64)) (refl, refl) X (le_trans (le_of_eq (zero-mul (2 ^ low binary64))) zero-le);
      strict = round_strict a b c d B D hb hd cd h;
      to_one = subst (λ (z : Float). T (le (round binary64 false c d) z)) one_is (round_mono binary64 c d 1 1 D (lit< tt) (le_trans (le_of_eq (mul-one c)) c1));
      finite_enter = round_finite a b 1 B (lit≤ tt) a1;
      finite_leave = round_finite c d 1 D (lit≤ tt) c1;
      plain_enter = zero_plain (round binary64 false a b) (round-fits binary64 false a b) (round_bare binary64 a b);
      plain_leave = zero_plain (round binary64 false c d) (round-fits binary64 false c d) (round_bare binary64 c d);
    }
