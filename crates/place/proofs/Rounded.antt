-- The order of rounded fractions that are not negative: two fractions apart stay apart. Assumes nothing.
use mathlib.Core.Path.{◌≡◌, sym, subst}
use Prim.Native.Nat.{ℕ, suc, ◌+◌, ◌*◌, ◌/◌, ◌%◌, ◌^◌, ◌≤◌, ◌<◌}
use native.Mathlib.Nat.{le_trans, le_of_eq, lt_of_lt_of_le, lt_irrefl, mul_comm, mul_assoc, mul_right_comm, mul-one, one-mul, mul-le-mul, mul-le-mul_right, mul-lt-mul_of_pos_right, le_of_mul-le-mul_right, le-suc, suc-mul, add-mul, div-mul-le_self, div-add-mod', mod-lt}
use native.Mathlib.Omega.{arith}
use native.Mathlib.Decide.{dec_le, dec_lt}
use mathlib.Core.Bool.{Bool, true, false, not, ◌&&◌, ◌||◌, cond, true≢false}
use lib.Dec.{T, ltb, eqb, lt→ltb, lit<, lit≤}
use lib.Pow.{pow_pos}
use lib.Ieee.{Float, nan, inf, fin, Format, binary64, prec, emax, low, up, down, odd, units, round, lt, le}
use lib.Ieee.Fits.{round_is, down_pos}
use lib.Ieee.Exact.{HasValue, round_exact, odd_sign}
use lib.Ieee.Order.{transfer, round_mono}
use lib.Ieee.Scale.{round_val, round_under, finite, grid}
use lib.Ieee.Back.{round_whole}
use borrow.Author.Tests.{le-ltb, ne_eqb}

pub lt_or_eq : (a b : ℕ) → T (ltb a b || (eqb a b && true)) → a ≤ b
lt_or_eq a b t = elim (dec_le a b) [ yes h ↦ h | no h ↦ absurd (rw (le-ltb a b (omega arith), ne_eqb a b (λ e. omega arith)) at t) ]

pub values_of_le : (x y : Float) (a c b d : ℕ) → HasValue x false a c → HasValue y false b d → T (le x y) → a * d ≤ b * c
unfolding le
values_of_le nan y a c b d p q h = elim p [ ]
values_of_le (inf _) y a c b d p q h = elim p [ ]
values_of_le (fin false m e) nan a c b d p q h = elim q [ ]
values_of_le (fin false m e) (inf _) a c b d p q h = elim q [ ]
values_of_le (fin true m e) y a c b d p q h = absurd (true≢false p.0)
values_of_le (fin false m e) (fin true n g) a c b d p q h = absurd (true≢false q.0)
values_of_le (fin false m e) (fin false n g) a c b d p q h =
    transfer a b c d (m * up e) (n * up g) (down e) (down g) (down_pos e) (down_pos g) (sym p.1) (sym q.1) (lt_or_eq (m * up e * down g) (n * up g * down e) h)

transfer_lt : (x y de dd a b c c' : ℕ) → 0 < de → 0 < dd → x * c ≡ a * de → y * c' ≡ b * dd → a * c' < b * c → x * dd < y * de
transfer_lt x y de dd a b c c' D D' p q h =
    elim (dec_lt (x * dd) (y * de)) [
      | yes l ↦ l
      | no g ↦ absurd (lt_irrefl (a * c') (lt_of_lt_of_le h (transfer b a c' c y x dd de D' D (sym q) (sym p) (omega arith))))
    ]

pub lt_of_values : (x y : Float) (a c b d : ℕ) → HasValue x false a c → HasValue y false b d → a * d < b * c → T (lt x y)
unfolding lt
lt_of_values nan y a c b d p q h = elim p [ ]
lt_of_values (inf _) y a c b d p q h = elim p [ ]
lt_of_values (fin false m e) nan a c b d p q h = elim q [ ]
lt_of_values (fin false m e) (inf _) a c b d p q h = elim q [ ]
lt_of_values (fin true m e) y a c b d p q h = absurd (true≢false p.0)
lt_of_values (fin false m e) (fin true n g) a c b d p q h = absurd (true≢false q.0)
lt_of_values (fin false m e) (fin false n g) a c b d p q h =
    lt→ltb (m * up e * down g) (n * up g * down e) (transfer_lt (m * up e) (n * up g) (down e) (down g) a b c d (down_pos e) (down_pos g) p.1 q.1 h)

-- a fraction up to 2 ^ 53 rounds to a finite value
abbrev pub bare : Float → Bool
bare nan = false
bare (inf s) = not s
bare (fin s m e) = not s

bare_value : (x : Float) (a c : ℕ) → HasValue x false a c → T (bare x)
bare_value nan a c h = elim h [ ]
bare_value (inf _) a c h = elim h [ ]
bare_value (fin true m e) a c h = absurd (true≢false h.0)
bare_value (fin false m e) a c h = tt

units_bare : (f : Format) (q k : ℕ) → T (bare (units f false q k))
unfolding units
units_bare f q k = go (ltb (q * 2 ^ k) (2 ^ (low f + suc (emax f))))
  where
    go : (b : Bool) → T (bare (cond b (odd (suc (prec f)) false q k (low f)) (inf false)))
    go true = bare_value (odd (suc (prec f)) false q k (low f)) (q * 2 ^ k) (2 ^ low f) (odd_sign (suc (prec f)) false q k (low f))
    go false = tt

pub round_bare : (f : Format) (a b : ℕ) → T (bare (round f false a b))
round_bare f a b = subst (λ (z : Float). T (bare z)) (sym (round_is f false a b)) (units_bare f _ _)

under_finite : (x y : Float) (a c : ℕ) → T (bare x) → HasValue y false a c → T (le x y) → T (finite x)
unfolding le
under_finite (inf false) nan a c p q h = elim q [ ]
under_finite (inf false) (inf _) a c p q h = elim q [ ]
under_finite nan y a c p q h = absurd p
under_finite (inf true) y a c p q h = absurd p
under_finite (inf false) (fin t n d) a c p q h = absurd h
under_finite (fin s m e) y a c p q h = tt

pub round_finite : (a b n : ℕ) → 0 < b → n ≤ 2 ^ 53 → a ≤ n * b → T (finite (round binary64 false a b))
round_finite a b n B N h =
    under_finite (round binary64 false a b) (round binary64 false n 1) n 1 (round_bare binary64 a b) (round_whole binary64 false n N)
    (round_mono binary64 a b n 1 B (lit< tt) (le_trans (le_of_eq (mul-one a)) h))

pub round_value : (a b n : ℕ) → 0 < b → n ≤ 2 ^ 53 → a ≤ n * b → HasValue (round binary64 false a b) false (grid binary64 a b) (2 ^ low binary64)
round_value a b n B N h = round_val binary64 a b (round_under binary64 a b (round_finite a b n B N h))

-- strictly between: a dyadic number k / 2 ^ 42 is a value of the format
dyadic : (k : ℕ) → k < 2 ^ 53 → HasValue (round binary64 false k (2 ^ 42)) false k (2 ^ 42)
dyadic k h =
    round_exact binary64 false k (2 ^ 42) k 1032 (pow_pos 42) h
    (lt_of_lt_of_le (mul-lt-mul_of_pos_right h (pow_pos 1032)) (lit≤ tt))
    (sym (mul_assoc k (2 ^ 1032) (2 ^ 42)))

-- with a / b < c / d and denominators up to 2 ^ 20, the first multiple of 2 ^ -42 above a / b, and the one after it, lie within
module _ (a b c d : ℕ) (B : 0 < b) (D : 0 < d) (hb : b ≤ 2 ^ 20) (hd : d ≤ 2 ^ 20) (h : a * d < c * b) where
  abbrev step : ℕ
  step = suc (a * 2 ^ 42 / b)

  above : a * 2 ^ 42 ≤ step * b
  above =
      let e : a * 2 ^ 42 / b * b + a * 2 ^ 42 % b ≡ a * 2 ^ 42 = div-add-mod' (a * 2 ^ 42) b in
      let l : a * 2 ^ 42 % b < b = mod-lt (a * 2 ^ 42) B in
      let m : step * b ≡ a * 2 ^ 42 / b * b + b = suc-mul (a * 2 ^ 42 / b) b in
      omega arith

  under : suc step * d ≤ c * 2 ^ 42
  under =
      let q = a * 2 ^ 42 / b in
      let e : q * b ≤ a * 2 ^ 42 = div-mul-le_self (a * 2 ^ 42) b in
      let s : suc step * d * b ≡ q * b * d + b * d * 2 = rw (suc-mul (suc q) d, suc-mul q d, add-mul, add-mul, mul_right_comm q d b) (rw (mul_comm d b) (omega arith)) in
      let t : q * b * d ≤ a * d * 2 ^ 42 = le_trans (mul-le-mul_right d e) (le_of_eq (mul_right_comm a (2 ^ 42) d)) in
      let u : b * d ≤ 2 ^ 20 * 2 ^ 20 = mul-le-mul hb hd in
      let v : c * 2 ^ 42 * b ≡ c * b * 2 ^ 42 = mul_right_comm c (2 ^ 42) b in
      le_of_mul-le-mul_right (omega arith) B

pub round_strict : (a b c d : ℕ) → 0 < b → 0 < d → b ≤ 2 ^ 20 → d ≤ 2 ^ 20 → c ≤ d → a * d < c * b → T (lt (round binary64 false a b) (round binary64 false c d))
round_strict a b c d B D hb hd cd h =
    let k = step a b c d B D hb hd h in
    let over : a * 2 ^ 42 ≤ k * b = above a b c d B D hb hd h in
    let less : suc k * d ≤ c * 2 ^ 42 = under a b c d B D hb hd h in
    let top : suc k ≤ 2 ^ 42 = le_of_mul-le-mul_right (le_trans less (le_trans (mul-le-mul_right (2 ^ 42) cd) (le_of_eq (mul_comm d (2 ^ 42))))) D in
    let a-le : a ≤ 1 * b = le_of_mul-le-mul_right (le_trans over (le_trans (mul-le-mul_right b (le_trans (le-suc k) top)) (le_of_eq (swap b)))) (pow_pos 42) in
    let K : HasValue (round binary64 false k (2 ^ 42)) false k (2 ^ 42) = dyadic k (omega arith) in
    let S : HasValue (round binary64 false (suc k) (2 ^ 42)) false (suc k) (2 ^ 42) = dyadic (suc k) (omega arith) in
    let X = round_value a b 1 B (lit≤ tt) a-le in
    let Y = round_value c d 1 D (lit≤ tt) (le_trans cd (le_of_eq (sym (one-mul d)))) in
    let lo : grid binary64 a b * 2 ^ 42 ≤ k * 2 ^ low binary64 =
    values_of_le (round binary64 false a b) (round binary64 false k (2 ^ 42)) (grid binary64 a b) (2 ^ low binary64) k (2 ^ 42) X K
    (round_mono binary64 a b k (2 ^ 42) B (pow_pos 42) over) in
    let hi : suc k * 2 ^ low binary64 ≤ grid binary64 c d * 2 ^ 42 =
    values_of_le (round binary64 false (suc k) (2 ^ 42)) (round binary64 false c d) (suc k) (2 ^ 42) (grid binary64 c d) (2 ^ low binary64) S Y
    (round_mono binary64 (suc k) (2 ^ 42) c d (pow_pos 42) D less) in
    lt_of_values (round binary64 false a b) (round binary64 false c d) (grid binary64 a b) (2 ^ low binary64) (grid binary64 c d) (2 ^ low binary64) X Y
    (mul-lt-mul_of_pos_right (ends (grid binary64 a b) (grid binary64 c d) k (2 ^ low binary64) (pow_pos (low binary64)) lo hi) (pow_pos (low binary64)))
  where
    swap : (b : ℕ) → 2 ^ 42 * b ≡ 1 * b * 2 ^ 42
    swap b = omega arith

    ends : (x y k P : ℕ) → 0 < P → x * 2 ^ 42 ≤ k * P → suc k * P ≤ y * 2 ^ 42 → x < y
    ends x y k P h p q = omega (arith, suc-mul k P)
