-- A fraction of two numbers, and which of two fractions is the greater, by the products. Definitions only. Assumes nothing.
use Rattle.std.specs.Prelude.{ℕ, ◌*◌, ◌^◌, ◌≤◌, ◌<◌, Bool, cond, ltb}

pub record Ratio : Type 0 where
  pub num : ℕ
  pub den : ℕ

-- room for the differences of coordinates within limits up to 524288, and no division by 0
pub record Short (f : Ratio) : Type 0 where
  pub num_size : f.num ≤ 2 ^ 20
  pub den_size : f.den ≤ 2 ^ 20
  pub some : 0 < f.den

abbrev pub over : ℕ → ℕ → Ratio
over n d = record { num = n; den = d }

abbrev pub below : Ratio → Ratio → Bool
below a b = ltb (a.num * b.den) (b.num * a.den)

abbrev pub greater : Ratio → Ratio → Ratio
greater a b = cond (below a b) b a

abbrev pub lesser : Ratio → Ratio → Ratio
lesser a b = cond (below b a) b a
