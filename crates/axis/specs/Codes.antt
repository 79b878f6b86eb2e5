-- RULES 1 and the rows on axes of RULES 6. Definitions only. Assumes nothing.
use Rattle.std.specs.Prelude.{ℕ, Bool, ◌&&◌, ◌||◌, not, cond, List, [], ◌∷◌, ◌++◌, map, ℤ, pos, neg_ℤ, ltb, eqb, Result, Ok, Err}
use Rattle.std.specs.Int.Signed.{le_z}
use Rattle.axis.specs.declared.Axis.{Axis}
use Rattle.axis.specs.declared.Limits.{Limits}
use Rattle.axis.specs.declared.refusal.Refusal.{Refusal}
use Rattle.axis.specs.Refusal.{number}
use Rattle.axis.specs.Leg.{planes}

-- RULES 1: the limits of the device whose unit is a tenth of a millimetre
abbrev pub tenths : Limits
tenths = record { n = 512; d = 4096; coord = 16384 }

abbrev pub inside : Limits → ℤ → Bool
inside m c = le_z (neg_ℤ (pos m.coord)) c && le_z c (pos m.coord)

-- a row of the table: its code, and whether it applies
pub record Row : Type 0 where
  pub code : ℕ
  pub applies : Bool

abbrev pub row : ℕ → Bool → Row
row c t = record { code = c; applies = t }

-- RULES 6: the code of the first row that applies, 0 (accepted) where none does
abbrev pub first : List Row → ℕ
first [] = 0
first (r ∷ rs) = cond r.applies r.code (first rs)

-- one code asked of each in turn, a row for each
abbrev pub each : {A : Type 0} → ℕ → (A → Bool) → List A → List Row
each c test xs = map (λ x. row c (test x)) xs

abbrev pub beyond : (most x : ℕ) → Bool
beyond most x = eqb x 0 || ltb most x

abbrev pub planes_out : Limits → Axis → Bool
planes_out m a = not (inside m a.b) || not (inside m ((planes a).at a.n))

-- RULES 6: 1, an n of 0 or too large; 2, a d of 0 or too large; 3, a first or far plane too far out. Each is asked of all axes
abbrev pub axis_rows : Limits → List Axis → List Row
axis_rows m axes = each 1 (λ a. beyond m.n a.n) axes ++ each 2 (λ a. beyond m.d a.d) axes ++ each 3 (planes_out m) axes

abbrev pub axis_code : Limits → Axis → ℕ
axis_code m a = first (axis_rows m (a ∷ []))

-- RULES 6, the answer in numbers: an accepted axis is 0 and its n, d, b, a refused one is its code and zeros
abbrev pub told : Result Axis Refusal → ℕ × Axis
told (Ok a) = (0, a)
told (Err r) = (number r, record { n = 0; d = 0; b = pos 0 })
