-- A coordinate of 32 bits, and a limit, read in 64. Assumes nothing.
use Prim.Native.Nat.{ℕ, zero, suc, ◌^◌, ◌<◌}
use mathlib.Core.Path.{◌≡◌, ◌∙◌, ap}
use native.Mathlib.Omega.{arith}
use lib.IntN.{ℤ, pos, neg_ℤ, ◌-ℤ◌, +ℤ_idl}
use mir.Syntax.{w32, w64}
use mir.Val.{SFits, to_z, of_z}
use mir.ValLaws.{to_z-of_z, to_z_pos}

pub widen : {z : ℤ} → SFits w32 z → SFits w64 z
widen f = record { sfits = omega (arith, f.sfits) }

-- c as i64
pub wide_is : (z : ℤ) → SFits w32 z → to_z w64 (of_z w64 (to_z w32 (of_z w32 z))) ≡ z
wide_is z f = ap (λ (y : ℤ). to_z w64 (of_z w64 y)) (to_z-of_z w32 z f) ∙ to_z-of_z w64 z (widen f)

-- a limit as i64, and the same below 0
module _ (k : ℕ) (h : k < 2 ^ 32) where
  pub limit_is : to_z w64 k ≡ pos k
  limit_is = to_z_pos w64 k (omega arith)

  low_is : pos 0 -ℤ to_z w64 k ≡ neg_ℤ (pos k)
  low_is = ap (λ (z : ℤ). pos 0 -ℤ z) limit_is ∙ +ℤ_idl (neg_ℤ (pos k))

  pub low_fits : SFits w64 (pos 0 -ℤ to_z w64 k)
  low_fits = rw low_is (fits k h)
    where
      fits : (n : ℕ) → n < 2 ^ 32 → SFits w64 (neg_ℤ (pos n))
      fits zero g = record { sfits = omega arith }
      fits (suc n) g = record { sfits = omega arith }

  pub lowest_is : to_z w64 (of_z w64 (pos 0 -ℤ to_z w64 k)) ≡ neg_ℤ (pos k)
  lowest_is = to_z-of_z w64 (pos 0 -ℤ to_z w64 k) low_fits ∙ low_is
