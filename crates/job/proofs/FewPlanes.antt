-- The lists of 600 places suffice for every grid that the job takes. Assumes nothing.
use Prim.Native.Nat.{ℕ, ◌+◌, ◌*◌, ◌≤◌, ◌<◌}
use mathlib.Core.Path.{◌≡◌}
use native.Mathlib.Nat.{mul-le-mul, mul-le-mul_left, mul-le-mul_right, mul_assoc, mul_comm, mul_left_comm}
use native.Mathlib.Decide.{dec_le}
use native.Mathlib.Omega.{arith}
use Rattle.load.proofs.Taking.{Sides}

-- two sides of more than 45 voxels leave the third with one
two_long : (a b c : ℕ) → 46 ≤ a → 46 ≤ b → 0 < c → a * b * c ≤ 4096 → a + b + c ≤ 602
two_long a b c ha hb hc h =
    let area : 2116 ≤ a * b = mul-le-mul {n₁ = 46} {m₁ = 46} ha hb in
    omega (arith, mul-le-mul_right {m = 2116} {n = a * b} c area, mul-le-mul_left {m = 1} {n = c} (a * b) hc, mul-le-mul_right {m = 46} {n = a} b ha, mul-le-mul_left {m = 46} {n = b} a hb)

-- Of three sides with at most 4096 voxels two are at most 45 long, or one is 1 long.
pub few_planes : {nx ny nz : ℕ} → Sides nx ny nz → nx * ny * nz ≤ 4096 → nx + ny + nz ≤ 602
few_planes {nx} {ny} {nz} s h = elim (dec_le nx 45) [
  | yes i ↦ elim (dec_le ny 45) [
    | yes j ↦ omega arith
    | no j ↦ elim (dec_le nz 45) [
      | yes k ↦ omega arith
      | no k ↦ let e : nx * ny * nz ≡ ny * nz * nx = simp (mul_assoc, mul_comm, mul_left_comm) in omega (arith, two_long ny nz nx (omega arith) (omega arith) s.x.0 (omega arith))
    ]
  ]
  | no i ↦ elim (dec_le ny 45) [
    | yes j ↦ elim (dec_le nz 45) [
      | yes k ↦ omega arith
      | no k ↦ let e : nx * ny * nz ≡ nx * nz * ny = simp (mul_assoc, mul_comm, mul_left_comm) in omega (arith, two_long nx nz ny (omega arith) (omega arith) s.y.0 (omega arith))
    ]
    | no j ↦ two_long nx ny nz (omega arith) (omega arith) s.z.0 h
  ]
]
