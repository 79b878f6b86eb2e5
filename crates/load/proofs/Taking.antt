-- What a grid that is taken may be relied on for. Assumes nothing.
use Prim.Native.Nat.{ℕ, ◌*◌, ◌≤◌, ◌<◌}
use mathlib.Core.List.{[], ◌∷◌}
use mathlib.Core.Path.{◌≡◌, refl, sym, ◌∙◌}
use lib.Dec.{ltb}
use native.Mathlib.Nat.{mul-le-mul, mul_assoc, mul_comm, mul_left_comm}
use native.Mathlib.Omega.{arith}
use borrow.Author.Tests.{ltb-false, lt-ltb}
use Rattle.std.specs.Prelude.{Result, Ok, Err}
use Rattle.axis.specs.declared.Limits.{Limits}
use Rattle.axis.specs.Codes.{Row, row, first}
use Rattle.axis.specs.declared.refusal.Refusal.{Refusal}
use Rattle.axis.specs.Refusal.{number}
use Rattle.axis.proofs.Table.{then, then_none, then_stop, joined, off}
use Rattle.axis.proofs.Once.{number_once}
use Rattle.ray.specs.Axes.{Grid}
use Rattle.ray.specs.declared.axes.Side.TheVariants.{X, Y, Z}
use Rattle.ray.specs.Length.{volume, count}
use Rattle.ray.specs.Codes.{grid_rows}
use Rattle.ray.proofs.Accepted.{axes_ok}
use Rattle.load.specs.Line.{grid_code}

pub record Sides (nx ny nz : ℕ) : Type 0 where
  pub x : (0 < nx) × (nx ≤ 512)
  pub y : (0 < ny) × (ny ≤ 512)
  pub z : (0 < nz) × (nz ≤ 512)

module _ (m : Limits) (g : Grid) where
  abbrev many : Row
  many = row 25 (ltb 4096 (count (volume g)))

  -- 25 stands behind 1, 2 and 3
  pub code_then : grid_code m g ≡ then (first (grid_rows m g)) (first (many ∷ []))
  code_then = joined (grid_rows m g) (many ∷ []) refl

  -- a grid is taken that no code refuses
  pub code_zero : grid_code m g ≡ 0 → (first (grid_rows m g) ≡ 0) × (count (volume g) ≤ 4096)
  code_zero e =
      let s = then_none (first (grid_rows m g)) (first (many ∷ [])) (sym code_then ∙ e) in
      (s.0, ltb-false 4096 (count (volume g)) (off (many ∷ []) refl s.1).0)

  pub sides : m.n ≤ 512 → first (grid_rows m g) ≡ 0 → Sides g.x.n g.y.n g.z.n
  sides h e =
      let ok = axes_ok m g e in
      record { x = ((ok X).some, omega (arith, (ok X).few)); y = ((ok Y).some, omega (arith, (ok Y).few)); z = ((ok Z).some, omega (arith, (ok Z).few)) }

-- as many densities as ny·nz lines of nx hold
pub all_lines : (nx ny nz : ℕ) → ny * nz * nx ≡ nx * ny * nz
all_lines nx ny nz = simp (mul_assoc, mul_comm, mul_left_comm)

-- products that fit 32 bits
module _ {nx ny nz : ℕ} (s : Sides nx ny nz) where
  pub rows_fit : nx * ny ≤ 262144
  rows_fit = mul-le-mul {n₂ = 512} {m₂ = 512} s.x.1 s.y.1

  pub layers_fit : ny * nz ≤ 262144
  layers_fit = mul-le-mul {n₂ = 512} {m₂ = 512} s.y.1 s.z.1

  pub voxels_fit : nx * ny * nz ≤ 134217728
  voxels_fit = mul-le-mul {n₂ = 262144} {m₂ = 512} rows_fit s.z.1

-- as many voxels as a grid has that no code of ray refuses
pub voxels_small : (m : Limits) (g : Grid) → m.n ≤ 512 → first (grid_rows m g) ≡ 0 → g.x.n * g.y.n * g.z.n ≤ 134217728
voxels_small m g h e = voxels_fit (sides m g h e)

-- a refusal is never 0
number_some : (r : Refusal) → number r ≡ 0 → ⊥
number_some r e = let z : ◌≡◌ {A = Result (Unit {0}) Refusal} (Err r) (Ok tt) = number_once e refl in cc

-- 25 where they are too many
pub code_many : (m : Limits) (g : Grid) → first (grid_rows m g) ≡ 0 → 4096 < g.x.n * g.y.n * g.z.n → 25 ≡ grid_code m g
code_many m g e h = sym (code_then m g ∙ rw (e, lt-ltb 4096 (count (volume g)) h) refl)

-- 1, 2 or 3 stand ahead of it
pub code_few : (m : Limits) (g : Grid) (r : Refusal) → number r ≡ first (grid_rows m g) → number r ≡ grid_code m g
code_few m g r e = e ∙ sym (code_then m g ∙ then_stop (first (grid_rows m g)) (first (row 25 (ltb 4096 (count (volume g))) ∷ [])) (λ z. number_some r (e ∙ z)))
