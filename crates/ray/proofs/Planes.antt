-- Planes that do not fall: all that is used of a volume. Assumes nothing.
use Prim.Native.Nat.{ℕ, zero, suc, ◌+◌, ◌-◌, ◌*◌, ◌≤◌, ◌<◌}
use mathlib.Core.Path.{◌≡◌, subst}
use mathlib.Core.Bool.{true}
use native.Mathlib.Nat.{mul-le-mul_right, add-zero}
use native.Mathlib.Omega.{arith}
use lib.Signed.{le_z, ≤ℤ_refl}
use Rattle.axis.specs.declared.Axis.{Axis}
use Rattle.axis.specs.Leg.{planes}
use Rattle.axis.proofs.Flag.{is_true}
use Rattle.ray.specs.Axes.{Grid}
use Rattle.ray.specs.declared.axes.Side.{Side}
use Rattle.ray.specs.declared.axes.Side.TheVariants.{X, Y, Z}
use Rattle.ray.specs.Length.{Volume, volume}
use Rattle.ray.proofs.Told.{le_through, le_add}

abbrev pub Rise : Volume → Type 0
Rise v = (s : Side) (i : ℕ) → i < (v s).n → le_z ((v s).at i) ((v s).at (i + 1)) ≡ true

-- those of every grid do
pub grid_rise : (g : Grid) → Rise (volume g)
grid_rise g s i h = elim s as (λ o. le_z ((volume g o).at i) ((volume g o).at (i + 1)) ≡ true) [ X ↦ on_axis g.x | Y ↦ on_axis g.y | Z ↦ on_axis g.z ]
  where
    on_axis : (a : Axis) → le_z ((planes a).at i) ((planes a).at (i + 1)) ≡ true
    on_axis a = le_add a.b (i * a.d) ((i + 1) * a.d) (mul-le-mul_right a.d (omega arith))

module _ (v : Volume) (rise : Rise v) (s : Side) where
  rise_by : (i k : ℕ) → i + k ≤ (v s).n → le_z ((v s).at i) ((v s).at (i + k)) ≡ true
  rise_by i zero h = rw (add-zero i) (is_true _ (≤ℤ_refl ((v s).at i)).le)
  rise_by i (suc k) h =
      le_through ((v s).at i) ((v s).at (i + k)) ((v s).at (i + suc k)) (rise_by i k (omega arith))
      (subst (λ (j : ℕ). le_z ((v s).at (i + k)) ((v s).at j) ≡ true) (omega arith) (rise s (i + k) (omega arith)))

  pub rise_to : (i j : ℕ) → i ≤ j → j ≤ (v s).n → le_z ((v s).at i) ((v s).at j) ≡ true
  rise_to i j h l = subst (λ (t : ℕ). le_z ((v s).at i) ((v s).at t) ≡ true) (omega arith) (rise_by i (j - i) (omega arith))
