-- RULES 2: where a ray stands still in the far plane of an axis, the last voxel there holds it, and every voxel in which it has a part
-- is a last one. Said of one axis, so of each where there are several. Assumes nothing.
use Prim.Native.Nat.{ℕ, ◌+◌}
use mathlib.Core.Path.{◌≡◌, refl, ◌∙◌}
use mathlib.Core.Bool.{true, false}
use native.Mathlib.Omega.{arith}
use native.Mathlib.Decide.{ℕ_discrete}
use lib.Signed.{le_z, lt_z, ≤ℤ_refl}
use borrow.Author.Tests.{eq-eqb, ne_eqb}
use Rattle.axis.specs.Leg.{moving, slab, held}
use Rattle.axis.proofs.Flag.{is_true, off_or_on, and_right}
use Rattle.ray.specs.declared.Ray.{Ray}
use Rattle.ray.specs.declared.axes.Side.{Side}
use Rattle.ray.specs.Length.{leg, Volume, index, voxel}
use Rattle.ray.proofs.Tests.{all_of}
use Rattle.ray.proofs.Told.{lt_le}
use Rattle.ray.proofs.Planes.{Rise, rise_to}
use Rattle.ray.proofs.Listing.{Has}
use Rattle.ray.proofs.Indices.{index_below}
use Rattle.ray.proofs.Apart.{met_in}

module _ (v : Volume) (rise : Rise v) (r : Ray) (s : Side) (still : moving (leg r s) ≡ false) (far : (leg r s).p ≡ (v s).at (v s).n) where
  pub far_held : (i : ℕ) → i + 1 ≡ (v s).n → held (leg r s) (slab (v s) i (i + 1)) ≡ true
  far_held i e =
      rw (still, far, e, eq-eqb (v s).n (v s).n refl, rise_to v rise s i (v s).n (omega arith) (omega arith))
      (is_true _ (≤ℤ_refl ((v s).at (v s).n)).le)

  pub far_last : (m : ℕ) → Has v r m → index v m s + 1 ≡ (v s).n
  far_last m h =
      let i : ℕ = index v m s in
      elim (ℕ_discrete (i + 1) (v s).n) [
        | yes e ↦ e
        | no e ↦
            let below : le_z ((v s).at (i + 1)) ((v s).at (v s).n) ≡ true = rise_to v rise s (i + 1) (v s).n (omega (arith, index_below v m h.0 s)) (omega arith) in
            let out : lt_z ((v s).at (v s).n) ((v s).at (i + 1)) ≡ false = lt_le ((v s).at (v s).n) ((v s).at (i + 1)) ∙ rw below refl in
            let on = all_of (λ o. held (leg r o) (voxel v m o)) (met_in v rise r m h).held s in
            off_or_on (lt_z ((v s).at (v s).n) ((v s).at (i + 1))) (and_right (le_z ((v s).at i) ((v s).at (v s).n)) _ (rw (still, far, ne_eqb (i + 1) (v s).n e) at on)) out
      ]
