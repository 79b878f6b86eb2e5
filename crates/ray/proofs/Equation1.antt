-- Equation (1) in fractions, over all voxels; and that the weighted sum over D is what it says (RULES 3).
-- Assumes nothing.
use Prim.Native.Nat.{ℕ, zero, suc, ◌*◌}
use mathlib.Core.List.{List}
use lib.ListN.{get_or}
use Rattle.ray.specs.declared.Ray.{Ray}
use Rattle.ray.specs.Length.{d_of, Volume, count, voxel, part_of, total, sum_of}
use Rattle.ray.proofs.Capped.{d_pos}
use Rattle.ray.proofs.Fraction.{Fraction, plus, times, whole, Is, none_is, plus_is, times_is}
use Rattle.ray.proofs.Formula.{length_in, voxel_length}

-- the sum over the numbers below n
unfoldable pub totalᶠ : (ℕ → Fraction) → ℕ → Fraction
totalᶠ f zero = whole 0
totalᶠ f (suc m) = plus (totalᶠ f m) (f m)

-- RULES 3, equation (1): length times density, added over all voxels
unfoldable pub equation1 : Volume → Ray → List ℕ → Fraction
equation1 v r densities = totalᶠ (λ m. times (length_in r (voxel v m)) (get_or densities m 0)) (count v)

total_is : (d : ℕ) (f : ℕ → Fraction) (g : ℕ → ℕ) → Is d (whole 0) 0 → ((m : ℕ) → Is d (f m) (g m)) → (n : ℕ) → Is d (totalᶠ f n) (total g n)
unfolding totalᶠ total
total_is d f g o h zero = o
total_is d f g o h (suc n) = plus_is (total_is d f g o h n) (h n)

-- The weighted sum over D is the sum of equation (1).
pub equation1_is : (v : Volume) (r : Ray) (densities : List ℕ) → Is (d_of r) (equation1 v r densities) (sum_of v r densities)
unfolding equation1 sum_of
equation1_is v r densities =
    total_is (d_of r) (λ m. times (length_in r (voxel v m)) (get_or densities m 0)) (λ m. part_of v r m * get_or densities m 0)
    (none_is (d_pos r))
    (λ m. times_is (voxel_length v r m) (get_or densities m 0))
    (count v)
