-- Demand 2, for every grid and every ray, accepted or not: which voxels the list holds, once each and in ray order, with its length
-- beside each; and the weighted sum. Assumes nothing.
use Prim.Native.Nat.{ℕ, zero, suc, ◌*◌, ◌≤◌, ◌<◌}
use mathlib.Core.Path.{◌≡◌, refl, sym, ap}
use mathlib.Core.List.Memᴰ
use mathlib.Core.List.{List, [], ◌∷◌, map, Memᴰ}
use native.Mathlib.Omega.{arith}
use native.Mathlib.Decide.{dec_lt}
use lib.ListN.{length, get_or, set, length-set}
use lib.Seq.{get_or-set_other}
use Rattle.ray.specs.Axes.{Grid}
use Rattle.ray.specs.declared.Ray.{Ray}
use Rattle.ray.specs.Length.{volume, count, d_of, voxel, start, stop, part_of, list_of, sum_of}
use Rattle.ray.proofs.Total.{sum_list}
use Rattle.ray.proofs.Rising.{Rising}
use Rattle.ray.proofs.Listing.{starts, list_sound, list_whole, list_listed}
use Rattle.ray.proofs.Weighted.{sum_list_lem, sum_outside}
use Rattle.ray.proofs.Planes.{grid_rise}
use Rattle.ray.proofs.Apart.{starts_apart, follows}
use Rattle.ray.proofs.Fraction.{Is}
use Rattle.ray.proofs.Formula.{length_in, voxel_length}
use Rattle.ray.proofs.Equation1.{equation1, equation1_is}
use Rattle.axis.specs.declared.Limits.{Limits}
use Rattle.tracing.specs.Answer.{lists, answer_of}

-- ---- lists
get_or_member : (xs : List ℕ) (i : ℕ) → i < length xs → Memᴰ (get_or xs i 0) xs
get_or_member [] i h = absurd (omega arith)
get_or_member (x ∷ xs) zero h = Memᴰ.head refl
get_or_member (x ∷ xs) (suc i) h = Memᴰ.tail (get_or_member xs i (omega arith))

rising_at : (f : ℕ → ℕ) (xs : List ℕ) → Rising f xs → (i j : ℕ) → i < j → j < length xs → f (get_or xs i 0) < f (get_or xs j 0)
rising_at f [] rise i j h k = absurd (omega arith)
rising_at f (x ∷ xs) rise i zero h k = absurd (omega arith)
rising_at f (x ∷ xs) rise zero (suc j) h k = rise.0 _ (get_or_member xs j (omega arith))
rising_at f (x ∷ xs) rise (suc i) (suc j) h k = rising_at f xs rise.1 i j (omega arith) (omega arith)

get_d_map : (f : ℕ → ℕ) (xs : List ℕ) (i : ℕ) → i < length xs → get_or (map f xs) i 0 ≡ f (get_or xs i 0)
get_d_map f [] i h = absurd (omega arith)
get_d_map f (x ∷ xs) zero h = refl
get_d_map f (x ∷ xs) (suc i) h = get_d_map f xs i (omega arith)

module _ (g : Grid) (r : Ray) where
  -- Listed are the voxels with a length above zero, and no others.
  pub listed : (w : ℕ) → Memᴰ w (list_of (volume g) r) → (w < count (volume g)) × (0 < part_of (volume g) r w)
  listed = list_sound (volume g) r

  pub all_listed : (w : ℕ) → w < count (volume g) → 0 < part_of (volume g) r w → Memᴰ w (list_of (volume g) r)
  all_listed = list_whole (volume g) r

  -- In ray order: each starts after every one ahead of it in the list.
  pub rising : Rising (λ w. start r (voxel (volume g) w)) (list_of (volume g) r)
  rising = (list_listed (volume g) r (starts_apart (volume g) (grid_rise g) r)).rising

  pub starts_rise : (i j : ℕ) → i < j → j < length (list_of (volume g) r)
      → start r (voxel (volume g) (get_or (list_of (volume g) r) i 0)) < start r (voxel (volume g) (get_or (list_of (volume g) r) j 0))
  starts_rise = rising_at (starts (volume g) r) (list_of (volume g) r) rising

  -- The ray has left a voxel of the list when it enters a later one, or leaves it as it does.
  pub one_by_one : (i j : ℕ) → i < j → j < length (list_of (volume g) r)
      → stop r (voxel (volume g) (get_or (list_of (volume g) r) i 0)) ≤ start r (voxel (volume g) (get_or (list_of (volume g) r) j 0))
  one_by_one i j h k =
      let at_i = listed (get_or (list_of (volume g) r) i 0) (get_or_member (list_of (volume g) r) i (omega arith)) in
      let at_j = listed (get_or (list_of (volume g) r) j 0) (get_or_member (list_of (volume g) r) j k) in
      follows (volume g) (grid_rise g) r _ _ at_i at_j (starts_rise i j h k)

  -- No voxel stands at two places.
  pub once : (i j : ℕ) → i < length (list_of (volume g) r) → j < length (list_of (volume g) r) → get_or (list_of (volume g) r) i 0 ≡ get_or (list_of (volume g) r) j 0 → i ≡ j
  once i j hi hj e =
      let same : starts (volume g) r (get_or (list_of (volume g) r) i 0) ≡ starts (volume g) r (get_or (list_of (volume g) r) j 0) = ap (starts (volume g) r) e in
      elim (dec_lt i j) [
        | yes h ↦ absurd (apart _ _ (starts_rise i j h hj) same)
        | no h ↦ elim (dec_lt j i) [ yes k ↦ absurd (apart _ _ (starts_rise j i k hi) (sym same)) | no k ↦ omega arith ]
      ]
    where
      apart : (a b : ℕ) → a < b → a ≡ b → ⊥
      apart a b h e = omega arith

  -- RULES 3: the part that stands beside a listed voxel, over D, is the length in that voxel.
  pub lengths : (i : ℕ) → i < length (list_of (volume g) r)
      → Is (d_of r) (length_in r (voxel (volume g) (get_or (list_of (volume g) r) i 0))) (get_or (map (part_of (volume g) r) (list_of (volume g) r)) i 0)
  lengths i h = rw (get_d_map (part_of (volume g) r) (list_of (volume g) r) i h) (voxel_length (volume g) r (get_or (list_of (volume g) r) i 0))

  -- RULES 3, sum: over D it is equation (1), in fractions over all voxels. It is the sum over the list too.
  pub sum_over_all : (densities : List ℕ) → Is (d_of r) (equation1 (volume g) r densities) (sum_of (volume g) r densities)
  sum_over_all = equation1_is (volume g) r

  pub sum_over_list : (densities : List ℕ) → sum_of (volume g) r densities ≡ sum_list (map (λ w. part_of (volume g) r w * get_or densities w 0) (list_of (volume g) r))
  sum_over_list = sum_list_lem (volume g) r

  -- RULES 5: a density outside the list has no say.
  module _ (densities : List ℕ) (w new : ℕ) (outside : Memᴰ w (list_of (volume g) r) → ⊥) where
    pub sum_altered : sum_of (volume g) r (set densities w new) ≡ sum_of (volume g) r densities
    sum_altered = sum_outside (volume g) r (set densities w new) densities (λ u h. get_or-set_other densities w u new 0 (λ e. outside (Memᴰ.cast (sym e) h)))

    pub answer_altered : (m : Limits) (vs ps : List ℕ) (filled : ℕ) → answer_of m g r (lists (set densities w new) vs ps filled) ≡ answer_of m g r (lists densities vs ps filled)
    unfolding answer_of
    answer_altered m vs ps filled = rw (length-set densities w new, sum_altered) refl
