-- Demand 3, a ray cut at a point of whole coordinates: its list is its pieces' lists joined. Assumes nothing.
use Prim.Native.Nat.{ℕ, zero, suc, ◌+◌, ◌-◌, ◌*◌, ◌≤◌, ◌<◌, min}
use mathlib.Core.Path.{◌≡◌, sym, ap}
use mathlib.Core.Bool.{true}
use mathlib.Core.List.{List, Memᴰ}
use mathlib.Core.Logic.{◌⊎◌, inl, inr, ⊎_elim}
use native.Mathlib.Nat.{zero-mul, mul-pos, lt_of_lt_of_le}
use native.Mathlib.Omega.{arith}
use native.Mathlib.Decide.{dec_lt}
use Rattle.axis.specs.Leg.{moving}
use Rattle.axis.specs.declared.Limits.{Limits}
use Rattle.axis.specs.Codes.{first}
use Rattle.ray.specs.Axes.{Grid}
use Rattle.ray.specs.Axes.{End}
use Rattle.ray.specs.declared.Ray.{Ray}
use Rattle.ray.specs.declared.axes.Side.{Side}
use Rattle.ray.specs.Length.{leg, d_of, Volume, volume, count, voxel, stop, part_of, list_of, sum_of}
use Rattle.ray.specs.Codes.{end_rows}
use Rattle.ray.proofs.Through.{rises_back}
use Rattle.ray.proofs.Rising.{Rising, rising_as}
use Rattle.ray.proofs.Listing.{Listed, starts, list_sound, list_whole, list_listed, list_is}
use Rattle.ray.proofs.Capped.{part_voxel, d_pos, met}
use Rattle.ray.proofs.Planes.{Rise, grid_rise}
use Rattle.ray.proofs.Apart.{voxel_apart, starts_apart}
use Rattle.ray.proofs.CutBox.{Between, near, far, scaled_order, Piece, size_pos, PieceMet, piece_met, up_to, near_piece, far_piece, parts}
use Rattle.ray.proofs.Cut.{difference, Quotient, Mean, differences, voxel_cut, sum_cut, same_quotient, same_quotient_far}
use Rattle.ray.proofs.Ends.{moves_on}
use Rattle.ray.proofs.Seam.{joined, joined_cases, joined_all, joined_rising, Below}

some_piece : (p k pn c df pf e dn : ℕ) → 0 < p → 0 < k → p * k ≡ pn * c * df + pf * e * dn → (0 < pn) ⊎ (0 < pf)
some_piece p k (suc pn) c df pf e dn hp hk h = inl (omega arith)
some_piece p k zero c df (suc pf) e dn hp hk h = inr (omega arith)
some_piece p k zero c df zero e dn hp hk h =
    absurd (omega (arith, mul-pos {m = p} {n = k} hp hk, ap (λ (x : ℕ). x * df) (zero-mul c), zero-mul df, ap (λ (x : ℕ). x * dn) (zero-mul e), zero-mul dn))

-- a voxel that is not in the list has part 0
abbrev pub Absent : Volume → Ray → Type 0
Absent v r = (w : ℕ) → w < count v → (Memᴰ w (list_of v r) → ⊥) → part_of v r w ≡ 0

absent : (v : Volume) (r : Ray) → Absent v r
absent v r w h out = elim (dec_lt 0 (part_of v r w)) [ yes p ↦ absurd (out (list_whole v r w h p)) | no p ↦ omega arith ]

-- ---- one piece

module _ (v : Volume) {of : ℕ → ℕ} {r t : Ray} (piece : Piece of r t) (o : Side) (moves : moving (leg r o) ≡ true) where
  met_in : (w : ℕ) → Memᴰ w (list_of v t) → (w < count v) × PieceMet piece (voxel v w)
  met_in w h = let s = list_sound v t w h in (s.0, piece_met piece (voxel v w) o moves (rw (part_voxel v t w) at s.1))

  piece_rising : Rise v → Rising (starts v r) (list_of v t)
  piece_rising rise = rising_as (starts v t) (starts v r) (list_of v t)
      (λ a b ma mb l. rises_back piece.rises (starts v r a) (starts v r b)
      (scaled_order _ _ _ _ _ _ (size_pos piece o moves) (met_in a ma).1.at (met_in b mb).1.at l))
      (list_listed v t (starts_apart v rise t)).rising

-- ---- both

module _ (v : Volume) (rise : Rise v) {r : Ray} {m : End} (between : Between r m) (o : Side) (moves : moving (leg r o) ≡ true) where
  abbrev in_near : (w : ℕ) → Memᴰ w (list_of v (near r m)) → (w < count v) × PieceMet (near_piece between o moves) (voxel v w)
  in_near = met_in v (near_piece between o moves) o moves

  abbrev in_far : (w : ℕ) → Memᴰ w (list_of v (far r m)) → (w < count v) × PieceMet (far_piece between o moves) (voxel v w)
  in_far = met_in v (far_piece between o moves) o moves

  below : Below (starts v r) (list_of v (near r m)) (list_of v (far r m))
  below u w mu mw h =
      let (lu, nu) = in_near u mu in
      let (lw, fw) = in_far w mw in
      ⊎_elim
      (λ l. lt_of_lt_of_le (met r (voxel v u) nu.some).some l)
      (λ l. absurd (clash (starts v r u) (stop r (voxel v u)) (starts v r w) (stop r (voxel v w)) (up_to between o moves) nu.ahead fw.ahead l))
      (voxel_apart v rise r u w (lu, rw (part_voxel v r u) nu.some) (lw, rw (part_voxel v r w) fw.some) h)
    where
      clash : (a a' b b' c : ℕ) → min c a < min c a' → b - c < b' - c → b' ≤ a → ⊥
      clash a a' b b' c h k l = omega arith

  either : (w : ℕ) → 0 < part_of v r w → (0 < part_of v (near r m) w) ⊎ (0 < part_of v (far r m) w)
  either w h =
      rw (part_voxel v (near r m) w, part_voxel v (far r m) w)
      (some_piece _ _ _ _ (d_of (far r m)) _ _ (d_of (near r m)) (rw (part_voxel v r w) at h) (mul-pos (d_pos (near r m)) (d_pos (far r m))) (parts between o moves (voxel v w)))

  listed : Listed (starts v r) (part_of v r) (count v) (joined (list_of v (near r m)) (list_of v (far r m)))
  listed = record {
    sound = λ w h. ⊎_elim
        (λ k. ((in_near w k).0, rw (part_voxel v r w) (in_near w k).1.some))
        (λ k. ((in_far w k).0, rw (part_voxel v r w) (in_far w k).1.some))
        (joined_cases (list_of v (far r m)) w (list_of v (near r m)) h);
    whole = λ w i h. joined_all (list_of v (far r m)) w (list_of v (near r m))
        (⊎_elim (λ k. inl (list_whole v (near r m) w i k)) (λ k. inr (list_whole v (far r m) w i k)) (either w h));
    rising = joined_rising (starts v r) _ _ (piece_rising v (near_piece between o moves) o moves rise) (piece_rising v (far_piece between o moves) o moves rise) below;
  }

  -- The voxels from P to Q are those from P to M followed by those from M to Q, the two at the seam becoming one where they are the
  -- same voxel.
  pub list_cut : list_of v r ≡ joined (list_of v (near r m)) (list_of v (far r m))
  list_cut = sym (list_is v r (starts_apart v rise r) (joined (list_of v (near r m)) (list_of v (far r m))) listed)

-- All of it. PM/PQ and MQ/PQ are the quotients of the coordinate differences, the same on every moving axis, and make up 1. Weighted
-- by them the pieces' parts in a voxel, each over the piece's own D, make up the ray's part over D; a piece that does not list the
-- voxel has part 0 in it. The weighted sum over D likewise.
pub record Cuts (v : Volume) (r : Ray) (m : End) : Type 0 where
  pub voxels : list_of v r ≡ joined (list_of v (near r m)) (list_of v (far r m))
  pub differences : (s : Side) → moving (leg r s) ≡ true → difference (near r m) s + difference (far r m) s ≡ difference r s
  pub quotient : Quotient r (near r m)
  pub quotient_far : Quotient r (far r m)
  pub part : (s : Side) → moving (leg r s) ≡ true → (w : ℕ) → Mean r m s (λ t. part_of v t w)
  pub near_absent : Absent v (near r m)
  pub far_absent : Absent v (far r m)
  pub sum : (s : Side) → moving (leg r s) ≡ true → (densities : List ℕ) → Mean r m s (λ t. sum_of v t densities)

pub cuts : (v : Volume) → Rise v → {r : Ray} {m : End} → Between r m → (o : Side) → moving (leg r o) ≡ true → Cuts v r m
cuts v rise {r} {m} between o moves = record {
  voxels = list_cut v rise between o moves;
  differences = differences between;
  quotient = same_quotient between;
  quotient_far = same_quotient_far between;
  part = λ s h. voxel_cut between s h v;
  near_absent = absent v (near r m);
  far_absent = absent v (far r m);
  sum = λ s h. sum_cut between s h v;
}

-- for every grid and every ray whose ends are accepted; so are then the ends of its pieces (`ends_near`, `ends_far`)
pub grid_cuts : (lim : Limits) (g : Grid) (r : Ray) (m : End) → first (end_rows lim r) ≡ 0 → Between r m → Cuts (volume g) r m
grid_cuts lim g r m accepted between = let o = moves_on lim r accepted in cuts (volume g) (grid_rise g) between o.0 o.1
