-- Voxels that a ray meets follow one another: it leaves the one before it enters the other, or as it does. Of a volume it is only
-- used that its planes do not fall. Assumes nothing.
use Prim.Native.Nat.{ℕ, ◌+◌, ◌≤◌, ◌<◌}
use mathlib.Core.Path.{◌≡◌, sym, ap}
use mathlib.Core.Bool.{true, false, ◌&&◌}
use mathlib.Core.Logic.{◌⊎◌, inl, inr, ⊎_elim}
use native.Mathlib.Nat.{min-le_left, min-le_right, le-max_left, le-max_right, le_trans, le_of_lt, le_of_eq, lt_of_lt_of_le, lt_irrefl}
use native.Mathlib.Omega.{arith}
use native.Mathlib.Decide.{dec_lt, ℕ_discrete}
use lib.IntN.{ℤ}
use lib.Signed.{le_z, lt_z}
use borrow.Author.Tests.{ne_eqb}
use Rattle.axis.specs.Leg.{moving, run, Slab, held}
use Rattle.axis.proofs.Flag.{and_left, and_right}
use Rattle.ray.specs.declared.Ray.{Ray}
use Rattle.ray.specs.declared.axes.Side.{Side}
use Rattle.ray.specs.declared.axes.Side.TheVariants.{X, Y, Z}
use Rattle.ray.specs.Length.{leg, d_of, rest, Volume, count, index, voxel, start, stop, part_of}
use Rattle.ray.proofs.Through.{cap_rises}
use Rattle.ray.proofs.Tests.{tested, all_of}
use Rattle.ray.proofs.Told.{le_shift, lt_shift, level, natural_rises, natural_falls}
use Rattle.ray.proofs.Planes.{Rise, rise_to}
use Rattle.ray.proofs.Listing.{Apart, Has, starts}
use Rattle.ray.proofs.Indices.{index_below, index_same}
use Rattle.ray.proofs.Capped.{on, enter, leave, begin, begin_sides, stop_sides, part_voxel, Met, met}

-- ---- one side

module _ (r : Ray) (s : Side) where
  on_rises : (c c' : ℤ) → lt_z (leg r s).p (leg r s).q ≡ true → le_z c c' ≡ true → on r s c ≤ on r s c'
  unfolding on
  on_rises c c' u h = cap_rises (d_of r) (rest r s) (run (leg r s) c) (run (leg r s) c') (rw u (natural_rises c c' (leg r s).p h))

  on_falls : (c c' : ℤ) → lt_z (leg r s).p (leg r s).q ≡ false → le_z c c' ≡ true → on r s c' ≤ on r s c
  unfolding on
  on_falls c c' u h = cap_rises (d_of r) (rest r s) (run (leg r s) c') (run (leg r s) c) (rw u (natural_falls c c' (leg r s).p h))

  -- of two slabs, t below t' and not closed, one is left before the other is entered
  module _ (t t' : Slab) (lower : t.closed ≡ false) (h : le_z t.lo t.hi ≡ true) (gap : le_z t.hi t'.lo ≡ true) (h' : le_z t'.lo t'.hi ≡ true) where
    not_both : (p : ℤ) → (le_z t.lo p && lt_z p t.hi) ≡ true → le_z t'.lo p ≡ true → ⊥
    not_both p a b = level p t.hi t'.lo (λ k hp hi lo. omega (
      arith,
      lt_shift k p t.hi hp hi (and_right (le_z t.lo p) (lt_z p t.hi) a),
      le_shift k t.hi t'.lo hi lo gap,
      le_shift k t'.lo p lo hp b,
    ))

    apart_side : held (leg r s) t ≡ true → held (leg r s) t' ≡ true → (leave r s t ≤ enter r s t') ⊎ (leave r s t' ≤ enter r s t)
    unfolding enter leave
    apart_side a b = elim (tested (moving (leg r s))) [
      | inr m ↦ absurd (not_both (leg r s).p (rw (m, lower) at a) (and_left (le_z t'.lo (leg r s).p) _ (rw m at b)))
      | inl m ↦ elim (tested (lt_z (leg r s).p (leg r s).q)) [
        | inl u ↦ rw m (inl (omega (arith, on_rises t.lo t.hi u h, on_rises t.hi t'.lo u gap, on_rises t'.lo t'.hi u h')))
        | inr u ↦ rw m (inr (omega (arith, on_falls t.lo t.hi u h, on_falls t.hi t'.lo u gap, on_falls t'.lo t'.hi u h')))
      ]
    ]

-- ---- boxes and voxels

-- of two voxels, the ray leaves the one before it enters the other, or as it does
abbrev OneFirst : Volume → Ray → ℕ → ℕ → Type 0
OneFirst v r m w = (stop r (voxel v m) ≤ start r (voxel v w)) ⊎ (stop r (voxel v w) ≤ start r (voxel v m))

clash : (a b c : ℕ) → a < b → b ≤ c → a ≡ c → ⊥
clash a b c h k e = omega arith

module _ (r : Ray) (b : Side → Slab) where
  stop_side : (s : Side) → stop r b ≤ leave r s (b s)
  stop_side X = rw (stop_sides r b) (min-le_left (leave r X (b X)) _)
  stop_side Y = rw (stop_sides r b) (le_trans (min-le_right (leave r X (b X)) _) (min-le_left (leave r Y (b Y)) _))
  stop_side Z = rw (stop_sides r b) (le_trans (min-le_right (leave r X (b X)) _) (min-le_right (leave r Y (b Y)) _))

  begin_side : (s : Side) → enter r s (b s) ≤ begin r b
  begin_side X = rw (begin_sides r b) (le-max_left (enter r X (b X)) _)
  begin_side Y = rw (begin_sides r b) (le_trans (le-max_left (enter r Y (b Y)) _) (le-max_right (enter r X (b X)) _))
  begin_side Z = rw (begin_sides r b) (le_trans (le-max_right (enter r Y (b Y)) _) (le-max_right (enter r X (b X)) _))

module _ (v : Volume) (rise : Rise v) (r : Ray) where
  pub met_in : (m : ℕ) → Has v r m → Met r (voxel v m)
  met_in m h = met r (voxel v m) (rw (part_voxel v r m) at h.1)

  -- m below w on a side
  below_side : (m w : ℕ) → Has v r m → Has v r w → (s : Side) → index v m s < index v w s → OneFirst v r m w
  below_side m w hm hw s h =
      let i : index v w s < (v s).n = index_below v w hw.0 s in
      let mm = met_in m hm in
      let mw = met_in w hw in
      ⊎_elim
      (λ l. inl (le_trans (stop_side r (voxel v m) s) (le_trans l (rw mw.begins at (begin_side r (voxel v w) s)))))
      (λ l. inr (le_trans (stop_side r (voxel v w) s) (le_trans l (rw mm.begins at (begin_side r (voxel v m) s)))))
      (apart_side r s (voxel v m s) (voxel v w s) (ne_eqb (index v m s + 1) (v s).n (λ e. omega arith))
      (rise_to v rise s (index v m s) (index v m s + 1) (omega arith) (omega arith))
      (rise_to v rise s (index v m s + 1) (index v w s) (omega arith) (omega arith))
      (rise_to v rise s (index v w s) (index v w s + 1) (omega arith) (omega arith))
      (all_of (λ o. held (leg r o) (voxel v m o)) mm.held s)
      (all_of (λ o. held (leg r o) (voxel v w o)) mw.held s))

  module _ (m w : ℕ) (hm : Has v r m) (hw : Has v r w) where
    side_apart : (s : Side) → (index v m s ≡ index v w s → ⊥) → OneFirst v r m w
    side_apart s h = elim (dec_lt (index v m s) (index v w s)) [
      | yes l ↦ below_side m w hm hw s l
      | no l ↦ ⊎_elim (λ a. inr a) (λ a. inl a) (below_side w m hw hm s (omega arith))
    ]

    -- two voxels with a part: one follows the other
    pub voxel_apart : (m ≡ w → ⊥) → OneFirst v r m w
    voxel_apart h = elim (ℕ_discrete (index v m X) (index v w X)) [
      | no k ↦ side_apart X k
      | yes x ↦ elim (ℕ_discrete (index v m Y) (index v w Y)) [
        | no k ↦ side_apart Y k
        | yes y ↦ elim (ℕ_discrete (index v m Z) (index v w Z)) [
          | no k ↦ side_apart Z k
          | yes z ↦ absurd (h (index_same v m w (λ s. elim s as (λ o. index v m o ≡ index v w o) [ X ↦ x | Y ↦ y | Z ↦ z ])))
        ]
      ]
    ]

    -- the one that starts first is left first
    pub follows : start r (voxel v m) < start r (voxel v w) → stop r (voxel v m) ≤ start r (voxel v w)
    follows h =
        ⊎_elim (λ l. l) (λ l. absurd (lt_irrefl _ (lt_of_lt_of_le h (le_trans (le_of_lt (met_in w hw).some) l)))) (voxel_apart (λ e. lt_irrefl _ (lt_of_lt_of_le h (le_of_eq (ap (starts v r) (sym e))))))

  pub starts_apart : Apart (starts v r) (part_of v r) (count v)
  starts_apart m w hm hw pm pw e = elim (ℕ_discrete m w) [
    | yes k ↦ k
    | no k ↦ absurd (⊎_elim
        (λ l. clash (starts v r m) (stop r (voxel v m)) (starts v r w) (met_in m (hm, pm)).some l e)
        (λ l. clash (starts v r w) (stop r (voxel v w)) (starts v r m) (met_in w (hw, pw)).some l (sym e))
        (voxel_apart m w (hm, pm) (hw, pw) k))
  ]
