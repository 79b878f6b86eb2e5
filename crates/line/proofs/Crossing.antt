-- An axis' planes that the ray crosses between two ticks are those between the voxels of the first tick and of the last. Assumes nothing.
use Prim.Native.Nat.{ℕ, zero, suc, ◌+◌, ◌-◌, ◌≤◌, ◌<◌, min}
use mathlib.Core.Path.{◌≡◌, refl, sym, ap, ◌∙◌}
use mathlib.Core.Bool.{Bool, true, false, ◌&&◌, not, cond}
use native.Mathlib.Omega.{arith}
use native.Mathlib.Decide.{dec_le, dec_lt}
use native.Mathlib.Nat.{zero-mul}
use lib.Dec.{ltb}
use borrow.Author.Tests.{lt-ltb, le-ltb}
use Rattle.ray.specs.Length.{total}
use Rattle.ray.proofs.Total.{total_same, total_zero}
use Rattle.line.specs.declared.line.Line.{Line}
use Rattle.line.specs.Scene.{plane, Sized, Within}
use Rattle.line.specs.Reach.{cross_at, crossed_on}
use Rattle.ray.proofs.Way.{Way, up, down, still, Goes}
use Rattle.line.proofs.Units.{moves, stays, run_up, run_down}
use Rattle.line.proofs.Beyond.{up_key, down_key, up_rise, down_fall}
use Rattle.line.proofs.Stretch.{way_of, going, enter_voxel, leave_voxel, one_voxel}

-- ---- the numbers above lo and not above hi, counted
band : (lo hi n : ℕ) → total (λ i. cond (ltb lo i && not (ltb hi i)) 1 0) n ≡ min (hi + 1) n - (lo + 1)
unfolding total
band lo hi zero = omega arith
band lo hi (suc n) = elim (dec_lt lo n) [
  | yes h ↦ elim (dec_lt hi n) [
    | yes k ↦ rw (lt-ltb lo n h, lt-ltb hi n k) (omega (arith, band lo hi n))
    | no k ↦ rw (lt-ltb lo n h, le-ltb hi n (omega arith)) (omega (arith, band lo hi n))
  ]
  | no h ↦ rw (le-ltb lo n (omega arith)) (omega (arith, band lo hi n))
]

-- a count by any test that picks just these
counted : (test : ℕ → Bool) (lo hi n : ℕ) → hi < n → ((i : ℕ) → test i ≡ (ltb lo i && not (ltb hi i))) → total (λ i. cond (test i) 1 0) n ≡ hi - lo
counted test lo hi n h same =
    total_same (λ i. cond (test i) 1 0) (λ i. cond (ltb lo i && not (ltb hi i)) 1 0) n (λ i k. ap (λ (b : Bool). cond b 1 0) (same i))
    ∙ band lo hi n ∙ cut lo hi n h
  where
    cut : (lo hi n : ℕ) → hi < n → min (hi + 1) n - (lo + 1) ≡ hi - lo
    cut lo hi n h = omega arith

-- a key that rises, and one that falls: what lies above a value between two of its steps
above : (key : ℕ → ℕ) → ((m n : ℕ) → m ≤ n → key m ≤ key n) → (x i : ℕ) → key i ≤ x → x < key (i + 1) → (m : ℕ) → ltb x (key m) ≡ ltb i m
above key rise x i lo hi m = elim (dec_le m i) [
  | yes k ↦ rw (le-ltb x (key m) (omega (arith, rise m i k)), le-ltb i m k)
  | no k ↦ rw (lt-ltb x (key m) (omega (arith, rise (i + 1) m (omega arith))), lt-ltb i m (omega arith))
]

above_down : (key : ℕ → ℕ) → ((m n : ℕ) → m ≤ n → key n ≤ key m) → (x i : ℕ) → key (i + 1) ≤ x → x < key i → (m : ℕ) → ltb x (key m) ≡ not (ltb i m)
above_down key fall x i lo hi m = elim (dec_le m i) [
  | yes k ↦ rw (lt-ltb x (key m) (omega (arith, fall m i k)), le-ltb i m k)
  | no k ↦ rw (le-ltb x (key m) (omega (arith, fall (i + 1) m (omega arith))), lt-ltb i m (omega arith))
]

turned : (a b : Bool) → (not a && not (not b)) ≡ (b && not a)
turned true true = refl
turned true false = refl
turned false true = refl
turned false false = refl

module _ (a : Line) (c : ℕ) where
  -- a still ray is in its voxel from the start
  all_along : Goes still a.p a.q → (i t : ℕ) → Within a c t i → Within a c 0 i
  all_along g i t v = record { inside = v.inside; holds = v.holds; since = omega (arith, enter_voxel a c still g i, zero-mul c); until = omega (arith, v.until) }

  module _ (sized : Sized a) (from to i j : ℕ) (wi : Within a c from i) (wj : Within a c (to - 1) j) (h : from < to) where
    -- before `to` is not after the tick before it
    before : (x : ℕ) → ltb x to ≡ not (ltb (to - 1) x)
    before x = elim (dec_lt x to) [ yes k ↦ rw (lt-ltb x to k, le-ltb (to - 1) x (omega arith)) | no k ↦ rw (le-ltb x to (omega arith), lt-ltb (to - 1) x (omega arith)) ]

    still_same : Goes still a.p a.q → i ≡ j
    still_same g = one_voxel a sized c 0 (all_along g i from wi) (all_along g j (to - 1) wj)

    crossed_by_lem : (w : Way) → Goes w a.p a.q → crossed_on a c from to ≡ (i - j) + (j - i)
    crossed_by_lem up g =
        let first = above (up_key a c) (up_rise a c) from i (omega (arith, enter_voxel a c up g i, wi.since)) (omega (arith, leave_voxel a c up g i, wi.until)) in
        let last = above (up_key a c) (up_rise a c) (to - 1) j (omega (arith, enter_voxel a c up g j, wj.since)) (omega (arith, leave_voxel a c up g j, wj.until)) in
        let order : i ≤ j = elim (dec_le i j) [ yes k ↦ k | no k ↦ absurd (omega (arith, enter_voxel a c up g i, wi.since, leave_voxel a c up g j, wj.until, up_rise a c (j + 1) i (omega arith))) ] in
        counted (cross_at a c from to) i j (a.n + 1) (omega (arith, wj.inside))
        (λ m. rw (moves a.p a.q (omega arith), run_up a.p a.q (plane a m) g, first m, before (up_key a c m), last m) refl)
        ∙ omega arith
    crossed_by_lem down g =
        let first = above_down (down_key a c) (down_fall a c) from i (omega (arith, enter_voxel a c down g i, wi.since)) (omega (arith, leave_voxel a c down g i, wi.until)) in
        let last = above_down (down_key a c) (down_fall a c) (to - 1) j (omega (arith, enter_voxel a c down g j, wj.since)) (omega (arith, leave_voxel a c down g j, wj.until)) in
        let order : j ≤ i = elim (dec_le j i) [ yes k ↦ k | no k ↦ absurd (omega (arith, enter_voxel a c down g i, wi.since, leave_voxel a c down g j, wj.until, down_fall a c (i + 1) j (omega arith))) ] in
        counted (cross_at a c from to) j i (a.n + 1) (omega (arith, wi.inside))
        (λ m. rw (moves a.p a.q (omega arith), run_down a.p a.q (plane a m) (omega arith), first m, before (down_key a c m), last m) (turned (ltb i m) (ltb j m)))
        ∙ omega arith
    crossed_by_lem still g =
        let same = still_same g in
        total_zero (λ m. cond (cross_at a c from to m) 1 0) (a.n + 1) (λ m k. rw (stays a.p a.q g) refl) ∙ omega arith

    pub crossed_is : (i - j) + (j - i) ≡ crossed_on a c from to
    crossed_is = sym (crossed_by_lem (way_of a) (going a))
