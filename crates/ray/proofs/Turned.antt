-- Demand 3, a ray turned round: in every box it has the same length, and enters where the ray leaves. Assumes nothing.
use Prim.Native.Nat.{ℕ, ◌+◌, ◌-◌, ◌*◌, ◌≤◌, ◌<◌, min, max}
use mathlib.Core.Path.{◌≡◌, refl, sym, ap, ap₂, ◌∙◌}
use mathlib.Core.Bool.{true, ◌&&◌, cond}
use mathlib.Core.Bool.{or_comm}
use mathlib.Core.List.{List}
use mathlib.Core.Logic.{inl, inr}
use lib.ListN.{get_or}
use native.Mathlib.Nat.{sub_self, sub-zero}
use native.Mathlib.Omega.{arith}
use lib.IntN.{ℤ, nat_abs, ◌-ℤ◌}
use lib.Signed.{lt_z}
use Rattle.axis.specs.Leg.{Leg, moving, factor, Slab, held}
use Rattle.axis.proofs.Flag.{off_or_on}
use Rattle.axis.proofs.Shift.{shift}
use Rattle.ray.specs.declared.Ray.{Ray}
use Rattle.ray.specs.declared.axes.Side.{Side}
use Rattle.ray.specs.declared.axes.Side.TheVariants.{X, Y, Z}
use Rattle.ray.specs.Length.{leg, d_of, rest, squared_of, Volume, count, array, voxel, holds, start, stop, part_of, misses, span_of, total, sum_of, crosses, crossed_of}
use Rattle.ray.proofs.Through.{max_falls, min_falls, sides_as, either_as, sub_times}
use Rattle.ray.proofs.Down.{down_falls, later, Flipped, gap_down, leb_down, crossing_down}
use Rattle.ray.proofs.Tests.{tested}
use Rattle.ray.proofs.Told.{gap_shift, level}
use Rattle.ray.proofs.Different.{alpha_of}
use Rattle.ray.proofs.Way.{Way, up, down, still, Goes, Going, moving_by, factor_by_lem, run_by_lem, passed, told, still_same, held_same}
use Rattle.ray.proofs.Capped.{on, on_passed, d_side, enter, leave, begin, begin_sides, stop_sides, stop_cap, part, part_voxel, Met, met}

-- the leg from q to p
abbrev back : Leg → Leg
back l = record { p = l.q; q = l.p }

moving_back : (l : Leg) → moving (back l) ≡ moving l
moving_back l = or_comm (lt_z l.q l.p) (lt_z l.p l.q)

abs_back : (x y : ℤ) → nat_abs (y -ℤ x) ≡ nat_abs (x -ℤ y)
abs_back x y = level x y y (λ k hx hy hy'. omega (arith, gap_shift k y x hy hx, gap_shift k x y hx hy))

factor_back : (l : Leg) → factor (back l) ≡ factor l
factor_back l = rw (moving_back l, abs_back l.q l.p)

going_back : {k : ℕ} {l : Leg} {w : Way} → Going k w l → (w' : Way) → Goes w' (shift k l.q) (shift k l.p) → Going k w' (back l)
going_back t w' g = record { low_p = t.low_q; low_q = t.low_p; goes = g }

passed_back : (l : Leg) (c : ℤ) → moving l ≡ true → passed (back l) c ≡ factor l - passed l c
passed_back l c m = told l c c (λ k hc hm w. elim w as (λ v. Going k v l → passed (back l) c ≡ factor l - passed l c) [
  | up ↦ λ t. omega (arith, factor_back l, factor_by_lem up t, run_by_lem c hc down (going_back t down t.goes), run_by_lem c hc up t)
  | down ↦ λ t. omega (arith, factor_back l, factor_by_lem down t, run_by_lem c hc up (going_back t up t.goes), run_by_lem c hc down t)
  | still ↦ λ t. off_or_on (moving l) m (moving_by still t)
])

held_back : (l : Leg) (t : Slab) → held (back l) t ≡ held l t
held_back l = held_same l (back l) (moving_back l) (λ h. sym (still_same l h))

-- ---- the ray from Q to P

abbrev pub turned : Ray → Ray
turned r = record { p = r.q; q = r.p }

module _ (r : Ray) where
  leg_turned : (s : Side) → leg (turned r) s ≡ back (leg r s)
  leg_turned X = refl
  leg_turned Y = refl
  leg_turned Z = refl

  pub moving_turned : (s : Side) → moving (leg (turned r) s) ≡ moving (leg r s)
  moving_turned s = ap moving (leg_turned s) ∙ moving_back (leg r s)

  factor_turned : (s : Side) → factor (leg (turned r) s) ≡ factor (leg r s)
  factor_turned s = ap factor (leg_turned s) ∙ factor_back (leg r s)

  pub d_turned : d_of (turned r) ≡ d_of r
  d_turned = rw (factor_turned X, factor_turned Y, factor_turned Z)

  rest_turned : (s : Side) → rest (turned r) s ≡ rest r s
  rest_turned X = rw (factor_turned Y, factor_turned Z)
  rest_turned Y = rw (factor_turned X, factor_turned Z)
  rest_turned Z = rw (factor_turned X, factor_turned Y)

  on_turned : (s : Side) (c : ℤ) → moving (leg r s) ≡ true → on (turned r) s c ≡ d_of r - on r s c
  on_turned s c m =
      on_passed (turned r) s c
      ∙ ap (λ (l : Leg). passed l c * rest (turned r) s) (leg_turned s)
      ∙ rw (rest_turned s, passed_back (leg r s) c m, sub_times (factor (leg r s)) (passed (leg r s) c) (rest r s), ← d_side r s, ← on_passed r s c)

  pub holds_turned : (b : Side → Slab) → holds (turned r) b ≡ holds r b
  holds_turned b = rw (held_back (leg r X) (b X), held_back (leg r Y) (b Y), held_back (leg r Z) (b Z))

  abbrev from_q : ℕ → ℕ
  from_q x = d_of r - x

  enter_turned : (s : Side) (t : Slab) → enter (turned r) s t ≡ from_q (leave r s t)
  unfolding enter leave
  enter_turned s t =
      rw (moving_turned s)
      (either_as (λ x. x) from_q min max min (λ a b. refl) (min_falls from_q (down_falls (d_of r))) (moving (leg r s)) (on_turned s t.lo) (on_turned s t.hi) (sym (sub_self (d_of r))))

  leave_turned : (s : Side) (t : Slab) → leave (turned r) s t ≡ from_q (enter r s t)
  unfolding enter leave
  leave_turned s t =
      rw (moving_turned s)
      (either_as (λ x. x) from_q max min max (λ a b. refl) (max_falls from_q (down_falls (d_of r))) (moving (leg r s)) (on_turned s t.lo) (on_turned s t.hi) (d_turned ∙ sym (sub-zero (d_of r))))

  -- the ray turned enters a box where the ray leaves it, told from the other end, and the other way round
  pub begin_turned : (b : Side → Slab) → begin (turned r) b ≡ d_of r - stop r b
  begin_turned b = rw (begin_sides (turned r) b, stop_sides r b) (sides_as (λ x. x) from_q max min max (λ a b. refl) (max_falls from_q (down_falls (d_of r))) _ _ (λ s. enter_turned s (b s)))

  pub stop_turned : (b : Side → Slab) → stop (turned r) b ≡ d_of r - begin r b
  stop_turned b = rw (stop_sides (turned r) b, begin_sides r b) (sides_as (λ x. x) from_q min max min (λ a b. refl) (min_falls from_q (down_falls (d_of r))) _ _ (λ s. leave_turned s (b s)))

  flipped : (b : Side → Slab) → Flipped (d_of r) (start r b) (stop r b) (start (turned r) b) (stop (turned r) b)
  flipped b = record { cap = stop_cap r b; begins = ap (λ (d : ℕ). min d (start (turned r) b)) (sym d_turned) ∙ begin_turned b; stops = stop_turned b }

  -- the same length in every box
  pub part_turned : (b : Side → Slab) → part (turned r) b ≡ part r b
  unfolding part
  part_turned b = rw (holds_turned b, gap_down (flipped b))

  -- of two boxes that the ray meets one after the other, the ray turned meets the second first
  pub order_turned : (a b : Side → Slab) → 0 < part r a → 0 < part r b → stop r a ≤ start r b → start (turned r) b < start (turned r) a
  order_turned a b ha hb h =
      let ma : Met (turned r) a = met (turned r) a (rw (part_turned a) ha) in
      let mb : Met (turned r) b = met (turned r) b (rw (part_turned b) hb) in
      later (d_of r) (stop r a) (start r b) (stop r b) _ _ (met r b hb).some h (stop_cap r b) (sym ma.begins ∙ begin_turned a) (sym mb.begins ∙ begin_turned b)

  pub squared_turned : squared_of (turned r) ≡ squared_of r
  squared_turned = rw (abs_back r.p.x r.q.x, abs_back r.p.y r.q.y, abs_back r.p.z r.q.z)

module _ (v : Volume) (r : Ray) where
  pub misses_turned : misses v (turned r) ≡ misses v r
  unfolding misses
  misses_turned = rw (holds_turned r (array v), leb_down (flipped r (array v)))

  pub span_turned : span_of v (turned r) ≡ span_of v r
  unfolding span_of
  span_turned = rw (misses_turned, gap_down (flipped r (array v)))

  pub voxel_turned : (m : ℕ) → part_of v (turned r) m ≡ part_of v r m
  voxel_turned m = part_voxel v (turned r) m ∙ part_turned r (voxel v m) ∙ sym (part_voxel v r m)

  pub sum_turned : (densities : List ℕ) → sum_of v (turned r) densities ≡ sum_of v r densities
  unfolding sum_of
  sum_turned densities = λ t. total (λ m. voxel_turned m t * get_or densities m 0) (count v)

  -- a plane is crossed either way
  pub crosses_turned : (s : Side) (i : ℕ) → crosses v (turned r) s i ≡ crosses v r s i
  unfolding crosses on
  crosses_turned s i = elim (tested (moving (leg r s))) [
    | inl e ↦ ap₂ ◌&&◌ (moving_turned r s)
        (crossing_down (flipped r (array v)) (alpha_of v r s i) (alpha_of v (turned r) s i) (ap (λ (d : ℕ). min d (alpha_of v (turned r) s i)) (sym (d_turned r)) ∙ on_turned r s ((v s).at i) e))
    | inr e ↦ rw (moving_turned r s, e)
  ]

  pub crossed_turned : crossed_of v (turned r) ≡ crossed_of v r
  unfolding crossed_of
  crossed_turned = λ t. let on : Side → ℕ = λ s. total (λ i. cond (crosses_turned s i t) 1 0) ((v s).n + 1) in cond (misses_turned t) 0 (on X + on Y + on Z)
